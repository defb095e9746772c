-- What holds at every moment of a run, in parts; every accepted act keeps it.
use Rattle.std.specs.Prelude.{◌≡◌, ℕ, ◌<◌, ◌≤◌, Some, None, Option}
use mathlib.Core.List.{Memᴰ}
use Rattle.sets.specs.Sets.{Has}
use Rattle.table.specs.Tables.{QuorumTable, IsQuorum, In}
use Rattle.ticket.specs.declared.writing.Writing.{Writing}
use Rattle.rows.specs.declared.row.Row.{Row}
use Rattle.rows.specs.Rows.{Grid, row_in, cell, Holds}
use Rattle.rows.specs.Said.{Said, says_put, says_row, says_report}
use Rattle.choice.specs.Chosen.{choice_of}
use Rattle.unit.specs.States.{State, own_at, heard_at}
use Rattle.unit.specs.Reported.{Allows}
use Rattle.life.specs.Lives.{Grows, Up, IfAny, Founded}
use Rattle.agreement.specs.Runs.{sent_by, Course, Sound}

-- no unit is false
abbrev pub NoneFalse : ℕ → Type 0
NoneFalse falses = (x : ℕ) → ¬ (Has falses x)

abbrev pub IfPut : Option Writing → (Writing → Type 0) → Type 0
IfPut None P = Unit {0}
IfPut (Some t) P = P t

module _ (n : ℕ) (tb : QuorumTable) (falses : ℕ) (c : Course) where
  -- what unit x, which has reached view w, said of its views below w: its rows there, which never change again
  abbrev pub TrueRows : (ℕ → Option Row) → ℕ → ℕ → Type 0
  TrueRows rows w x = ((v : ℕ) → v < w → rows v ≡ own_at (c.units x) v) × (w ≤ (c.units x).view)

  -- a ticket of view w came with a listed quorum and its reports, true for its sound units, whose choice allows the ticket
  pub record ChosenFrom (w : ℕ) (t : Writing) : Type 0 where
    pub quorum : ℕ
    pub listed : IsQuorum tb quorum
    pub reports : Grid
    pub true_rows : (x : ℕ) → In tb quorum x → Sound tb falses x → TrueRows (λ v. cell reports v x) w x
    pub allowed : Allows (choice_of tb quorum reports w) t

  -- what a sound unit sent, it says: its row has grown since, its report is its rows, and a put was handed in if no unit is false
  abbrev pub IsSaid : ℕ → Said → Type 0
  IsSaid x (says_put v t) = NoneFalse falses → Memᴰ t c.handed
  IsSaid x (says_row v r) = Holds (own_at (c.units x) v) (Grows r)
  IsSaid x (says_report w rows) = TrueRows (row_in rows) w x

  -- what holds of a sound unit's state s
  pub record Fit (s : State) : Type 0 where
    -- what it names, marks and announces rests on what it heard
    pub founded : Founded n tb s
    -- what it heard of a sound unit, that unit says
    pub heard_is_said : (x v : ℕ) → Sound tb falses x → Up (heard_at s v x) (own_at (c.units x) v)
    -- a report that it keeps of a sound unit is that unit's rows
    pub kept_is_said : (x : ℕ) → Sound tb falses x → Has s.reported x → TrueRows (λ v. cell s.reports v x) s.view x
    -- its rows above view 0 were chosen
    pub chosen : (w : ℕ) → 0 < w → IfAny (own_at s w) (λ r. ChosenFrom w r.ticket)
    -- with no false unit, what it holds and what it put was handed in
    pub rows_handed : NoneFalse falses → (v : ℕ) → IfAny (own_at s v) (λ r. Memᴰ r.ticket c.handed)
    pub put_handed : NoneFalse falses → IfPut s.put (λ t. Memᴰ t c.handed)

  pub record Invariant : Type 0 where
    pub fit : (u : ℕ) → Sound tb falses u → Fit (c.units u)
    pub sent_is_said : (x : ℕ) (said : Said) → Sound tb falses x → Memᴰ (sent_by x said) c.sent → IsSaid x said
