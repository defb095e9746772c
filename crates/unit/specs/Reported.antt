-- What a unit's kept reports let it put or take.
use Rattle.std.specs.Prelude.{◌≡◌, ℕ, zero, suc, ◌^◌, Bool, List, [], ◌∷◌, map, length, set, Some, None, Option, bit_or, refl}
use Rattle.std.proofs.Common.{sym, ◌∙◌, ap, arith}
use Rattle.std.proofs.Math.Bool.{Bool-discrete}
use mathlib.Core.List.{List-discrete}
use Rattle.std.proofs.Math.Decide.{ℕ_discrete, dec_lt}
use Rattle.base.specs.Limits.{units_most}
use Rattle.sets.specs.Sets.{Has}
use Rattle.sets.specs.Decisions.{pick, as?, both?, not?, some?, has?, all_in?}
use Rattle.table.specs.Tables.{QuorumTable, IsQuorum, quorum_at, In}
use Rattle.ticket.specs.declared.writing.Writing.{Writing}
use Rattle.rows.specs.declared.row.Row.{Row}
use Rattle.rows.specs.Rows.{Grid, row_in}
use Rattle.rows.specs.Decided.{same?}
use Rattle.choice.specs.Chosen.{choice_of}
use Rattle.choice.specs.declared.choice.Choice.{Choice}
use Rattle.choice.specs.declared.choice.Choice.TheVariants.{Free, Only, Torn}
use Rattle.unit.specs.States.{State}

-- the choice lets the ticket be put
abbrev pub Allows : Choice Writing → Writing → Type 0
Allows Free t = Unit {0}
Allows (Only s) t = s ≡ t
Allows Torn t = ⊥

abbrev pub allows? : (c : Choice Writing) (t : Writing) → Dec (Allows c t)
allows? Free t = yes tt
allows? (Only s) t = same? s t
allows? Torn t = no (λ k. k)

abbrev pub Torn? : Choice Writing → Type 0
Torn? Free = ⊥
Torn? (Only t) = ⊥
Torn? Torn = Unit {0}

abbrev pub torn? : (c : Choice Writing) → Dec (Torn? c)
torn? Free = no (λ k. k)
torn? (Only t) = no (λ k. k)
torn? Torn = yes tt

-- what is put where a ticket was handed in; a torn choice puts nothing
abbrev pub ticket_by : Choice Writing → Writing → Writing
ticket_by Free t = t
ticket_by (Only s) t = s
ticket_by Torn t = t

abbrev pub or_else : Option ℕ → Option ℕ → Option ℕ
or_else (Some p) o = Some p
or_else None o = o

-- the least number below n of which P holds
unfoldable pub least? : {P : ℕ → Type 0} → ((p : ℕ) → Dec (P p)) → ℕ → Option ℕ
least? d zero = None
least? d (suc n) = or_else (least? d n) (pick (d n) (Some n) None)

module _ (tb : QuorumTable) (s : State) where
  -- a report of each unit of the quorum at place q is kept
  abbrev pub FullyReported : ℕ → Type 0
  FullyReported q = (x : ℕ) → In tb q x → Has s.reported x

  abbrev pub fully? : (q : ℕ) → Dec (FullyReported q)
  fully? q = all_in? (quorum_at tb q).set (has? s.reported)

  -- the choice from the reports of the quorum at place q
  abbrev pub choice_at : ℕ → Choice Writing
  choice_at q = choice_of tb q s.reports s.view

  -- some fully reported quorum gives free or only this ticket
  abbrev pub SomeAllows : Writing → Type 0
  SomeAllows t = (q : ℕ) × IsQuorum tb q × (FullyReported q × Allows (choice_at q) t)

  abbrev pub some_allows? : (t : Writing) → Dec (SomeAllows t)
  some_allows? t = some? (λ q. both? (fully? q) (allows? (choice_at q) t)) (length tb.quorums)

  abbrev pub some_fully? : Dec ((q : ℕ) × IsQuorum tb q × FullyReported q)
  some_fully? = some? fully? (length tb.quorums)

  -- the first listed quorum that is fully reported and whose choice is not torn
  abbrev pub deciding : Option ℕ
  deciding = least? (λ q. both? (fully? q) (not? (torn? (choice_at q)))) (length tb.quorums)

  -- the ticket that is put: in view 0 the one handed in, later what the deciding quorum's choice says
  abbrev pub by_deciding : Option ℕ → Writing → Writing
  by_deciding None t = t
  by_deciding (Some q) t = ticket_by (choice_at q) t

  abbrev pub put_ticket : Writing → Writing
  put_ticket t = pick (dec_lt 0 s.view) (by_deciding deciding t) t

-- the choice as it is shown: none where the quorum is not listed or not fully reported
abbrev pub shown_choice : QuorumTable → State → ℕ → Option (Choice Writing)
shown_choice tb s q = pick (dec_lt q (length tb.quorums)) (pick (fully? tb s q) (Some (choice_at tb s q)) None) None

-- equality of rows and of reports
pub same_parts : (r s : Row) → (r.ticket ≡ s.ticket) × ((r.set ≡ s.set) × (r.mark ≡ s.mark)) → r ≡ s
same_parts r s (et, (es, em)) =
    ap (λ (z : Writing). row_with z r.set r.mark) et ∙ (ap (λ z. row_with s.ticket z r.mark) es ∙ ap (row_with s.ticket s.set) em)
  where
    row_with : Writing → ℕ → Bool → Row
    row_with t z m = record { ticket = t; set = z; mark = m }

unfoldable pub same_row? : (r s : Row) → Dec (r ≡ s)
same_row? r s =
    as? (same_parts r s) (λ e. (ap (λ (z : Row). z.ticket) e, (ap (λ (z : Row). z.set) e, ap (λ (z : Row). z.mark) e)))
    (both? (same? r.ticket s.ticket) (both? (ℕ_discrete r.set s.set) (Bool-discrete r.mark s.mark)))

pub some_differs : (r : Row) → ¬ (◌≡◌ {A = Option Row} (Some r) None)
some_differs r e = let z : ◌≡◌ {A = ℕ} 0 1 = cc in omega arith

unfoldable pub same_said? : (a b : Option Row) → Dec (a ≡ b)
same_said? None None = yes refl
same_said? None (Some s) = no (λ e. some_differs s (sym e))
same_said? (Some r) None = no (some_differs r)
same_said? (Some r) (Some s) = as? (ap Some) (λ e. cc) (same_row? r s)

unfoldable pub same_rows? : (a b : List (Option Row)) → Dec (a ≡ b)
same_rows? = List-discrete same_said?

-- a report's rows, filed under its sender in each view
abbrev pub head_row : List (Option Row) → Option Row
head_row [] = None
head_row (r ∷ rows) = r

abbrev pub rest_rows : List (Option Row) → List (Option Row)
rest_rows [] = []
rest_rows (r ∷ rows) = rows

unfoldable pub filed : ℕ → List (Option Row) → Grid → Grid
filed x rows [] = []
filed x rows (c ∷ cs) = set c x (head_row rows) ∷ filed x (rest_rows rows) cs

-- the rows of the report that is kept of a sender
abbrev pub report_of : ℕ → Grid → List (Option Row)
report_of x grid = map (λ rows. row_in rows x) grid

-- the mask with unit x, if a mask can hold it
abbrev pub with_unit : ℕ → ℕ → ℕ
with_unit m x = pick (dec_lt x units_most) (bit_or m (2 ^ x)) m
