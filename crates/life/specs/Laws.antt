-- Laws of the life of one unit, for every number of views.
use Rattle.std.specs.Prelude.{◌≡◌, ℕ, None}
use Rattle.table.specs.Tables.{QuorumTable}
use Rattle.unit.specs.States.{State, own_at}
use Rattle.rows.specs.Said.{Said}
use Rattle.unit.specs.Letters.{said_done_in}
use Rattle.unit.specs.Acts.{Act, act_fault, act_done}
use Rattle.life.specs.Lives.{Onward, Founded, Life}

-- no act touches the own row of a view that the unit is not in
abbrev pub OtherRowsStay : Type 0
OtherRowsStay =
    (n : ℕ) (tb : QuorumTable) (u : ℕ) (act : Act) (s : State) (v : ℕ) → ¬ (v ≡ s.view) → own_at (act_done n tb u act s) v ≡ own_at s v

-- nothing that is said to a unit moves its view
abbrev pub LettersKeepTheView : Type 0
LettersKeepTheView = (n : ℕ) (tb : QuorumTable) (x : ℕ) (said : Said) (s : State) → (said_done_in n tb x said s).view ≡ s.view

-- every state of a unit's life is founded
abbrev pub LivesAreFounded : Type 0
LivesAreFounded = (n : ℕ) (tb : QuorumTable) (u : ℕ) (s : State) → Life n tb u s → Founded n tb s

-- an accepted act of a unit's life goes on: views rise, rows of left views stay, rows only grow
abbrev pub RowsOnlyGrow : Type 0
RowsOnlyGrow =
    (n : ℕ) (tb : QuorumTable) (u : ℕ) (s : State) → Life n tb u s → (act : Act) → act_fault n tb u act s ≡ None → Onward s (act_done n tb u act s)
