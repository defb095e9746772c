-- Laws of the rules.
use Rattle.std.specs.Prelude.{◌≡◌, ℕ, ◌<◌, true, Some, None}
use Rattle.sets.specs.Sets.{Has}
use Rattle.rows.specs.declared.row.Row.{Row}
use Rattle.table.specs.Tables.{QuorumTable}
use Rattle.ticket.specs.declared.writing.Writing.{Writing}
use Rattle.unit.specs.States.{State, own_at, fresh}
use Rattle.unit.specs.Rules.{own_put_fault, on_own_put, raise_fault, on_raise}
use Rattle.unit.specs.Letters.{Letter, letter_fault, letter_done}

-- no letter moves the view, and no letter touches the own row of a view that the unit is not in
pub record LetterKeeps (tb : QuorumTable) (x : ℕ) (letter : Letter) (s : State) : Type 0 where
  pub same_view : (letter_done tb x letter s).view ≡ s.view
  pub other_rows : (v : ℕ) → ¬ (v ≡ s.view) → own_at (letter_done tb x letter s) v ≡ own_at s v

-- putting moves no view and touches no own row; raising moves the view up and touches no own row
pub record ActionKeeps (tb : QuorumTable) (s : State) : Type 0 where
  pub put_view : (t : Writing) → (on_own_put tb t s).view ≡ s.view
  pub put_rows : (t : Writing) → (on_own_put tb t s).own ≡ s.own
  pub raise_up : (u w : ℕ) → raise_fault u w s ≡ None → s.view < (on_raise w s).view
  pub raise_rows : (w : ℕ) → (on_raise w s).own ≡ s.own

-- so a row in a view that was left never changes
abbrev pub LeftRowsStay : Type 0
LeftRowsStay = (tb : QuorumTable) (s : State) → ((x : ℕ) (letter : Letter) → LetterKeeps tb x letter s) × ActionKeeps tb s

-- the second row says all that the first says
pub record Grows (r r' : Row) : Type 0 where
  pub ticket : r'.ticket ≡ r.ticket
  pub set : (p : ℕ) → Has r.set p → Has r'.set p
  pub mark : r.mark ≡ true → r'.mark ≡ true

-- the states of a unit: from a fresh one, through accepted calls
pub data Life (tb : QuorumTable) : State → Type 0 where
  starts : Life tb fresh
  receives : {s : State} (x : ℕ) (letter : Letter) → Life tb s → letter_fault tb x letter s ≡ None → Life tb (letter_done tb x letter s)
  puts : {s : State} (u : ℕ) (t : Writing) → Life tb s → own_put_fault tb u s ≡ None → Life tb (on_own_put tb t s)
  raises : {s : State} (u w : ℕ) → Life tb s → raise_fault u w s ≡ None → Life tb (on_raise w s)

-- in a unit's life rows only grow: an own row that a letter finds is there after it, with the same ticket and all that it said
abbrev pub RowsOnlyGrow : Type 0
RowsOnlyGrow =
    (tb : QuorumTable) (s : State) → Life tb s → (x : ℕ) (letter : Letter) → letter_fault tb x letter s ≡ None
    → (v : ℕ) (r : Row) → own_at s v ≡ Some r → (r' : Row) × (own_at (letter_done tb x letter s) v ≡ Some r') × Grows r r'
