-- Rows, lists of rows, and what is asked of a row.
use Rattle.std.specs.Prelude.{◌≡◌, ℕ, true, List, [], Some, None, Option, slice_index_or}
use Rattle.sets.specs.Sets.{Has}
pub use Rattle.ticket.specs.declared.writing.Writing.{Writing}
pub use Rattle.rows.specs.declared.row.Row.{Row}
pub use Rattle.rows.specs.declared.asked.Test.{Test}
use Rattle.rows.specs.declared.asked.Test.TheVariants as tests

-- the row at a place of a list: of a view, in a list by views; of a sender, in a list by senders
abbrev pub row_in : List (Option Row) → ℕ → Option Row
row_in rows i = slice_index_or rows i None

-- there is a row, and P holds of it
abbrev pub Holds : Option Row → (Row → Type 0) → Type 0
Holds None P = ⊥
Holds (Some r) P = P r

-- the row has the ticket; with the place p; with a set that is not empty; with the mark
abbrev pub For : Writing → Row → Type 0
For t r = r.ticket ≡ t

abbrev pub ForAt : Writing → ℕ → Row → Type 0
ForAt t p r = (r.ticket ≡ t) × Has r.set p

abbrev pub Filled : Row → Type 0
Filled r = (p : ℕ) × Has r.set p

abbrev pub ForFilled : Writing → Row → Type 0
ForFilled t r = (r.ticket ≡ t) × Filled r

abbrev pub ForMarked : Writing → Row → Type 0
ForMarked t r = (r.ticket ≡ t) × (r.mark ≡ true)

-- the row has another ticket; with a set that is not empty
abbrev pub Against : Writing → Row → Type 0
Against t r = ¬ (r.ticket ≡ t)

abbrev pub AgainstFilled : Writing → Row → Type 0
AgainstFilled t r = Against t r × Filled r

-- what each test asks
abbrev pub Wanted : Test → Writing → Row → Type 0
Wanted tests.Ticket t r = For t r
Wanted (tests.Place p) t r = ForAt t p r
Wanted tests.Filled t r = ForFilled t r
Wanted tests.Marked t r = ForMarked t r
Wanted tests.Other t r = Against t r
Wanted tests.OtherFilled t r = AgainstFilled t r

-- rows by view and sender, from 0 on: what a unit heard, and what was reported to it
abbrev pub Grid : Type 0
Grid = List (List (Option Row))

abbrev pub cell : Grid → ℕ → ℕ → Option Row
cell grid v x = row_in (slice_index_or grid v []) x
