-- What units say to each other.
use Rattle.std.specs.Prelude.{ℕ, List, Option}
use Rattle.rows.specs.Rows.{Writing, Row}

-- a view and its leader's ticket; a view and the sender's row of it; a view and the sender's rows, or none, of the views from 0 on
pub data Said : Type 0 where
  says_put : ℕ → Writing → Said
  says_row : ℕ → Row → Said
  says_report : ℕ → List (Option Row) → Said
