-- The state of a control unit: what a unit means.
use Rattle.std.specs.Prelude.{ℕ, zero, suc, List, [], ◌∷◌, replicate, None, Option}
use Rattle.base.specs.Limits.{views, units_most}
use Rattle.ticket.specs.declared.writing.Writing.{Writing}
use Rattle.rows.specs.declared.row.Row.{Row}
use Rattle.rows.specs.Rows.{Grid, row_in, cell}
pub use Rattle.unit.specs.declared.announcement.Announcement.{Announcement}
use Rattle.unit.specs.declared.state.ControlUnit.{ControlUnit}

-- own: its row of each view; put: its put of this view; heard: rows by view and sender;
-- reported: the senders whose report of this view is kept; reports: the rows of those reports, by view and sender
pub record State : Type 0 where
  pub view : ℕ
  pub own : List (Option Row)
  pub put : Option Writing
  pub heard : Grid
  pub reported : ℕ
  pub reports : Grid
  pub announced : Option Announcement

-- today the state is stored as it is spoken of; a change of the storage changes only this
abbrev pub means : ControlUnit → State
means u = record {
  view = u.view;
  own = u.own;
  put = u.put;
  heard = u.heard;
  reported = u.reported;
  reports = u.reports;
  announced = u.announced;
}

abbrev pub own_at : State → ℕ → Option Row
own_at s v = row_in s.own v

abbrev pub heard_at : State → ℕ → ℕ → Option Row
heard_at s v x = cell s.heard v x

-- no row of any view and sender; n: the number of views
abbrev pub blank_of : ℕ → Grid
blank_of n = replicate n (replicate units_most None)

-- a unit that has done and heard nothing
abbrev pub fresh_of : ℕ → State
fresh_of n = record {
  view = 0;
  own = replicate n None;
  put = None;
  heard = blank_of n;
  reported = 0;
  reports = blank_of n;
  announced = None;
}

-- both with the views of the limits
abbrev pub blank : Grid
blank = blank_of views

abbrev pub fresh : State
fresh = fresh_of views

-- the rows of the views below w, none at and above it: what a unit reports for view w
unfoldable pub below : ℕ → List (Option Row) → List (Option Row)
below w [] = []
below zero (r ∷ rows) = None ∷ below zero rows
below (suc w) (r ∷ rows) = r ∷ below w rows
