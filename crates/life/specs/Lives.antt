-- The life of one unit: its acts, one after another, and what every state of it rests on.
use Rattle.std.specs.Prelude.{◌≡◌, ℕ, ◌<◌, ◌≤◌, true, [], length, Some, None, Option, slice_index_or}
use Rattle.base.specs.Limits.{units_most}
use Rattle.sets.specs.Sets.{Has}
use Rattle.table.specs.Tables.{QuorumTable, IsQuorum}
use Rattle.rows.specs.declared.row.Row.{Row}
use Rattle.rows.specs.Rows.{Grid, cell, Holds, For, Filled}
use Rattle.growth.specs.Growth.{Entire, Spread, Met}
use Rattle.unit.specs.declared.announcement.Announcement.{Announcement}
use Rattle.unit.specs.States.{State, own_at, fresh_of}
pub use Rattle.unit.specs.Laws.{Grows}
use Rattle.unit.specs.Acts.{Act, act_fault, act_done}

-- what is said the first time, if anything, is said the second time too
abbrev pub Up : Option Row → Option Row → Type 0
Up None o = Unit {0}
Up (Some r) o = Holds o (Grows r)

-- if there is a row, P holds of it
abbrev pub IfAny : Option Row → (Row → Type 0) → Type 0
IfAny None P = Unit {0}
IfAny (Some r) P = P r

-- a unit goes on: its view does not fall, its rows of the views below stay, and its rows only grow
pub record Onward (a b : State) : Type 0 where
  pub later : a.view ≤ b.view
  pub frozen : (v : ℕ) → v < a.view → own_at b v ≡ own_at a v
  pub grows : (v : ℕ) → Up (own_at a v) (own_at b v)

-- what a row rests on, h being what was heard in its view: each quorum that it names was heard entire with its ticket;
-- with the mark it names one, and some quorum was heard entire with its ticket and sets that are not empty
pub record FoundedRow (tb : QuorumTable) (h : ℕ → Option Row) (r : Row) : Type 0 where
  pub named : (p : ℕ) → Has r.set p → IsQuorum tb p × Entire tb h p (For r.ticket)
  pub filled : r.mark ≡ true → Filled r
  pub spread : r.mark ≡ true → Spread tb h r.ticket

-- an announcement rests on a quorum heard entire as its rule asks
abbrev pub Grounded : QuorumTable → Grid → Option Announcement → Type 0
Grounded tb heard None = Unit {0}
Grounded tb heard (Some a) = Met tb (cell heard a.view) a.rule a.ticket

-- a grid of n views with a place for each unit
abbrev pub Shaped : ℕ → Grid → Type 0
Shaped n grid = (length grid ≡ n) × ((v : ℕ) → v < n → length (slice_index_or grid v []) ≡ units_most)

-- what holds of every state of a unit's life; n: the number of views
pub record Founded (n : ℕ) (tb : QuorumTable) (s : State) : Type 0 where
  -- it has no row in a view that it has not reached
  pub above : (v : ℕ) → s.view < v → own_at s v ≡ None
  pub rows : (v : ℕ) → IfAny (own_at s v) (FoundedRow tb (cell s.heard v))
  pub grounds : Grounded tb s.heard s.announced
  -- its view is one of the n, and it keeps reports for as many
  pub within : s.view ≤ n
  pub inside : 0 < n → s.view < n
  pub shape : Shaped n s.reports

-- the states of unit u: from a fresh one, through accepted acts
pub data Life (n : ℕ) (tb : QuorumTable) (u : ℕ) : State → Type 0 where
  begins : Life n tb u (fresh_of n)
  goes : {s : State} (act : Act) → Life n tb u s → act_fault n tb u act s ≡ None → Life n tb u (act_done n tb u act s)
