-- The rules of a unit, each a function on its state.
use Rattle.std.specs.Prelude.{ℕ, ◌%◌, false, ◌||◌, List, [], Some, None, Option, bit_or, slice_index_or, slice_set}
use Rattle.std.proofs.Math.Decide.{ℕ_discrete, dec_lt}
use Rattle.base.specs.Limits.{views}
use Rattle.sets.specs.Decisions.{pick, both?, if?, has?}
use Rattle.table.specs.Tables.{QuorumTable}
use Rattle.ticket.specs.declared.writing.Writing.{Writing}
use Rattle.rows.specs.declared.row.Row.{Row}
use Rattle.rows.specs.declared.rule.Rule.{Rule}
use Rattle.rows.specs.Rows.{Grid, cell}
use Rattle.rows.specs.Decided.{same?}
use Rattle.growth.specs.Growth.{grown, least_rule}
use Rattle.unit.specs.States.{Announcement, State, own_at, heard_at, blank_of}
use Rattle.unit.specs.Reported.{some_allows?, some_fully?, deciding, put_ticket, filed, report_of, with_unit, same_rows?}
use Rattle.unit.specs.declared.fault.UnitFault.{UnitFault}
use Rattle.unit.specs.declared.fault.UnitFault.TheVariants as faults

-- two rows of one ticket, as one
abbrev pub joined : Row → Row → Row
joined r r' = record { ticket = r.ticket; set = bit_or r.set r'.set; mark = r.mark || r'.mark }

-- what is held of a sender once a row arrives
abbrev pub noted : Option Row → Row → Row
noted None r = r
noted (Some o) r = joined o r

-- the grid with a cell changed
abbrev pub with_cell : Grid → ℕ → ℕ → Option Row → Grid
with_cell grid v x o = slice_set grid v (slice_set (slice_index_or grid v []) x o)

-- 54: does the row's ticket agree with the one heard of the sender in that view?
abbrev pub ticket_fault : ℕ → Option Row → Row → Option UnitFault
ticket_fault x None r = None
ticket_fault x (Some o) r = pick (same? r.ticket o.ticket) None (Some (faults.OtherTicket x))

-- a row is noted
abbrev pub hear : ℕ → ℕ → Row → State → State
hear x v r s = record s { heard = with_cell s.heard v x (Some (noted (heard_at s v x) r)) }

abbrev pub with_put : Option Writing → State → State
with_put p s = record s { put = p }

-- the state with another own row in its view
abbrev pub with_own : Option Row → State → State
with_own o s = record s { own = slice_set s.own s.view o }

-- what is announced by what was heard in view v
abbrev pub ruled : ℕ → Writing → Option Rule → Option Announcement
ruled v t None = None
ruled v t (Some rule) = Some (record { ticket = t; view = v; rule = rule })

abbrev pub announced_or : Option Announcement → Option Announcement → Option Announcement
announced_or None found = found
announced_or (Some a) found = Some a

abbrev pub with_announced : Option Announcement → State → State
with_announced a s = record s { announced = a }

abbrev pub grown_own : QuorumTable → Option Row → State → State
grown_own tb None s = s
grown_own tb (Some r) s = with_own (Some (grown tb (cell s.heard s.view) r)) s

-- n: the number of views
module _ (n : ℕ) (tb : QuorumTable) where
  -- the own row of the unit's view grows, if there is one
  abbrev pub grow_own_in : State → State
  grow_own_in s = pick (dec_lt s.view n) (grown_own tb (own_at s s.view) s) s

  -- a row of view v lets the own row grow only in the unit's view
  abbrev pub grow_at_in : ℕ → State → State
  grow_at_in v s = pick (ℕ_discrete v s.view) (grow_own_in s) s

  -- the announcement is tested; it is made once
  abbrev pub announce_in : ℕ → Writing → State → State
  announce_in v t s =
      pick (dec_lt v n) (with_announced (announced_or s.announced (ruled v t (least_rule tb (cell s.heard v) t))) s) s

  -- a row arrives
  abbrev pub on_row_in : ℕ → ℕ → Row → State → State
  on_row_in x v r s = announce_in v r.ticket (grow_at_in v (hear x v r s))

  -- a put arrives: the own row becomes its ticket with an empty set and no mark, and grows
  abbrev pub on_put_in : Writing → State → State
  on_put_in t s = grow_own_in (with_own (Some (record { ticket = t; set = 0; mark = false })) s)

module _ (tb : QuorumTable) where
  -- these with the views of the limits
  abbrev pub grow_own : State → State
  grow_own = grow_own_in views tb

  abbrev pub grow_at : ℕ → State → State
  grow_at = grow_at_in views tb

  abbrev pub announce : ℕ → Writing → State → State
  announce = announce_in views tb

  abbrev pub on_row : ℕ → ℕ → Row → State → State
  on_row = on_row_in views tb

  abbrev pub on_put : Writing → State → State
  on_put = on_put_in views tb

  -- 50 to 53: does the sender lead the put's view, is that the unit's view, has it no row there, and in later views
  -- does some fully reported quorum give free or only this ticket?
  abbrev pub no_row_there : ℕ → Option Row → Option UnitFault → Option UnitFault
  no_row_there x None next = next
  no_row_there x (Some r) next = Some (faults.RowThere x)

  abbrev pub put_fault : ℕ → ℕ → Writing → State → Option UnitFault
  put_fault x v t s =
      pick (ℕ_discrete (v % tb.units) x)
      (pick (ℕ_discrete v s.view)
      (no_row_there x (own_at s s.view) (pick (if? (dec_lt 0 s.view) (some_allows? tb s t)) None (Some (faults.NotChosen x))))
      (Some (faults.PutForOther x)))
      (Some (faults.PutByOther x))

  -- 22 to 25: does the unit lead its view, has it not put here, is some quorum fully reported, is the choice of one of these not torn?
  abbrev pub not_put : ℕ → Option Writing → Option UnitFault → Option UnitFault
  not_put u None next = next
  not_put u (Some t) next = Some (faults.PutBefore u)

  abbrev pub decided : ℕ → Option ℕ → Option UnitFault
  decided u None = Some (faults.AllTorn u)
  decided u (Some q) = None

  abbrev pub own_put_fault : ℕ → State → Option UnitFault
  own_put_fault u s =
      pick (ℕ_discrete (s.view % tb.units) u)
      (not_put u s.put
      (pick (dec_lt 0 s.view) (pick (some_fully? tb s) (decided u (deciding tb s)) (Some (faults.NotReported u))) None))
      (Some (faults.NotLeading u))

  -- the unit puts
  abbrev pub on_own_put : Writing → State → State
  on_own_put t s = with_put (Some (put_ticket tb s t)) s

-- 26: is w above the view, and one of n views?
abbrev pub raise_fault_in : ℕ → ℕ → ℕ → State → Option UnitFault
raise_fault_in n u w s = pick (both? (dec_lt s.view w) (dec_lt w n)) None (Some (faults.NotAbove u))

-- the unit raises its view to w: its put and the reports are of this view, so both become none
abbrev pub on_raise_in : ℕ → ℕ → State → State
on_raise_in n w s = record s { view = w; put = None; reported = 0; reports = blank_of n }

-- both with the views of the limits
abbrev pub raise_fault : ℕ → ℕ → State → Option UnitFault
raise_fault = raise_fault_in views

abbrev pub on_raise : ℕ → State → State
on_raise = on_raise_in views

-- 55 and 56: is the report for the unit's view, and does it equal the one that is kept of the sender, if any?
abbrev pub report_fault : ℕ → ℕ → List (Option Row) → State → Option UnitFault
report_fault x w rows s =
    pick (ℕ_discrete w s.view)
    (pick (if? (has? s.reported x) (same_rows? (report_of x s.reports) rows)) None (Some (faults.OtherReport x)))
    (Some (faults.ReportForOther x))

-- a report arrives and is kept
abbrev pub on_report : ℕ → List (Option Row) → State → State
on_report x rows s = record s { reported = with_unit s.reported x; reports = filed x rows s.reports }
