-- What an arriving letter does.
use Rattle.std.specs.Prelude.{ℕ, cond, not, Some, None, Option, ◌==◌}
use Rattle.base.specs.Limits.{views}
use Rattle.sets.specs.Decisions.{pick}
use Rattle.table.specs.Tables.{QuorumTable}
use Rattle.rows.specs.declared.row.Row.{Row}
pub use Rattle.rows.specs.Said.{Said, says_put, says_row, says_report}
use Rattle.unit.specs.States.{State, own_at, heard_at}
use Rattle.unit.specs.Reported.{same_said?}
use Rattle.unit.specs.Rules.{ticket_fault, put_fault, on_put_in, on_row_in, report_fault, on_report}
use Rattle.unit.specs.Sending.{Sends, sends_row, sends_nothing}
use Rattle.unit.specs.declared.fault.UnitFault.{UnitFault}
pub use Rattle.unit.specs.declared.letter.Letter.{Letter}
use Rattle.unit.specs.declared.letter.Letter.TheVariants as letters
use Rattle.unit.specs.declared.stage.Stage.{Stage}
use Rattle.unit.specs.declared.stage.Stage.TheVariants as stages

abbrev pub stage_of : Option Row → Stage
stage_of None = stages.None
stage_of (Some r) = cond r.mark stages.Marked (cond (not (r.set == 0)) stages.Set stages.Held)

-- the own row goes out where it changed
abbrev pub sends_changed : Option Row → Option Row → Sends
sends_changed before after = pick (same_said? before after) sends_nothing sends_row

-- what is said under the number x: why it is refused, if it is
abbrev pub said_fault : QuorumTable → ℕ → Said → State → Option UnitFault
said_fault tb x (says_put v t) s = put_fault tb x v t s
said_fault tb x (says_row v r) s = ticket_fault x (heard_at s v x) r
said_fault tb x (says_report w rows) s = report_fault x w rows s

-- what it does, and what then goes out; n: the number of views
module _ (n : ℕ) (tb : QuorumTable) (x : ℕ) where
  abbrev pub said_done_in : Said → State → State
  said_done_in (says_put v t) s = on_put_in n tb t s
  said_done_in (says_row v r) s = on_row_in n tb x v r s
  said_done_in (says_report w rows) s = on_report x rows s

  abbrev pub said_sends_in : Said → State → Sends
  said_sends_in (says_put v t) s = sends_row
  said_sends_in (says_row v r) s = sends_changed (own_at s s.view) (own_at (on_row_in n tb x v r s) s.view)
  said_sends_in (says_report w rows) s = sends_nothing

-- a letter as what it says; its report is borrowed
abbrev pub said_of : Letter → Said
said_of (letters.Put v t) = says_put v t
said_of (letters.Row v r) = says_row v r
said_of (letters.Report w rows) = says_report w rows.now

-- a letter that arrives under the number x, with the views of the limits
module _ (tb : QuorumTable) (x : ℕ) where
  abbrev pub letter_fault : Letter → State → Option UnitFault
  letter_fault letter = said_fault tb x (said_of letter)

  abbrev pub letter_done : Letter → State → State
  letter_done letter = said_done_in views tb x (said_of letter)

  abbrev pub letter_sends : Letter → State → Sends
  letter_sends letter = said_sends_in views tb x (said_of letter)
