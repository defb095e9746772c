use Rattle.std.proofs.Common.{◌≡◌, length, ◌-◌, ◌++◌, take}
use Rattle.packet.specs.Said.{entries_of, padded}
use Rattle.packet.proofs.Walks.{entries_left}
use Rattle.packet.proofs.message.Report.copy_to.Given as goal

abbrev pub invariant-loop-row : goal.invariant-loop-row
invariant-loop-row l =
    take l.row-index l.rows ++ padded (length l.initial.rows - l.row-index) (entries_left l.entries) ≡ padded (length l.initial.rows) (entries_of l.self)
