use Rattle.std.proofs.Common.{◌≡◌, ◌-◌}
use Rattle.packet.specs.Questions.{entries_shape}
use Rattle.packet.specs.Said.{entries_offset}
use Rattle.packet.proofs.questions.Packet.check_entries.Given as goal

abbrev pub invariant-loop : goal.invariant-loop
invariant-loop l = entries_shape l.self.bytes.now (l.self.view - l.counter) l.at ≡ entries_shape l.self.bytes.now l.self.view entries_offset
