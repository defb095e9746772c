use Rattle.std.proofs.Common.{◌≡◌, ℕ, List, Option}
use Rattle.packet.specs.Entries.{Puts}
use Rattle.packet.specs.Questions.{entries_fault}
use Rattle.packet.specs.declared.fault.PacketFault.{PacketFault}
use Rattle.packet.proofs.entries.Entries.each.Given as goal

abbrev pub invariant-loop-entry : goal.invariant-loop-entry
invariant-loop-entry g l =
    (goal.iterator-loop-entry g).can_next l.entry-iterator
    × (goal.iterator-loop-entry g).is_finite l.entry-iterator
    × (l.entry-iterator.bytes.now ≡ l.fn.self.bytes.now)
    × ((question : List ℕ → ℕ → Option PacketFault) → Puts (goal.F-post g l.ask) question → entries_fault (question l.fn.self.bytes.now) l.fn.self.bytes.now l.entry-iterator.left l.entry-iterator.at ≡ entries_fault (question l.fn.self.bytes.now) l.fn.self.bytes.now l.fn.self.left l.fn.self.at)
