use Rattle.std.proofs.Common.{◌≡◌, ◌+◌, length, take}
use Rattle.std.specs.List.{flat_map}
use Rattle.ticket.specs.Words.{be}
use Rattle.packet_write.specs.Writes.{over}
use Rattle.packet_write.proofs.putting.put_words.Given as goal

abbrev pub invariant-loop-word : goal.invariant-loop-word
invariant-loop-word l = (l.end ≡ l.at + length (flat_map be (take l.word-index l.words))) × (l.out ≡ over l.initial.out l.at (flat_map be (take l.word-index l.words)))
