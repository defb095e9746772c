use Rattle.std.proofs.Common.{◌≡◌, ◌+◌, length, take}
use Rattle.std.specs.List.{flat_map}
use Rattle.packet_write.specs.Writes.{entry_bytes}
use Rattle.packet_write.proofs.sizes.room_after.Given as goal

abbrev pub invariant-loop-row : goal.invariant-loop-row
invariant-loop-row l = l.left + length (flat_map entry_bytes (take l.row-index l.rows)) ≡ l.room
