use Rattle.std.proofs.Common.{◌≡◌, ◌+◌, length, take}
use Rattle.std.specs.List.{flat_map}
use Rattle.packet_write.specs.Writes.{entry_bytes, over}
use Rattle.packet_write.proofs.putting.put_entries.Given as goal

abbrev pub invariant-loop-row : goal.invariant-loop-row
invariant-loop-row l =
    (l.end ≡ l.at + length (flat_map entry_bytes (take l.row-index l.rows))) × (l.out ≡ over l.initial.out l.at (flat_map entry_bytes (take l.row-index l.rows)))
