use Rattle.std.proofs.Common.{rules, None}
use Rattle.packet_write.specs.Writes.{entry_bytes, entries_bytes}
use Rattle.packet_write.proofs.Over.{piece_fits}
use Rattle.packet_write.proofs.sizes.room_after.Goals as goal

pub returns-in_err-left : goal.returns-in_err-left
unfolding entries_bytes
returns-in_err-left c = let fits = piece_fits entry_bytes c.args.rows.now c.loop-row.row-index None c.loop-row-test.true in search rules
