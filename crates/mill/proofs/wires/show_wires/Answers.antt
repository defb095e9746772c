use Rattle.std.proofs.Common.{rules}
use Rattle.packet_write.proofs.Lengths.{put_length}
use Rattle.mill.proofs.wires.show_wires.Goals as goal

pub unwrap-length-requires : goal.unwrap-length-requires
unwrap-length-requires g c = search (rules, put_length)
