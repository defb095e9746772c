use Rattle.std.proofs.Common.{rules}
use Rattle.packet_write.proofs.Lengths.{row_length, report_length}
use Rattle.week.proofs.week.Week.new.Goals as goal

pub unwrap-requires : goal.unwrap-requires
unwrap-requires g c = search (rules, row_length)

pub unwrap-requires-2 : goal.unwrap-requires-2
unwrap-requires-2 g c = search (rules, report_length)
