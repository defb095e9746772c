use Rattle.std.proofs.Common.{arith}
use Rattle.packet_write.proofs.Lengths.{put_length, row_length}
use Rattle.sending.proofs.Backs.{report_short}
use Rattle.sending.proofs.Going.{wrote_some}
use Rattle.sending.proofs.sending.write.Goals as goal

pub unwrap-requires : goal.unwrap-requires
unwrap-requires c =
    wrote_some _ c.args.bytes.now _ _ c.write_put.ensures (omega (arith, c.told-bytes, put_length c.in-Put.view c.in-Put.ticket))

pub unwrap-requires-in-Row : goal.unwrap-requires-in-Row
unwrap-requires-in-Row c =
    wrote_some _ c.args.bytes.now _ _ c.write_row.ensures (omega (arith, c.told-bytes, row_length c.in-Row.view c.in-Row.row))

pub unwrap-requires-in-Report : goal.unwrap-requires-in-Report
unwrap-requires-in-Report c =
    let own = rw c.in-Report.is at c.requires in
    wrote_some _ c.args.bytes.now _ _ c.write_report.ensures (omega (arith, c.told-bytes, report_short c.in-Report.view c.in-Report.rows.now own.0 own.1.whole))
