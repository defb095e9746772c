use Rattle.std.proofs.Common.{refl}
use Rattle.sending.proofs.Going.{went_on}
use Rattle.sending.proofs.sending.go_out.Goals as goal

pub returns-clause-out : goal.returns-clause-out
returns-clause-out g c =
    let out = went_on g.W.Wire.rule _ c.args.me _ _ _ _ _ _ _ _ _ _ refl c.send-put.ensures c.send-row.ensures c.send_report-report.ensures in
    rw (c.put_letter.ensures.said, c.row_letter.ensures.said) at out
