use Rattle.std.proofs.Common.{rules, ◌≡◌, arith}
use Rattle.std.specs.Option.{option_flatten}
use Rattle.packet.proofs.Walks.{row_of, padded_next, filled_more, filled_all}
use Rattle.packet.proofs.message.Report.copy_to.Goals as goal

pub loop-row-preserved : goal.loop-row-preserved
loop-row-preserved c =
    let row : c.map.result ≡ row_of (option_flatten c.next.result) = search rules in
    filled_more c.loop-row.rows _ _ _ _ c.loop-row.row-index c.map.result (omega arith) c.loop-row-test.true
    (λ n. rw row (padded_next n c.loop-row.entries c.next.new.self c.next.result c.next.ensures.steps)) c.loop-row.invariant

pub returns : goal.returns
returns c = filled_all _ _ _ _ c.loop-row.row-index (omega arith) c.loop-row-test.false c.loop-row.invariant
