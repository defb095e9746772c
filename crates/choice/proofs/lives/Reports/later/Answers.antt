use Rattle.choice.proofs.Masks.{later_more}
use Rattle.choice.proofs.lives.Reports.later.Goals as goal

pub loop-rows-preserved : goal.loop-rows-preserved
loop-rows-preserved c =
    later_more c.args.self.now.grid.now c.args.self.now.earlier c.args.ticket _ _ _ _ _ c.loop-rows-test.true c.loop-rows.invariant c.senders.ensures c.joined-mask.ensures
