use Rattle.std.proofs.Common.{arith}
use Rattle.table.specs.Means.{means}
use Rattle.choice.proofs.Grows.{all_done}
use Rattle.choice.proofs.Settles.{clipped}
use Rattle.choice.proofs.choosing.choose.Goals as goal

pub returns : goal.returns
returns c =
    let tb = means c.args.passed.now in
    let grid = c.args.grid.now in
    let m = c.min-view.result in
    clipped tb c.args.q grid 8 c.args.w m c.told-grid (omega arith) c.loop-earlier.choice
    (all_done tb c.args.q grid m c.loop-earlier.earlier (omega arith) c.loop-earlier.choice c.loop-earlier.invariant)
