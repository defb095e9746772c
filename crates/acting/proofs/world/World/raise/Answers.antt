use Rattle.std.proofs.Common.{arith}
use Rattle.std.proofs.lemmas.Result.{err_from_is_err_and}
use Rattle.unit.specs.Acts.{raising}
use Rattle.acting.proofs.Doing.{refused, acted}
use Rattle.acting.proofs.world.World.raise.Goals as goal

pub returns-in_err-sends : goal.returns-in_err-sends
returns-in_err-sends g c =
    let w = c.args.self.now in
    let r = c.from_residual-in_err-sends in
    let (f, e, is) = err_from_is_err_and r.result r.ensures.1 in
    rw (e, is) (refused w.table w.false_set w.units.now (g.W.Wire.means w.wire.now) c.args.unit _ c.raise.new.self (raising c.args.view) (omega (arith, c.in_ok-ask.ensures.there)) _ c.in_ok-ask.ensures.asked _ c.in_err-sends.ensures.0 c.in_err-sends.ensures.1)

pub returns : goal.returns
returns g c =
    let w = c.args.self.now in
    acted w.table w.false_set w.units.now (g.W.Wire.means w.wire.now) c.args.unit _ c.raise.new.self (raising c.args.view) (omega (arith, c.in_ok-ask.ensures.there)) _ c.in_ok-ask.ensures.asked
    g.W.Wire.rule (g.W.Wire.means c.go_out.new.wire) _ c.in_ok-sends.sends c.go_out.result c.in_ok-sends.ensures.0 c.in_ok-sends.ensures.1 c.in_ok-sends.ensures.2 w.serves c.go_out.ensures.out
