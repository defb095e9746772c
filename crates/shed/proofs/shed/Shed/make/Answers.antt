use Rattle.calls.proofs.Lent.{makes_so}
use Rattle.shed.proofs.shed.Shed.make.Goals as goal

pub returns : goal.returns
returns g c =
    makes_so c.args.table c.args.false_set c.args.units.now c.renew.new.units (g.W.Wire.means c.args.wire.now) c.units-n.result c.units-n.ensures.is c.renew.ensures c.in_ok-ask_making.ensures
