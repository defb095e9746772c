use Rattle.sets.proofs.Bits.{or_has, has_or}
use Rattle.sets.proofs.joined.Goals as goal

pub returns : goal.returns
returns c x = (or_has c.args.s c.args.t x, has_or c.args.s c.args.t x)
