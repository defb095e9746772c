use Rattle.sets.proofs.Bits.{and_has, has_and}
use Rattle.sets.proofs.shared.Goals as goal

pub returns : goal.returns
returns c x = (and_has c.args.s c.args.t x, λ h. has_and c.args.s c.args.t x h.0 h.1)
