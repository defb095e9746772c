use Rattle.std.proofs.Common.{rules}
use Rattle.sets.proofs.Bits.{without_is}
use Rattle.sets.proofs.without.Goals as goal

pub returns : goal.returns
returns c = without_is 16 c.args.a c.args.b (search rules) (search rules)
