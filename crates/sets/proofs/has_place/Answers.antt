use Rattle.std.proofs.Common.{rules}
use Rattle.sets.proofs.Bits.{bit_tells, past_tells}
use Rattle.sets.proofs.has_place.Goals as goal

pub returns-else-p-lt32 : goal.returns-else-p-lt32
returns-else-p-lt32 c = past_tells 32 c.args.set c.args.p (search rules) c.if-p-lt32.false
