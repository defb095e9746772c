use Rattle.sets.proofs.Bits.{some_tells}
use Rattle.sets.proofs.some_place.Goals as goal

pub returns : goal.returns
returns c = some_tells c.args.set
