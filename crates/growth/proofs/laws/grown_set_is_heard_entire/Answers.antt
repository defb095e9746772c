use Rattle.growth.proofs.Grown.{set_is}
use Rattle.growth.proofs.laws.grown_set_is_heard_entire.Goals as goal

pub returns : goal.returns
returns c = set_is
