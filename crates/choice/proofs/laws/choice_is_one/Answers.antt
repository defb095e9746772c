use Rattle.choice.proofs.Settles.{choice_one}
use Rattle.choice.proofs.laws.choice_is_one.Goals as goal

pub returns : goal.returns
returns c = choice_one
