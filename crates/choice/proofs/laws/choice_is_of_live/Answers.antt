use Rattle.choice.proofs.Settles.{choice_of_live}
use Rattle.choice.proofs.laws.choice_is_of_live.Goals as goal

pub returns : goal.returns
returns c = choice_of_live
