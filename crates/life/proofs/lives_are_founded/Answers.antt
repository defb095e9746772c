use Rattle.life.proofs.Founding.{lives_founded}
use Rattle.life.proofs.lives_are_founded.Goals as goal

pub returns : goal.returns
returns c = lives_founded
