use Rattle.table.proofs.Trials.{samples_hold}
use Rattle.table.proofs.laws.samples_hold.Goals as goal

pub returns : goal.returns
returns c = samples_hold
