use Rattle.agreement.proofs.Keeping.{keeps_invariant}
use Rattle.agreement.proofs.runs_keep_the_invariant.Goals as goal

pub returns : goal.returns
returns c = keeps_invariant
