use Rattle.agreement.proofs.Theorem.{runs_agree}
use Rattle.agreement.proofs.announced_tickets_agree.Goals as goal

pub returns : goal.returns
returns c = runs_agree
