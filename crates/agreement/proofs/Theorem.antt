-- The agreement theorem over runs.
use Rattle.agreement.specs.Agreed.{RunsAgree}
use Rattle.agreement.proofs.Agreeing.{agreed}
use Rattle.agreement.proofs.Keeping.{keeps_invariant}

pub runs_agree : RunsAgree
runs_agree n tb falses c proper bear run = agreed n tb falses c proper bear (keeps_invariant n tb falses c proper run)
