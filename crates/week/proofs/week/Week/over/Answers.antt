use Rattle.history.specs.Runs.{made}
use Rattle.week.proofs.week.Week.over.Goals as goal

pub returns-in-Ok : goal.returns-in-Ok
returns-in-Ok g c = c.compare.ensures (made c.in-Ok.ensures.made)
