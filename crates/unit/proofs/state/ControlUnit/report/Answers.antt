use Rattle.std.proofs.Common.{arith}
use Rattle.std.proofs.lemmas.Grind.{common_steps}
use Rattle.unit.proofs.Filing.{below_front}
use Rattle.unit.proofs.state.ControlUnit.report.Goals as goal

pub returns : goal.returns
returns c = grind (arith, common_steps, below_front)
