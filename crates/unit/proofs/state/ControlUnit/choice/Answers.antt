use Rattle.std.proofs.Common.{arith}
use Rattle.std.proofs.lemmas.Grind.{common_steps}
use Rattle.growth.proofs.Entirely.{pick_no}
use Rattle.unit.proofs.state.ControlUnit.choice.Goals as goal

pub returns-else-fully : goal.returns-else-fully
returns-else-fully c = grind (arith, common_steps, pick_no)
