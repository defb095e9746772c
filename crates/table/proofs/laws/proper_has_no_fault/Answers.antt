use Rattle.table.proofs.Passes.{not_proper}
use Rattle.table.proofs.laws.proper_has_no_fault.Goals as goal

pub returns : goal.returns
returns c tb e p f = not_proper tb e f p
