use Rattle.unit.proofs.Growing.{rows_only_grow}
use Rattle.unit.proofs.laws.rows_only_grow.Goals as goal

pub returns : goal.returns
returns c = rows_only_grow
