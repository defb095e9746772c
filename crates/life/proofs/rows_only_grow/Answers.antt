use Rattle.life.proofs.Founding.{only_grow}
use Rattle.life.proofs.rows_only_grow.Goals as goal

pub returns : goal.returns
returns c = only_grow
