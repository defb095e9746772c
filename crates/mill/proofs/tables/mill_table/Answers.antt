use Rattle.std.proofs.Common.{refl}
use Rattle.table.proofs.Trials.{proper_by}
use Rattle.mill.proofs.Passing.{passes}
use Rattle.mill.proofs.tables.mill_table.Goals as goal

pub unwrap-requires : goal.unwrap-requires
unwrap-requires c = passes _ _ c.pass.ensures (proper_by _ refl)
