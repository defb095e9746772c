use Rattle.sets.proofs.Sides.{basic_of}
use Rattle.table.proofs.Masks.{three_last}
use Rattle.table.proofs.table.Table.share_basic.Goals as goal

pub returns : goal.returns
returns c = basic_of _ _ _ (three_last _ _ _ _ _ c.shared-two.ensures c.shared-three.ensures) c.basic.result c.basic.ensures
