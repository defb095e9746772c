use Rattle.sets.proofs.Sides.{large_of}
use Rattle.table.proofs.Masks.{three_last}
use Rattle.table.proofs.table.Table.share_large.Goals as goal

pub returns : goal.returns
returns c = large_of _ _ _ (three_last _ _ _ _ _ c.shared-two.ensures c.shared-three.ensures) c.large.result c.large.ensures
