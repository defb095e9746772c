-- The mill's table.
use Rattle.std.specs.Prelude.{[], ◌∷◌}
use Rattle.table.specs.Tables.{QuorumTable, table_of}
use Rattle.table.specs.Samples.{quorum, one_of_four}

-- any one of four units may be false; all four are the quorum of class 1, any three a quorum of class 2
abbrev pub mill_table : QuorumTable
mill_table = table_of 4 one_of_four (quorum 15 1 ∷ quorum 7 2 ∷ quorum 11 2 ∷ quorum 13 2 ∷ quorum 14 2 ∷ [])
