-- What holds of every table's check.
use Rattle.std.specs.Prelude.{◌≡◌}
use Rattle.table.specs.Tables.{QuorumTable, Proper}
use Rattle.table.specs.Questions.{Found}
use Rattle.table.specs.declared.fault.TableFault.{TableFault}

-- a table has one fault at most: number and place are settled by the questions and their order
abbrev pub FaultIsOne : Type 0
FaultIsOne = (tb : QuorumTable) (e e' : TableFault) → Found tb e → Found tb e' → e ≡ e'

-- a table that passes has none
abbrev pub ProperHasNoFault : Type 0
ProperHasNoFault = (tb : QuorumTable) (e : TableFault) → Proper tb → Found tb e → ⊥
