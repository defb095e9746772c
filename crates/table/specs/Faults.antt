-- What each fault of a table says.
use Rattle.base.specs.declared.fault.FaultCode.{FaultCode}
use Rattle.base.specs.declared.fault.Layer.TheVariants as layers
use Rattle.std.specs.Prelude.{ℕ}
use Rattle.table.specs.declared.fault.TableFault.{TableFault}
use Rattle.table.specs.declared.fault.TableFault.TheVariants as faults

abbrev pub at_table : ℕ → ℕ → FaultCode
at_table number place = record { number = number; layer = layers.Table; place = place }

-- number, layer and place of each fault
abbrev pub table_says : TableFault → FaultCode
table_says faults.Units = at_table 1 0
table_says faults.FaultSetCount = at_table 2 0
table_says (faults.FaultSet place) = at_table 3 place
table_says faults.QuorumCount = at_table 4 0
table_says (faults.Entry place) = at_table 5 place
table_says (faults.Repeated place) = at_table 6 place
table_says (faults.FirstProperty place) = at_table 7 place
table_says (faults.SecondProperty place) = at_table 8 place
table_says (faults.ThirdProperty place) = at_table 9 place
