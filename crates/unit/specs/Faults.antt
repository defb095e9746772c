-- What each fault of a unit says.
use Rattle.std.specs.Prelude.{ℕ}
use Rattle.base.specs.declared.fault.FaultCode.{FaultCode}
use Rattle.base.specs.declared.fault.Layer.TheVariants as layers
use Rattle.unit.specs.declared.fault.UnitFault.{UnitFault}
use Rattle.unit.specs.declared.fault.UnitFault.TheVariants as faults

abbrev pub at_unit : ℕ → ℕ → FaultCode
at_unit number place = record { number = number; layer = layers.Unit; place = place }

-- number, layer and place of each fault
abbrev pub unit_says : UnitFault → FaultCode
unit_says (faults.NotLeading unit) = at_unit 22 unit
unit_says (faults.PutBefore unit) = at_unit 23 unit
unit_says (faults.NotReported unit) = at_unit 24 unit
unit_says (faults.AllTorn unit) = at_unit 25 unit
unit_says (faults.NotAbove unit) = at_unit 26 unit
unit_says (faults.PutByOther sender) = at_unit 50 sender
unit_says (faults.PutForOther sender) = at_unit 51 sender
unit_says (faults.RowThere sender) = at_unit 52 sender
unit_says (faults.NotChosen sender) = at_unit 53 sender
unit_says (faults.OtherTicket sender) = at_unit 54 sender
unit_says (faults.ReportForOther sender) = at_unit 55 sender
unit_says (faults.OtherReport sender) = at_unit 56 sender
