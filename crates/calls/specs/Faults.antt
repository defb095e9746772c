-- What each fault of a shed says.
use Rattle.std.specs.Prelude.{ℕ}
use Rattle.base.specs.declared.fault.FaultCode.{FaultCode}
use Rattle.base.specs.declared.fault.Layer.TheVariants as layers
use Rattle.table.specs.Faults.{table_says}
use Rattle.wire.specs.Faults.{wire_says}
use Rattle.packet.specs.Faults.{packet_says}
use Rattle.ticket.specs.Faults.{ticket_says}
use Rattle.unit.specs.Faults.{unit_says}
use Rattle.calls.specs.declared.fault.ShedFault.{ShedFault}
use Rattle.calls.specs.declared.fault.ShedFault.TheVariants as sheds

abbrev pub at_shed : ℕ → ℕ → FaultCode
at_shed number place = record { number = number; layer = layers.Shed; place = place }

-- number, layer and place of each fault; what a lower part refused says what it says there
abbrev pub shed_says : ShedFault → FaultCode
shed_says sheds.Unbearable = at_shed 10 0
shed_says sheds.NoMemory = at_shed 11 0
shed_says sheds.Waiting = at_shed 12 0
shed_says (sheds.NoUnit u) = at_shed 20 u
shed_says (sheds.WrongSide u) = at_shed 21 u
shed_says (sheds.Table f) = table_says f
shed_says (sheds.Wire f) = wire_says f
shed_says (sheds.Packet f) = packet_says f
shed_says (sheds.Ticket f) = ticket_says f
shed_says (sheds.Unit f) = unit_says f
