-- What a packet's fault says: each case's number and place.
use Rattle.std.specs.Prelude.{ℕ}
use Rattle.base.specs.declared.fault.FaultCode.{FaultCode}
use Rattle.base.specs.declared.fault.Layer.TheVariants as layers
use Rattle.packet.specs.declared.fault.PacketFault.{PacketFault}
use Rattle.packet.specs.declared.fault.PacketFault.TheVariants.{Length, Kind, View, Count, Shape, Ticket, Set, Mark}
use Rattle.ticket.specs.Faults.{ticket_says}

abbrev pub packet_code : ℕ → ℕ → FaultCode
packet_code number place = record { number = number; layer = layers.Packet; place = place }

abbrev pub packet_says : PacketFault → FaultCode
packet_says (Length n) = packet_code 40 n
packet_says Kind = packet_code 41 0
packet_says View = packet_code 42 4
packet_says Count = packet_code 43 8
packet_says (Shape i) = packet_code 44 i
packet_says (Ticket i f) = packet_code (ticket_says f).number i
packet_says (Set i) = packet_code 46 i
packet_says (Mark i) = packet_code 47 i
