-- What a ticket's fault says, and when it is given.
use Rattle.std.specs.Prelude.{Bool, true, false, Some, None, Option}
use Rattle.base.specs.declared.fault.FaultCode.{FaultCode}
use Rattle.base.specs.declared.fault.Layer.TheVariants as layers
use Rattle.ticket.specs.declared.fault.TicketFault.{TicketFault}
use Rattle.ticket.specs.declared.fault.TicketFault.TheVariants.{NotOfTheKind}

abbrev pub ticket_says : TicketFault → FaultCode
ticket_says NotOfTheKind = record { number = 45; layer = layers.Packet; place = 0 }

-- what is told of a writing that is a ticket of the kind, or not
abbrev pub judged : Bool → Option TicketFault
judged true = None
judged false = Some NotOfTheKind
