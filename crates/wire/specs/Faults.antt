-- What each wire fault says: number, layer, place.
use Rattle.base.specs.declared.fault.FaultCode.{FaultCode}
use Rattle.base.specs.declared.fault.Layer.TheVariants as layers
use Rattle.wire.specs.declared.fault.WireFault.{WireFault}
use Rattle.wire.specs.declared.fault.WireFault.TheVariants.{NotServed, TooLong, Full, NoPacket, ShortBuffer, BadMemory}

abbrev pub wire_says : WireFault → FaultCode
wire_says (NotServed to) = record { number = 70; layer = layers.Wire; place = to }
wire_says (TooLong to) = record { number = 71; layer = layers.Wire; place = to }
wire_says (Full to) = record { number = 72; layer = layers.Wire; place = to }
wire_says (NoPacket at) = record { number = 73; layer = layers.Wire; place = at }
wire_says (ShortBuffer unit) = record { number = 74; layer = layers.Wire; place = unit }
wire_says BadMemory = record { number = 75; layer = layers.Wire; place = 0 }
