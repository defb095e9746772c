-- What the bus means.
use Rattle.std.specs.Prelude.{◌≡◌, ℕ, ◌-◌, Bool, List, ◌∷◌, ◌++◌, map, length, take, filter, ◌==◌}
use Rattle.wire.specs.Meaning.{Meaning, Parcel}
use Rattle.wire.specs.Slots.{parcel_of}
use Rattle.bus.specs.declared.entry.BusSlot.{BusSlot}
use Rattle.bus.specs.declared.bus.Bus.{Bus}

abbrev pub packet_of : BusSlot → Parcel
packet_of s = parcel_of s.slot

abbrev pub is_for : ℕ → BusSlot → Bool
is_for u s = s.to == u

-- the packets of a unit: those of the used slots that are addressed to it
abbrev pub waits : List BusSlot → ℕ → ℕ → List Parcel
waits slots used u = map packet_of (filter (is_for u) (take used slots))

abbrev pub kept_in : List BusSlot → (used units places : ℕ) → Meaning
kept_in slots used units places = record { served = units; waiting = waits slots used; free = λ u. places - used }

abbrev pub means_of : Bus → Meaning
means_of b = kept_in b.slots.now b.used b.units b.places

-- the used slot i holds the packet at this place of the unit's list: it is the unit's, and so many before it are
pub record Stands (slots : List BusSlot) (used unit place i : ℕ) : Type 0 where
  pub before : List BusSlot
  pub slot : BusSlot
  pub after : List BusSlot
  pub whole : take used slots ≡ before ++ (slot ∷ after)
  pub own : slot.to ≡ unit
  pub index : length before ≡ i
  pub earlier : length (filter (is_for unit) before) ≡ place
