-- What the boxes mean.
use Rattle.std.specs.Prelude.{ℕ, ◌-◌, ◌*◌, List, map, take, drop, slice_index}
use Rattle.wire.specs.declared.slot.Slot.{Slot}
use Rattle.wire.specs.Meaning.{Meaning, Parcel}
use Rattle.wire.specs.Slots.{parcel_of}
use Rattle.boxes.specs.declared.boxes.Boxes.{Boxes}

-- the packets of a unit: the first of its slots
abbrev pub waits : List Slot → List ℕ → ℕ → ℕ → List Parcel
waits slots counts places u = map parcel_of (take (slice_index counts u) (drop (u * places) slots))

abbrev pub kept_in : List Slot → List ℕ → (units places : ℕ) → Meaning
kept_in slots counts units places =
    record { served = units; waiting = waits slots counts places; free = λ u. places - slice_index counts u }

abbrev pub means_of : Boxes → Meaning
means_of b = kept_in b.slots.now b.counts b.units b.places
