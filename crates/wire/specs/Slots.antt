-- What one place for a packet holds.
use Rattle.std.specs.Prelude.{◌≡◌, ℕ, ◌≤◌, List, ◌++◌, length, take, drop}
use Rattle.base.specs.Limits.{packet_bytes}
use Rattle.wire.specs.declared.answers.Found.{Found}
use Rattle.wire.specs.declared.slot.Slot.{Slot}
use Rattle.wire.specs.Meaning.{Parcel, parcel}

abbrev pub parcel_of : Slot → Parcel
parcel_of s = parcel s.sender (take s.size s.bytes)

-- the slot's packet at the front of the caller's bytes, the rest of them as before
pub record Copied (s : Slot) (before after : List ℕ) (found : Found) : Type 0 where
  pub enough : packet_bytes ≤ length before
  pub sender : found.sender ≡ (parcel_of s).sender
  pub size : found.length ≡ length (parcel_of s).bytes
  pub short : found.length ≤ packet_bytes
  pub bytes : after ≡ (parcel_of s).bytes ++ drop found.length before
