-- What a wire means: the units it serves, for each the packets that wait with their senders, oldest first, and the free places.
use Rattle.std.specs.Prelude.{ℕ, List, []}

-- a packet as it waits: who posted it, and its bytes
pub record Parcel : Type 0 where
  pub sender : ℕ
  pub bytes : List ℕ

abbrev pub parcel : ℕ → List ℕ → Parcel
parcel from packet = record { sender = from; bytes = packet }

-- what slice_index_or reads past the end of a list
abbrev pub no_parcel : Parcel
no_parcel = parcel 0 []

pub record Meaning : Type 0 where
  pub served : ℕ
  pub waiting : ℕ → List Parcel
  pub free : ℕ → ℕ

-- what a call did to a wire; a refused call, a look and the counts do nothing
pub data Event : Type 0 where
  posting : (from to : ℕ) (packet : List ℕ) → Event
  dropping : (unit place : ℕ) → Event
  resting : Event

-- a builder's rule: what an event may do to the free places
abbrev pub Rule : Type 1
Rule = Meaning → Event → Meaning → Type 0
