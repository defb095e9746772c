-- What each call asks, and what it does.
use Rattle.std.specs.Prelude.{◌≡◌, ℕ, ◌≤◌, cond, ◌&&◌, List, [], ◌∷◌, ◌++◌, length, drop, Some, None, Option, ◌≢◌, nat_le, nat_lt, slice_index_or}
use Rattle.std.specs.List.{remove}
use Rattle.base.specs.Limits.{packet_bytes}
use Rattle.wire.specs.declared.answers.Counts.{Counts}
use Rattle.wire.specs.declared.answers.Found.{Found}
use Rattle.wire.specs.declared.fault.WireFault.{WireFault}
use Rattle.wire.specs.declared.fault.WireFault.TheVariants.{NotServed, TooLong, Full, NoPacket, ShortBuffer}
use Rattle.wire.specs.Meaning.{Meaning, Rule, Event, posting, dropping, resting, Parcel, parcel, no_parcel}

-- the questions, in order; a call is refused at the first no

abbrev pub post_fault : Meaning → ℕ → ℕ → List ℕ → Option WireFault
post_fault m from to packet =
    cond (nat_lt from m.served && nat_lt to m.served) (cond (nat_le (length packet) packet_bytes) (cond (nat_lt 0 (m.free to)) None (Some (Full to))) (Some (TooLong to))) (Some (NotServed to))

abbrev pub look_fault : Meaning → ℕ → ℕ → List ℕ → Option WireFault
look_fault m unit place into =
    cond (nat_lt unit m.served) (cond (nat_lt place (length (m.waiting unit))) (cond (nat_le packet_bytes (length into)) None (Some (ShortBuffer unit))) (Some (NoPacket place))) (Some (NotServed unit))

abbrev pub drop_fault : Meaning → ℕ → ℕ → Option WireFault
drop_fault m unit place =
    cond (nat_lt unit m.served) (cond (nat_lt place (length (m.waiting unit))) None (Some (NoPacket place))) (Some (NotServed unit))

abbrev pub counts_fault : Meaning → ℕ → Option WireFault
counts_fault m unit = cond (nat_lt unit m.served) None (Some (NotServed unit))

-- the packet that waits for a unit at a place
abbrev pub waits_at : Meaning → ℕ → ℕ → Parcel
waits_at m unit place = slice_index_or (m.waiting unit) place no_parcel

-- one packet more at the end of the addressee's list, and every other list as it was
pub record Posted (a : Meaning) (from to : ℕ) (packet : List ℕ) (b : Meaning) : Type 0 where
  pub served : b.served ≡ a.served
  pub laid : b.waiting to ≡ a.waiting to ++ (parcel from packet ∷ [])
  pub others : (u : ℕ) → (u ≢ to) → b.waiting u ≡ a.waiting u

-- one packet out of a unit's list, the later ones moved up, and every other list as it was
pub record Dropped (a : Meaning) (unit place : ℕ) (b : Meaning) : Type 0 where
  pub served : b.served ≡ a.served
  pub gone : b.waiting unit ≡ remove (a.waiting unit) place
  pub others : (u : ℕ) → (u ≢ unit) → b.waiting u ≡ a.waiting u

-- the packet at the front of the caller's bytes, the rest of them as before
pub record Looked (m : Meaning) (unit place : ℕ) (before after : List ℕ) (found : Found) : Type 0 where
  pub sender : found.sender ≡ (waits_at m unit place).sender
  pub size : found.length ≡ length (waits_at m unit place).bytes
  pub short : found.length ≤ packet_bytes
  pub bytes : after ≡ (waits_at m unit place).bytes ++ drop found.length before

pub record Counted (m : Meaning) (unit : ℕ) (counts : Counts) : Type 0 where
  pub waiting : counts.waiting ≡ length (m.waiting unit)
  pub free : counts.free ≡ m.free unit

-- an accepted call: its questions, what it did, and the builder's rule for the free places
abbrev pub Happens : Rule → Meaning → Event → Meaning → Type 0
Happens rule a (posting from to packet) b = (post_fault a from to packet ≡ None) × Posted a from to packet b × rule a (posting from to packet) b
Happens rule a (dropping unit place) b = (drop_fault a unit place ≡ None) × Dropped a unit place b × rule a (dropping unit place) b
Happens rule a resting b = b ≡ a

-- a refused call: the fault, and the wire as it was
abbrev pub Refused : Option WireFault → WireFault → Meaning → Meaning → Type 0
Refused fault e a b = (fault ≡ Some e) × (b ≡ a)
