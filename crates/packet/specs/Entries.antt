-- The entries of a report, one by one.
use Rattle.std.specs.Prelude.{◌≡◌, ℕ, suc, ◌+◌, true, false, List, Option, Result, MatchOption, ⊤}
use Rattle.base.specs.Asked.{Asked}
use Rattle.packet.specs.declared.fault.PacketFault.{PacketFault}
use Rattle.packet.specs.Said.{present, next}
use Rattle.packet.specs.declared.entries.Entries.{Entries}
use Rattle.packet.specs.declared.place.Place.{Place}

-- the row of an entry at an offset stands here, if the entry has one
abbrev pub HasRowAt : Option Place → Entries → Type 0
HasRowAt row s = MatchOption row (present s.bytes.now s.at ≡ false) (λ p. (present s.bytes.now s.at ≡ true) × (p.bytes.now ≡ s.bytes.now) × (p.at ≡ s.at + 4))

-- nothing where none is left, else the next entry
abbrev pub NextEntry : Entries → Option (Option Place) → Entries → Type 0
NextEntry s r t = MatchOption r ((s.left ≡ 0) × (t.left ≡ 0)) (λ row. (s.left ≡ suc t.left) × (t.bytes.now ≡ s.bytes.now) × (t.at ≡ next s.bytes.now s.at) × HasRowAt row s)

-- whatever is answered of a row, it is what the question answers at the row's offset
abbrev pub Puts : (Place → Result ⊤ PacketFault → Type 0) → (List ℕ → ℕ → Option PacketFault) → Type 0
Puts answers question = (p : Place) (r : Result ⊤ PacketFault) → answers p r → Asked (question p.bytes.now p.at) r
