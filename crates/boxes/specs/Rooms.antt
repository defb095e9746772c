-- The boxes' rule for free places, and what a send to all lays by it.
use Rattle.std.specs.Prelude.{◌≡◌, ℕ, zero, suc, ◌+◌, ◌<◌, cond, length, nat_lt}
use Rattle.wire.specs.Meaning.{Meaning, Rule}

-- each unit's free places are its places less what waits for it
abbrev pub OwnPlaces : ℕ → Meaning → Type 0
OwnPlaces places m = (u : ℕ) → u < m.served → m.free u + length (m.waiting u) ≡ places

-- so before and after every event, with the same number of places
abbrev pub boxes_rule : Rule
boxes_rule a e b = (places : ℕ) × OwnPlaces places a × OwnPlaces places b

-- how many of the units 0 to n - 1 have a free place
abbrev pub with_room : Meaning → ℕ → ℕ
with_room m zero = 0
with_room m (suc n) = with_room m n + cond (nat_lt 0 (m.free n)) 1 0
