-- The bus's rule for free places.
use Rattle.std.specs.Prelude.{◌≡◌, ℕ, zero, suc, ◌+◌, ◌<◌, length}
use Rattle.wire.specs.Meaning.{Meaning, Rule}

abbrev pub sum_below : (ℕ → ℕ) → ℕ → ℕ
sum_below f zero = 0
sum_below f (suc n) = sum_below f n + f n

-- how many packets wait, for all units together
abbrev pub all_waiting : Meaning → ℕ
all_waiting m = sum_below (λ u. length (m.waiting u)) m.served

-- every unit's free places are the places less all that waits
abbrev pub SharedPlaces : ℕ → Meaning → Type 0
SharedPlaces places m = (u : ℕ) → u < m.served → m.free u + all_waiting m ≡ places

-- so before and after every event, with the same number of places
abbrev pub bus_rule : Rule
bus_rule a e b = (places : ℕ) × SharedPlaces places a × SharedPlaces places b
