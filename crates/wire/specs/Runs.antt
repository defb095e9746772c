-- Any sequence of calls of a wire, built of what the calls promise, and what holds of it.
use Rattle.std.specs.Prelude.{◌≡◌, ℕ, ◌<◌, cond, List, [], ◌∷◌, ◌++◌, ◌==◌, slice_index_or}
use mathlib.Core.List.{Memᴰ}
use Rattle.std.specs.List.{remove}
use Rattle.std.specs.List.Sorted.{IsPermutation}
use Rattle.wire.specs.Calls.{Happens}
use Rattle.wire.specs.Meaning.{Meaning, Rule, Event, posting, dropping, resting, Parcel, parcel, no_parcel}
use Rattle.wire.specs.Sends.{Sent}

-- a run from a to b, with what was done, the newest first
pub data Run (rule : Rule) (a : Meaning) : List Event → Meaning → Type 0 where
  start : Run rule a [] a
  next : {es : List Event} {e : Event} {b c : Meaning} → Run rule a es b → Happens rule b e c → Run rule a (e ∷ es) c

-- the packets posted to a unit, the oldest first
abbrev pub posted_to : ℕ → List Event → List Parcel
posted_to u [] = []
posted_to u (posting from to packet ∷ es) = cond (to == u) (posted_to u es ++ (parcel from packet ∷ [])) (posted_to u es)
posted_to u (dropping unit place ∷ es) = posted_to u es
posted_to u (resting ∷ es) = posted_to u es

-- what the events leave of a unit's list and of the packets posted to it
abbrev pub left_of : List Parcel → ℕ → List Event → List Parcel
left_of xs u [] = xs
left_of xs u (posting from to packet ∷ es) = cond (to == u) (left_of xs u es ++ (parcel from packet ∷ [])) (left_of xs u es)
left_of xs u (dropping unit place ∷ es) = cond (unit == u) (remove (left_of xs u es) place) (left_of xs u es)
left_of xs u (resting ∷ es) = left_of xs u es

-- the packets that the drops took out of it
abbrev pub dropped_of : List Parcel → ℕ → List Event → List Parcel
dropped_of xs u [] = []
dropped_of xs u (posting from to packet ∷ es) = dropped_of xs u es
dropped_of xs u (dropping unit place ∷ es) = cond (unit == u) (slice_index_or (left_of xs u es) place no_parcel ∷ dropped_of xs u es) (dropped_of xs u es)
dropped_of xs u (resting ∷ es) = dropped_of xs u es

-- one unit's list over a run
pub record Account (a b : Meaning) (es : List Event) (u : ℕ) : Type 0 where
  -- it is what the events leave of it
  pub exact : b.waiting u ≡ left_of (a.waiting u) u es
  -- what waited and what was posted is what waits and what was dropped, each as often: a list only loses what is dropped
  pub balance : IsPermutation (a.waiting u ++ posted_to u es) (b.waiting u ++ dropped_of (a.waiting u) u es)

abbrev pub Accounted : Rule → Type 0
Accounted rule = (a b : Meaning) (es : List Event) → Run rule a es b → (b.served ≡ a.served) × ((u : ℕ) → Account a b es u)

-- nothing waits for a unit that is served
abbrev pub Quiet : Meaning → Type 0
Quiet m = (u : ℕ) → u < m.served → m.waiting u ≡ []

-- what waits was posted in the run to that unit, by that sender, with those bytes
abbrev pub Honest : Rule → Type 0
Honest rule =
    (a b : Meaning) (es : List Event) → Quiet a → Run rule a es b → (u : ℕ) → u < b.served → (x : Parcel) → Memᴰ x (b.waiting u) → Memᴰ (posting x.sender u x.bytes) es

-- a send to all is a run
abbrev pub RunsOfSends : Rule → Type 0
RunsOfSends rule =
    (from : ℕ) (packet : List ℕ) (a : Meaning) (n : ℕ) (b : Meaning) (x y : ℕ) → Sent rule from packet a n b x y → (es : List Event) × Run rule a es b
