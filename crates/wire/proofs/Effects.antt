-- What a post, a drop and a chain of posts leave waiting, in the forms that upper layers use.
use Rattle.std.proofs.Common.{◌≡◌, ℕ, zero, suc, ◌<◌, ◌≤◌, ◌⊎◌, List, [], ◌∷◌, ◌++◌, length, get_or, Some, None, sym, refl, ◌∙◌, subst, inl, inr, ⊎_elim, arith}
use mathlib.Core.List.Memᴰ
use mathlib.Core.List.{Memᴰ}
use Rattle.std.specs.List.{remove}
use Rattle.std.proofs.lemmas.Bool.{cases_eq}
use Rattle.std.proofs.lemmas.Bool.Decides.{nat_tests}
use Rattle.base.specs.Limits.{packet_bytes}
use Rattle.wire.specs.declared.fault.WireFault.TheVariants.{Full}
use Rattle.wire.specs.Calls.{Posted, Dropped, post_fault, look_fault, drop_fault}
use Rattle.wire.specs.Meaning.{Meaning, Rule, Parcel, parcel}
use Rattle.wire.specs.Sends.{Sent, none, laid, lost}

-- what waits at a place waits
pub get_or_in : {X : Type 0} (xs : List X) (k : ℕ) (d : X) → k < length xs → Memᴰ (get_or xs k d) xs
get_or_in [] k d h = absurd (omega arith)
get_or_in (x ∷ xs) zero d h = Memᴰ.head refl
get_or_in (x ∷ xs) (suc k) d h = Memᴰ.tail (get_or_in xs k d (omega arith))

pub removed_in : {X : Type 0} (xs : List X) (i : ℕ) (x : X) → Memᴰ x (remove xs i) → Memᴰ x xs
removed_in [] zero x h = h
removed_in [] (suc i) x h = h
removed_in (y ∷ xs) zero x h = Memᴰ.tail h
removed_in (y ∷ xs) (suc i) x h =
    ⊎_elim (λ (e : x ≡ y). Memᴰ.head e) (λ (m : Memᴰ x (remove xs i)). Memᴰ.tail (removed_in xs i x m)) (Memᴰ.cases_cons h)

-- the questions of an accepted post, drop and look, as facts
pub post_asked : (m : Meaning) (from to : ℕ) (packet : List ℕ) → post_fault m from to packet ≡ None → (from < m.served) × (to < m.served) × (length packet ≤ packet_bytes) × (0 < m.free to)
post_asked m from to packet h = (grind (arith, nat_tests), grind (arith, nat_tests), grind (arith, nat_tests), grind (arith, nat_tests))

pub drop_asked : (m : Meaning) (unit place : ℕ) → drop_fault m unit place ≡ None → (unit < m.served) × (place < length (m.waiting unit))
drop_asked m unit place h = (grind (arith, nat_tests), grind (arith, nat_tests))

pub look_asked : (m : Meaning) (unit place : ℕ) (into : List ℕ) → look_fault m unit place into ≡ None → (unit < m.served) × (place < length (m.waiting unit)) × (packet_bytes ≤ length into)
look_asked m unit place into h = (grind (arith, nat_tests), grind (arith, nat_tests), grind (arith, nat_tests))

-- a post refused for want of a place
pub post_full : (m : Meaning) (from to : ℕ) (packet : List ℕ) → post_fault m from to packet ≡ Some (Full to) → m.free to ≡ 0
post_full m from to packet h = grind (arith, nat_tests)

-- after a post each unit's list is the old one, or the old one and the packet
pub post_lists : (a b : Meaning) (from to : ℕ) (packet : List ℕ) → Posted a from to packet b → (u : ℕ) → ((u ≡ to) × (b.waiting u ≡ a.waiting u ++ (parcel from packet ∷ []))) ⊎ ((u ≡ to → ⊥) × (b.waiting u ≡ a.waiting u))
post_lists a b from to packet did u =
    ⊎_elim
    (λ (e : u ≡ to). inl (e, subst (λ (v : ℕ). b.waiting v ≡ a.waiting v ++ (parcel from packet ∷ [])) (sym e) did.laid))
    (λ ne. inr (ne, did.others u ne))
    (cases_eq u to)

-- after a drop each unit's list is the old one, or the old one less that packet
pub drop_lists : (a b : Meaning) (unit place : ℕ) → Dropped a unit place b → (u : ℕ) → ((u ≡ unit) × (b.waiting u ≡ remove (a.waiting u) place)) ⊎ ((u ≡ unit → ⊥) × (b.waiting u ≡ a.waiting u))
drop_lists a b unit place did u =
    ⊎_elim
    (λ (e : u ≡ unit). inl (e, subst (λ (v : ℕ). b.waiting v ≡ remove (a.waiting v) place) (sym e) did.gone))
    (λ ne. inr (ne, did.others u ne))
    (cases_eq u unit)

-- what waits after a post waited before, or is the packet
pub post_in : (a b : Meaning) (from to : ℕ) (packet : List ℕ) → Posted a from to packet b → (u : ℕ) (x : Parcel) → Memᴰ x (b.waiting u) → Memᴰ x (a.waiting u) ⊎ ((u ≡ to) × (x ≡ parcel from packet))
post_in a b from to packet did u x h =
    ⊎_elim
    (λ (p : (u ≡ to) × (b.waiting u ≡ a.waiting u ++ (parcel from packet ∷ []))).
    ⊎_elim inl (λ (m : Memᴰ x (parcel from packet ∷ [])). inr (p.0, Memᴰ.eq_of_singleton m)) (Memᴰ.append_cases (a.waiting u) (subst (λ (l : List Parcel). Memᴰ x l) p.1 h)))
    (λ (p : (u ≡ to → ⊥) × (b.waiting u ≡ a.waiting u)). inl (subst (λ (l : List Parcel). Memᴰ x l) p.1 h))
    (post_lists a b from to packet did u)

-- what waits after a drop waited before
pub drop_in : (a b : Meaning) (unit place : ℕ) → Dropped a unit place b → (u : ℕ) (x : Parcel) → Memᴰ x (b.waiting u) → Memᴰ x (a.waiting u)
drop_in a b unit place did u x h =
    ⊎_elim
    (λ (p : (u ≡ unit) × (b.waiting u ≡ remove (a.waiting u) place)). removed_in (a.waiting u) place x (subst (λ (l : List Parcel). Memᴰ x l) p.1 h))
    (λ (p : (u ≡ unit → ⊥) × (b.waiting u ≡ a.waiting u)). subst (λ (l : List Parcel). Memᴰ x l) p.1 h)
    (drop_lists a b unit place did u)

module _ (rule : Rule) (from : ℕ) (packet : List ℕ) (a : Meaning) where
  -- what waits after a chain of posts waited before, or is the packet, for a unit below n
  pub sent_in : (n : ℕ) (b : Meaning) (x y : ℕ) → Sent rule from packet a n b x y → (u : ℕ) (p : Parcel) → Memᴰ p (b.waiting u) → Memᴰ p (a.waiting u) ⊎ ((u < n) × (p ≡ parcel from packet))
  sent_in _ _ _ _ none u p h = inl h
  sent_in _ c _ _ (laid {n = n} {b = b} {x = x} {y = y} before did) u p h =
      ⊎_elim
      (λ (m : Memᴰ p (b.waiting u)). ⊎_elim inl (λ (q : (u < n) × (p ≡ parcel from packet)). inr (omega arith, q.1)) (sent_in n b x y before u p m))
      (λ (q : (u ≡ n) × (p ≡ parcel from packet)). inr (omega arith, q.1))
      (post_in b c from n packet did.1 u p h)
  sent_in _ b _ _ (lost {n = n} {x = x} {y = y} before full) u p h =
      ⊎_elim inl (λ (q : (u < n) × (p ≡ parcel from packet)). inr (omega arith, q.1)) (sent_in n b x y before u p h)

  pub sent_served : (n : ℕ) (b : Meaning) (x y : ℕ) → Sent rule from packet a n b x y → b.served ≡ a.served
  sent_served _ _ _ _ none = refl
  sent_served _ _ _ _ (laid {n = n} {b = b} {x = x} {y = y} before did) = did.1.served ∙ sent_served n b x y before
  sent_served _ b _ _ (lost {n = n} {x = x} {y = y} before full) = sent_served n b x y before
