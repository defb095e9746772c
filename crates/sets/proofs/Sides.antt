-- Bearable, basic and large sets: parts, covers, and searches over a list.
use Rattle.std.proofs.Common.{◌≡◌, ℕ, ◌+◌, ◌<◌, ◌≤◌, Bool, true, false, ◌⊎◌, List, Decides, sym, refl, subst, inl, inr, arith}
use native.Mathlib.Decide.{ℕ_discrete}
use Rattle.std.proofs.lemmas.Bool.{false≢true}
use Rattle.std.proofs.lemmas.Bool.Decides.{Decides-like}
use Rattle.sets.specs.Sets.{Has, Set, Is, Inside, Bearable, Basic, Large}
use Rattle.sets.specs.Covers.{CoveredWith}
use Rattle.sets.proofs.Bits.{has?, none_has}

pub decides_yes : {P : Type 0} → P → Decides true P
decides_yes p = (λ _. p, λ _. refl)

pub decides_no : {P : Type 0} → (P → ⊥) → Decides false P
decides_no n = (λ e. absurd (false≢true e), λ p. absurd (n p))

-- a part of a bearable set is bearable; what has a large part is large
module _ (faults : List ℕ) (s t : Set) (sub : Inside s t) where
  pub bearable_part : Bearable faults t → Bearable faults s
  bearable_part k = (k.0, k.1, λ x i. k.2 x (sub x i))

  pub basic_more : Basic faults s → Basic faults t
  basic_more b k = b (bearable_part k)

  pub large_more : Large faults s → Large faults t
  large_more l g h lg lh k = l g h lg lh (λ x i. k x (sub x i))

-- what of s is not in g is bearable just if g and one fault set cover s
module _ (faults : List ℕ) (g s m : ℕ) (is : Is m (λ x. Has s x × (Has g x → ⊥))) where
  pub rest_covered : Bearable faults (Has m) → CoveredWith faults g (Has s)
  rest_covered k = (k.0, k.1, λ x i. elim (has? g x) [ yes y ↦ inl y | no n ↦ inr (k.2 x ((is x).1 (i, n))) ])

  pub covered_rest : CoveredWith faults g (Has s) → Bearable faults (Has m)
  covered_rest k = (k.0, k.1, λ x i. let (b, n) = (is x).0 i in elim (k.2 x b) [ inl y ↦ absurd (n y) | inr y ↦ y ])

-- a search over the first n places: what it says where it ends, and where it stops
module _ (P : ℕ → Type 0) (n i : ℕ) where
  pub all_stand : n ≤ i → ((k : ℕ) → k < i → P k) → Decides true ((k : ℕ) → k < n → P k)
  all_stand le f = decides_yes (λ k h. f k (omega arith))

  pub one_falls : i < n → (P i → ⊥) → Decides false ((k : ℕ) → k < n → P k)
  one_falls lt out = decides_no (λ f. out (f i lt))

  pub one_stands : i < n → P i → Decides true ((k : ℕ) × (k < n) × P k)
  one_stands lt p = decides_yes (i, lt, p)

  pub none_stand : n ≤ i → ((k : ℕ) → k < i → P k → ⊥) → Decides false ((k : ℕ) × (k < n) × P k)
  none_stand le f = decides_no (λ k. f k.0 (omega arith) k.2)

-- what is told of a mask is told of the set that it is
module _ (faults : List ℕ) (m : ℕ) (s : Set) (is : Is m s) (r : Bool) where
  pub bearable_of : Decides r (Bearable faults (Has m)) → Decides r (Bearable faults s)
  bearable_of d =
      Decides-like r (bearable_part faults s (Has m) (λ x. (is x).1)) (bearable_part faults (Has m) s (λ x. (is x).0)) d

  pub basic_of : Decides r (Basic faults (Has m)) → Decides r (Basic faults s)
  basic_of d = Decides-like r (basic_more faults (Has m) s (λ x. (is x).0)) (basic_more faults s (Has m) (λ x. (is x).1)) d

  pub large_of : Decides r (Large faults (Has m)) → Decides r (Large faults s)
  large_of d = Decides-like r (large_more faults (Has m) s (λ x. (is x).0)) (large_more faults s (Has m) (λ x. (is x).1)) d

-- a mask that a loop fills, unit by unit
module _ (s : Set) where
  pub mask_none : Is 0 (λ y. (y < 0) × s y)
  mask_none y = (λ h. absurd (none_has y h), λ k. absurd (let l = k.0 in omega arith))

  pub mask_more : (m n x : ℕ) → Is m (λ y. (y < x) × s y) → Is n (λ y. Has m y ⊎ (y ≡ x)) → s x → Is n (λ y. (y < x + 1) × s y)
  mask_more m n x is js here y = (
    λ h. elim ((js y).0 h) [ inl k ↦ let j = (is y).0 k in (omega arith, j.1) | inr e ↦ (omega arith, subst s (sym e) here) ],
    λ k. let l = k.0 in (js y).1 (elim (ℕ_discrete y x) [ yes e ↦ inr e | no ne ↦ inl ((is y).1 (omega arith, k.1)) ]),
  )

  pub mask_same : (m x : ℕ) → Is m (λ y. (y < x) × s y) → (s x → ⊥) → Is m (λ y. (y < x + 1) × s y)
  mask_same m x is out y = (
    λ h. let j = (is y).0 h in (omega arith, j.1),
    λ k. let l = k.0 in (is y).1 (elim (ℕ_discrete y x) [ yes e ↦ absurd (out (subst s e k.1)) | no ne ↦ (omega arith, k.1) ]),
  )
