-- What a walk over the used slots finds at a place of a unit's list.
use Rattle.std.proofs.Common.{◌≡◌, ℕ, zero, suc, ◌+◌, ◌≤◌, List, [], ◌∷◌, ◌++◌, length, take, filter as kept_by, Option, Some, None, MatchOption, sym, refl, ap, ◌∙◌, subst, ⊎_elim, zero-add, add-zero, arith}
use Rattle.std.specs.List.{enumerate_from, slice_get}
use Rattle.std.specs.Option.{option_map}
use Rattle.std.proofs.lemmas.List.{length-map}
use Rattle.std.proofs.lemmas.Bool.{eq-eqb, ne_eqb, cases_eq}
use Rattle.bus.specs.declared.entry.BusSlot.{BusSlot}
use Rattle.bus.specs.Store.{is_for, waits, Stands}

-- the k-th slot of the unit in xs is at i, where the first of xs is at n
record Found (u : ℕ) (xs : List BusSlot) (n k i : ℕ) : Type 0 where
  before : List BusSlot
  slot : BusSlot
  after : List BusSlot
  whole : xs ≡ before ++ (slot ∷ after)
  own : slot.to ≡ u
  index : n + length before ≡ i
  earlier : length (kept_by (is_for u) before) ≡ k

module _ (u : ℕ) where
  abbrev walked : List BusSlot → ℕ → ℕ → Option ℕ
  walked xs n k = option_map (λ p. p.0) (slice_get (kept_by (λ p. is_for u p.1) (enumerate_from n xs)) k)

  abbrev Ends : Option ℕ → List BusSlot → ℕ → ℕ → Type 0
  Ends o xs n k = MatchOption o (length (kept_by (is_for u) xs) ≤ k) (Found u xs n k)

  module _ (x : BusSlot) (xs : List BusSlot) (n k : ℕ) where
    after_own : (o : Option ℕ) → x.to ≡ u → Ends o xs (n + 1) k → Ends o (x ∷ xs) n (suc k)
    after_own None e h = simp (eq-eqb x.to u e) (omega arith)
    after_own (Some i) e h =
        record { before = x ∷ h.before; slot = h.slot; after = h.after; whole = ap (λ l. x ∷ l) h.whole; own = h.own; index = omega (arith, h.index); earlier = simp (eq-eqb x.to u e) (ap suc h.earlier) }

    after_other : (o : Option ℕ) → (x.to ≡ u → ⊥) → Ends o xs (n + 1) k → Ends o (x ∷ xs) n k
    after_other None ne h = simp (ne_eqb x.to u ne) h
    after_other (Some i) ne h =
        record { before = x ∷ h.before; slot = h.slot; after = h.after; whole = ap (λ l. x ∷ l) h.whole; own = h.own; index = omega (arith, h.index); earlier = simp (ne_eqb x.to u ne) h.earlier }

  walk : (xs : List BusSlot) (n k : ℕ) → Ends (walked xs n k) xs n k
  walk [] n k = omega arith
  walk (x ∷ xs) n zero =
      ⊎_elim
      (λ (e : x.to ≡ u).
      let on : walked (x ∷ xs) n zero ≡ Some n = simp (eq-eqb x.to u e) refl in
      subst (λ o. Ends o (x ∷ xs) n zero) (sym on) (record { before = []; slot = x; after = xs; whole = refl; own = e; index = add-zero n; earlier = refl }))
      (λ ne.
      let on : walked (x ∷ xs) n zero ≡ walked xs (n + 1) zero = simp (ne_eqb x.to u ne) refl in
      subst (λ o. Ends o (x ∷ xs) n zero) (sym on) (after_other x xs n zero (walked xs (n + 1) zero) ne (walk xs (n + 1) zero)))
      (cases_eq x.to u)
  walk (x ∷ xs) n (suc k) =
      ⊎_elim
      (λ (e : x.to ≡ u).
      let on : walked (x ∷ xs) n (suc k) ≡ walked xs (n + 1) k = simp (eq-eqb x.to u e) refl in
      subst (λ o. Ends o (x ∷ xs) n (suc k)) (sym on) (after_own x xs n k (walked xs (n + 1) k) e (walk xs (n + 1) k)))
      (λ ne.
      let on : walked (x ∷ xs) n (suc k) ≡ walked xs (n + 1) (suc k) = simp (ne_eqb x.to u ne) refl in
      subst (λ o. Ends o (x ∷ xs) n (suc k)) (sym on) (after_other x xs n (suc k) (walked xs (n + 1) (suc k)) ne (walk xs (n + 1) (suc k))))
      (cases_eq x.to u)

  module _ (slots : List BusSlot) (used k : ℕ) where
    stood : (r : Option ℕ) → Ends r (take used slots) 0 k → MatchOption r (length (waits slots used u) ≤ k) (λ i. Stands slots used u k i)
    stood None e = rw length-map e
    stood (Some i) f =
        record { before = f.before; slot = f.slot; after = f.after; whole = f.whole; own = f.own; index = sym (zero-add (length f.before)) ∙ f.index; earlier = f.earlier }

    -- the walk of `find`
    pub stands : (at : Option (ℕ × BusSlot)) (r : Option ℕ) → at ≡ slice_get (kept_by (λ p. is_for u p.1) (enumerate_from 0 (take used slots))) k → r ≡ option_map (λ p. p.0) at → MatchOption r (length (waits slots used u) ≤ k) (λ i. Stands slots used u k i)
    stands at r numbered first =
        let to : r ≡ walked (take used slots) 0 k = first ∙ ap (option_map (λ p. p.0)) numbered in
        stood r (subst (λ o. Ends o (take used slots) 0 k) (sym to) (walk (take used slots) 0 k))
