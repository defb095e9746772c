-- What `any` and `all` over a list decide, where the closure decides a fact of each element.
use Rattle.std.proofs.Common.{◌≡◌, ℕ, ◌<◌, ◌≤◌, Bool, true, false, List, length, get_or, Option, None, Some, MatchOption, Decides, MatchBool, sym, refl, subst, arith}
use Rattle.std.specs.Fn.{Called, CalledAt}
use denote.Ref.{Bor}
use Rattle.std.specs.Bool.{⊤}
use Rattle.std.specs.Iterator.{YieldsThen}
use Rattle.std.specs.List.{FoldsTo, HoldsAt, AllWithin}
use Rattle.std.specs.List.{range_with_len}
use Rattle.std.proofs.iter.Yields.{nat_range_steps}
use Rattle.std.specs.declared.ops.Range.{Range}
use Rattle.std.proofs.lemmas.Iterator.{YieldsList, YieldsList-from_range, first_from_Range, cases_from_any, cases_from_all}
use Rattle.std.proofs.lemmas.List.FromFn.{length-range_with_len, get_or-range_with_len}
use Rattle.std.proofs.lemmas.Bool.Decides.{Decides-like}
use Rattle.std.proofs.lemmas.Bool.{false≢true}
use denote.Param.Members.{Mut}

module _ {X : Type 0} (P : X → Type 0) (xs : List X) (d : X) where
  any_tells : (r : Bool) → MatchBool r ((k : ℕ) × (k < length xs) × HoldsAt P xs k) (AllWithin (λ x. P x → ⊥) xs 0 (length xs))
      → Decides r ((k : ℕ) × (k < length xs) × P (get_or xs k d))
  any_tells true h = (λ _. (h.0, h.1, h.2 d), λ _. refl)
  any_tells false h = (λ e. absurd (false≢true e), λ w. absurd (h w.0 d (omega arith) w.1 w.2))

  all_tells : (r : Bool) → MatchBool r (AllWithin P xs 0 (length xs)) ((k : ℕ) × (k < length xs) × HoldsAt (λ x. P x → ⊥) xs k)
      → Decides r ((k : ℕ) → k < length xs → P (get_or xs k d))
  all_tells true h = (λ _ k lt. h k d (omega arith) lt, λ _. refl)
  all_tells false h = (λ e. absurd (false≢true e), λ f. absurd (h.2 d (f h.0 h.1)))

module _ {S A B F : Type 0} {steps : S → Option A → S → Type 0} {v : A → B} {g : Mut F (A × Unit {0}) Bool} {s : S} {all : List B} (P : B → Type 0) (d : B) (u : S) (f : F) (r : Bool) where
  -- `any`: some element has the fact
  pub any_decides : (xs : List A) × (o : Option A) × (j : F) × YieldsThen steps s xs o u × FoldsTo (λ p x q. Called g p (x, tt) false q) f xs j × MatchOption o (r ≡ false) (λ x. (r ≡ true) × ((h : F) × Called g j (x, tt) true h))
      → YieldsList steps v s all
      → ((x : A) (q : F) → Called g f (x, tt) true q → P (v x)) → ((x : A) (q : F) → Called g f (x, tt) false q → (q ≡ f) × (P (v x) → ⊥))
      → Decides r ((k : ℕ) × (k < length all) × P (get_or all k d))
  any_decides ran yields holds fails = any_tells P all d r (cases_from_any u f r P (λ x. P x → ⊥) ran yields holds fails)

  -- `all`: each element has it
  pub all_decides : (xs : List A) × (o : Option A) × (j : F) × YieldsThen steps s xs o u × FoldsTo (λ p x q. Called g p (x, tt) true q) f xs j × MatchOption o (r ≡ true) (λ x. (r ≡ false) × ((h : F) × Called g j (x, tt) false h))
      → YieldsList steps v s all
      → ((x : A) (q : F) → Called g f (x, tt) true q → (q ≡ f) × P (v x)) → ((x : A) (q : F) → Called g f (x, tt) false q → (P (v x) → ⊥))
      → Decides r ((k : ℕ) → k < length all → P (get_or all k d))
  all_decides ran yields holds fails = all_tells P all d r (cases_from_all u f r P (λ x. P x → ⊥) ran yields holds fails)

module _ {F : Type 0} {g : Mut F (ℕ × Unit {0}) Bool} (P : ℕ → Type 0) (n : ℕ) (u : Range ℕ) (f : F) (r : Bool) where
  -- `all` over the numbers below n
  pub all_below_decides : (xs : List ℕ) × (o : Option ℕ) × (j : F) × YieldsThen nat_range_steps (record { start = 0; end = n }) xs o u × FoldsTo (λ p x q. Called g p (x, tt) true q) f xs j × MatchOption o (r ≡ true) (λ x. (r ≡ false) × ((h : F) × Called g j (x, tt) false h))
      → ((x : ℕ) (q : F) → Called g f (x, tt) true q → (q ≡ f) × P x) → ((x : ℕ) (q : F) → Called g f (x, tt) false q → (P x → ⊥))
      → Decides r ((k : ℕ) → k < n → P k)
  all_below_decides ran holds fails =
      let at : (k : ℕ) → k < n → get_or (range_with_len 0 n) k 0 ≡ k = λ k lt. omega (arith, get_or-range_with_len 0 n k 0 lt) in
      Decides-like r
      (λ h k lt. subst P (at k lt) (h k (rw length-range_with_len lt)))
      (λ h k lt. let lt' : k < n = rw length-range_with_len at lt in subst P (sym (at k lt')) (h k lt'))
      (all_decides P 0 u f r ran (YieldsList-from_range 0 n n refl (omega arith)) holds fails)

-- the first of the numbers below n that has the fact, or each has the contrary
first_tells : (Yes No : ℕ → Type 0) (n : ℕ) (r : Option ℕ)
    → MatchOption r ((k : ℕ) → 0 ≤ k → k < n → No k) (λ i. (0 ≤ i) × (i < n) × Yes i × ((k : ℕ) → 0 ≤ k → k < i → No k))
    → MatchOption r ((k : ℕ) → k < n → No k) (λ i. (i < n) × Yes i × ((k : ℕ) → k < i → No k))
first_tells Yes No n None h = λ k lt. h k (omega arith) lt
first_tells Yes No n (Some i) h = (h.1, h.2, λ k lt. h.3 k (omega arith) lt)

module _ {F : Type 0} {g : Mut F (Bor ℕ × Unit {0}) Bool} (Yes No : ℕ → Type 0) (n : ℕ) (u : Range ℕ) (f : F) (r : Option ℕ) where
  -- `find` over the numbers below n
  pub first_below : (xs : List ℕ) × (j : F) × YieldsThen nat_range_steps (record { start = 0; end = n }) xs r u × FoldsTo (λ p x q. CalledAt g p x false q) f xs j × MatchOption r ⊤ (λ x. (h : F) × CalledAt g j x true h)
      → ((x : ℕ) (q : F) → CalledAt g f x true q → Yes x) → ((x : ℕ) (q : F) → CalledAt g f x false q → (q ≡ f) × No x)
      → MatchOption r ((k : ℕ) → k < n → No k) (λ i. (i < n) × Yes i × ((k : ℕ) → k < i → No k))
  first_below ran holds fails = first_tells Yes No n r (first_from_Range (record { start = 0; end = n }) u f r Yes No ran holds fails)
