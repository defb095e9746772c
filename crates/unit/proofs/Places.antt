-- Chains over the places below a number, and chains read through a function.
use Rattle.std.proofs.Common.{◌≡◌, ℕ, ◌<◌, Bool, true, false, List, [], ◌∷◌, map, length, get_or, Some, None, Option, Decides, subst, sym, refl, ap, ◌∙◌, arith}
use Rattle.std.proofs.lemmas.Bool.Decides.{Decides-like}
use Rattle.std.proofs.lemmas.Iterator.{YieldsList, YieldsList-from_range}
use Rattle.std.proofs.lemmas.List.FromFn.{length-range_with_len, get_or-range_with_len}
use Rattle.std.proofs.iter.Yields.{nat_range_steps}
use Rattle.std.specs.Prelude.{MatchOption, ⊤}
use Rattle.std.specs.Fn.{Called, CalledAt}
use Rattle.std.specs.Iterator.{YieldsThen, AlwaysYields}
use Rattle.std.specs.List.{FoldsTo, range_with_len}
use Rattle.std.specs.declared.ops.Range.{Range}
use denote.Param.Members.{Mut}
use denote.Ref.{Bor}
use Rattle.sets.proofs.Searches.{any_decides, first_below}
use Rattle.unit.specs.Reported.{least?}
use Rattle.unit.proofs.Steps.{least_none, least_some}

-- the range ends at m, which is n
module _ {F : Type 0} (m n : ℕ) (same : m ≡ n) (P : ℕ → Type 0) where
  -- with `any`: some place passes
  pub some_place : {g : Mut F (ℕ × Unit {0}) Bool} (u : Range ℕ) (f : F) (r : Bool)
      → (xs : List ℕ) × (o : Option ℕ) × (j : F) × YieldsThen nat_range_steps (record { start = 0; end = m }) xs o u
      × FoldsTo (λ p x q. Called g p (x, tt) false q) f xs j × MatchOption o (r ≡ false) (λ x. (r ≡ true) × ((h : F) × Called g j (x, tt) true h))
      → ((x : ℕ) (q : F) → Called g f (x, tt) true q → P x) → ((x : ℕ) (q : F) → Called g f (x, tt) false q → (q ≡ f) × ¬ (P x))
      → Decides r ((x : ℕ) × (x < n) × P x)
  some_place u f r ran hit miss =
      let long : length (range_with_len 0 m) ≡ n = length-range_with_len 0 m ∙ same in
      let at : (k : ℕ) → k < n → get_or (range_with_len 0 m) k 0 ≡ k = λ k lt. omega (arith, get_or-range_with_len 0 m k 0 (omega arith)) in
      Decides-like r
      (λ (k, lt, p). let in_n : k < n = omega arith in (k, in_n, subst P (at k in_n) p))
      (λ (k, lt, p). (k, omega arith, subst P (sym (at k lt)) p))
      (any_decides P 0 u f r ran (YieldsList-from_range 0 m m refl (omega arith)) hit miss)

  -- with `find`: the least place that passes, by its definition
  pub least_place : {g : Mut F (Bor ℕ × Unit {0}) Bool} (d : (x : ℕ) → Dec (P x)) (u : Range ℕ) (f : F) (r : Option ℕ)
      → (xs : List ℕ) × (j : F) × YieldsThen nat_range_steps (record { start = 0; end = m }) xs r u
      × FoldsTo (λ p x q. CalledAt g p x false q) f xs j × MatchOption r ⊤ (λ x. (h : F) × CalledAt g j x true h)
      → ((x : ℕ) (q : F) → CalledAt g f x true q → P x) → ((x : ℕ) (q : F) → CalledAt g f x false q → (q ≡ f) × ¬ (P x))
      → r ≡ least? d n
  least_place d u f r ran hit miss = go r (first_below P (λ x. ¬ (P x)) m u f r ran hit miss)
    where
      go : (r : Option ℕ) → MatchOption r ((k : ℕ) → k < m → ¬ (P k)) (λ i. (i < m) × P i × ((k : ℕ) → k < i → ¬ (P k))) → r ≡ least? d n
      go None no_one = least_none d n (λ k lt. no_one k (omega arith))
      go (Some i) (lt, p, before) = least_some d n i (omega arith) p before

-- a chain that gives a list gives its image where each item is read through h
module _ {S A B C : Type 0} (h : B → C) where
  through : (steps : S → Option A → S → Type 0) (v : A → B) (s : S) (ys : List B) → AlwaysYields steps v s ys → AlwaysYields steps (λ a. h (v a)) s (map h ys)
  through steps v s [] y = y
  through steps v s (y ∷ ys) (goes, next) = (goes, λ x t st. let k = next x t st in (ap h k.0, through steps v t ys k.1))

  pub read_through : {steps : S → Option A → S → Type 0} {v : A → B} {s : S} {ys : List B} → YieldsList steps v s ys → YieldsList steps (λ a. h (v a)) s (map h ys)
  read_through {steps = steps} {v = v} {s = s} {ys = ys} y = record { runs = through steps v s ys y.runs }
