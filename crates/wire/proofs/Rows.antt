-- Rows of slots, n of them from b on: what a write and a drop leave of each.
use Rattle.std.proofs.Common.{◌≡◌, ℕ, suc, ◌+◌, ◌-◌, ◌<◌, ◌≤◌, ◌⊎◌, List, ◌∷◌, [], ◌++◌, map, length, take, drop, set, sym, ap, ◌∙◌, ap₂, ⊎_elim, arith}
use Rattle.std.specs.List.{copy_within, remove}
use Rattle.std.proofs.lemmas.List.{length-take-le, length-drop, take_at, take-take, drop-drop, drop-take, drop-append-le, take_more_set, take-set-le, drop-set-lt, drop-set-add, map-append, take-map, drop-map}
use Rattle.std.proofs.lemmas.List.Edits.{take-paste, drop-paste}

module _ {X : Type 0} where
  abbrev pub row : List X → ℕ → ℕ → List X
  row s b n = take n (drop b s)

  -- t differs from s only from lo to hi - 1
  pub record Between (s t : List X) (lo hi : ℕ) : Type 0 where
    pub below : take lo t ≡ take lo s
    pub above : drop hi t ≡ drop hi s

  pub set_between : (s : List X) (i : ℕ) (x : X) → Between s (set s i x) i (i + 1)
  set_between s i x = record { below = take-set-le i s i x (omega arith); above = drop-set-lt (i + 1) s i x (omega arith) }

  -- a row that lies elsewhere stays
  pub row_stays : (s t : List X) (lo hi c m : ℕ) → Between s t lo hi → (c + m ≤ lo) ⊎ (hi ≤ c) → row t c m ≡ row s c m
  row_stays s t lo hi c m same side =
      ⊎_elim
      (λ (h : c + m ≤ lo).
      let e : take (c + m) t ≡ take (c + m) s = sym (take-take (c + m) lo t h) ∙ ap (take (c + m)) same.below ∙ take-take (c + m) lo s h in
      sym (drop-take c m t) ∙ ap (drop c) e ∙ drop-take c m s)
      (λ (h : hi ≤ c).
      let there : hi + (c - hi) ≡ c = omega arith in
      ap (λ j. take m (drop j t)) (sym there) ∙ ap (take m) (sym (drop-drop (c - hi) hi t) ∙ ap (drop (c - hi)) same.above ∙ drop-drop (c - hi) hi s) ∙ ap (λ j. take m (drop j s)) there)
      side

  -- one more at the end of a row
  pub row_more : (s : List X) (b n : ℕ) (x : X) → b + n < length s → row (set s (b + n) x) b (n + 1) ≡ row s b n ++ (x ∷ [])
  row_more s b n x h =
      ap (take (n + 1)) (drop-set-add b s n x) ∙ take_more_set (drop b s) n x (simp length-drop (omega arith))

  -- the later ones of a row moved down over the one at k
  module _ (s t : List X) (b k n at end : ℕ) (inside : k < n) (room : b + n ≤ length s) (here : at ≡ b + k) (there : end ≡ b + n) (moved : t ≡ copy_within s (at + 1) end at) where
    later : List X
    later = take (end - (at + 1)) (drop (at + 1) s)

    front : take (end - 1) t ≡ take at s ++ later
    unfolding later
    front =
        let e : end - 1 ≡ at + (end - (at + 1)) = omega arith in
        ap₂ take e moved ∙ take-paste s at (drop (at + 1) s) (end - (at + 1)) (omega arith) (simp length-drop (omega arith))

    pub less_between : Between s t at (end - 1)
    unfolding later
    less_between =
        let e : end - 1 ≡ at + (end - (at + 1)) = omega arith in
        record {
          below = sym (take-take at (end - 1) t (omega arith)) ∙ ap (take at) front ∙ take_at (take at s) later at (length-take-le at s (omega arith));
          above = ap₂ drop e moved ∙ drop-paste s at (drop (at + 1) s) (end - (at + 1)) (omega arith) (simp length-drop (omega arith)) ∙ ap (λ j. drop j s) (sym e);
        }

    pub row_less : row t b (n - 1) ≡ remove (row s b n) k
    unfolding later
    row_less =
        let part = drop b s in
        let m : end - 1 ≡ b + (n - 1) = omega arith in
        let front_of : drop b (take at s) ≡ take k part = ap (λ j. drop b (take j s)) here ∙ drop-take b k s in
        let rest : later ≡ drop (suc k) (take n part) =
        ap (λ j. take (end - (at + 1)) (drop j s)) (omega arith) ∙ ap (take (end - (at + 1))) (sym (drop-drop (suc k) b s)) ∙ sym (drop-take (suc k) (end - (at + 1)) part) ∙ ap (λ j. drop (suc k) (take j part)) (omega arith) in
        sym (drop-take b (n - 1) t) ∙ ap (λ j. drop b (take j t)) (sym m) ∙ ap (drop b) front ∙ drop-append-le b (take at s) later (rw (length-take-le at s (omega arith)) (omega arith))
        ∙ ap₂ (λ xs ys. xs ++ ys) (front_of ∙ sym (take-take k n part (omega arith))) rest

-- taking out and reading each element as something else come to the same in either order
pub removed_map : {X Y : Type 0} (f : X → Y) (xs : List X) (k : ℕ) → remove (map f xs) k ≡ map f (remove xs k)
removed_map f xs k =
    ap₂ (λ a b. a ++ b) (take-map f k xs) (drop-map f (suc k) xs) ∙ sym (map-append f (take k xs) (drop (suc k) xs))
