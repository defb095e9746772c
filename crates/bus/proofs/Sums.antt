-- Sums over the units.
use Rattle.std.proofs.Common.{◌≡◌, ℕ, zero, suc, ◌+◌, ◌<◌, cond, eqb, sym, refl, ap, ◌∙◌, ⊎_elim, arith}
use Rattle.std.proofs.lemmas.Bool.{cases_eq, eq-eqb, ne_eqb}
use Rattle.bus.specs.Shared.{sum_below}

pub sum_none : (f : ℕ → ℕ) (n : ℕ) → ((u : ℕ) → u < n → f u ≡ 0) → sum_below f n ≡ 0
sum_none f zero none = refl
sum_none f (suc n) none = let a = sum_none f n (λ u h. none u (omega arith)) in let b = none n (omega arith) in omega arith

pub sum_add : (f g h : ℕ → ℕ) (n : ℕ) → ((u : ℕ) → f u ≡ g u + h u) → sum_below f n ≡ sum_below g n + sum_below h n
sum_add f g h zero each = refl
sum_add f g h (suc n) each = let a = sum_add f g h n each in let b = each n in omega arith

pub sum_same : (f g : ℕ → ℕ) (n : ℕ) → ((u : ℕ) → u < n → g u ≡ f u) → sum_below g n ≡ sum_below f n
sum_same f g zero each = refl
sum_same f g (suc n) each = let a = sum_same f g n (λ u h. each u (omega arith)) in let b = each n (omega arith) in omega arith

-- one term is larger by one
pub sum_more : (f g : ℕ → ℕ) (t n : ℕ) → t < n → g t ≡ f t + 1 → ((u : ℕ) → (u ≡ t → ⊥) → g u ≡ f u) → sum_below g n ≡ sum_below f n + 1
sum_more f g t zero h here others = absurd (omega arith)
sum_more f g t (suc n) h here others =
    ⊎_elim
    (λ (e : n ≡ t).
    let rest = sum_same f g n (λ u l. others u (λ q. omega arith)) in
    let last : g n ≡ f n + 1 = ap g e ∙ here ∙ ap (λ k. f k + 1) (sym e) in
    let goal : sum_below g n + g n ≡ sum_below f n + f n + 1 = omega arith in goal)
    (λ (ne : n ≡ t → ⊥).
    let below : t < n = omega arith in
    let rest = sum_more f g t n below here others in
    let last = others n ne in
    let goal : sum_below g n + g n ≡ sum_below f n + f n + 1 = omega arith in goal)
    (cases_eq n t)

-- of the units below n just one is t
pub sum_one : (t n : ℕ) → t < n → sum_below (λ u. cond (eqb t u) 1 0) n ≡ 1
sum_one t n h =
    sum_more (λ u. 0) (λ u. cond (eqb t u) 1 0) t n h (simp (eq-eqb t t refl)) (λ u ne. simp (ne_eqb t u (λ e. ne (sym e))))
    ∙ ap (λ k. k + 1) (sum_none (λ u. 0) n (λ u l. refl))
