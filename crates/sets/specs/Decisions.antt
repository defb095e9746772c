-- Decisions: each is either a proof of its statement or of the contrary, so a definition that asks one says in its type what it asks.
use Rattle.std.specs.Prelude.{ℕ, zero, suc, ◌/◌, ◌%◌, ◌^◌, ◌<◌, ◌⊎◌}
use Rattle.std.proofs.Common.{subst, inl, inr, arith, not-suc-le-zero}
use Rattle.std.proofs.Math.Nat.{div-eq_of_lt, pow-succ'}
use Rattle.std.proofs.Math.Decide.{ℕ_discrete, dec_lt}
use Rattle.sets.specs.Sets.{Has}

-- the first value where the answer is yes, else the second
abbrev pub pick : {A B : Type 0} → Dec A → B → B → B
pick (yes _) a b = a
pick (no _) a b = b

abbrev pub both? : {A B : Type 0} → Dec A → Dec B → Dec (A × B)
both? (yes a) (yes b) = yes (a, b)
both? (yes a) (no n) = no (λ p. n p.1)
both? (no n) d = no (λ p. n p.0)

abbrev pub either? : {A B : Type 0} → Dec A → Dec B → Dec (A ⊎ B)
either? (yes a) d = yes (inl a)
either? (no n) (yes b) = yes (inr b)
either? (no n) (no m) = no (λ s. elim s [ inl a ↦ n a | inr b ↦ m b ])

abbrev pub if? : {A B : Type 0} → Dec A → Dec B → Dec (A → B)
if? (yes a) (yes b) = yes (λ _. b)
if? (yes a) (no n) = no (λ f. n (f a))
if? (no n) d = yes (λ a. absurd (n a))

abbrev pub not? : {A : Type 0} → Dec A → Dec (¬ A)
not? (yes a) = no (λ n. n a)
not? (no n) = yes n

-- a decision of an equal statement
abbrev pub as? : {A B : Type 0} → (A → B) → (B → A) → Dec A → Dec B
as? f g (yes a) = yes (f a)
as? f g (no n) = no (λ b. n (g b))

-- all numbers below a bound; some number
abbrev pub all_step : {P : ℕ → Type 0} (n : ℕ) → Dec (P n) → Dec ((x : ℕ) → x < n → P x) → Dec ((x : ℕ) → x < suc n → P x)
all_step {P} n (yes p) (yes f) = yes (λ x h. elim (ℕ_discrete n x) [ yes e ↦ subst P e p | no ne ↦ f x (omega arith) ])
all_step n (no np) d = no (λ k. np (k n (omega arith)))
all_step n (yes p) (no nf) = no (λ k. nf (λ x h. k x (omega arith)))

unfoldable pub all? : {P : ℕ → Type 0} → ((x : ℕ) → Dec (P x)) → (n : ℕ) → Dec ((x : ℕ) → x < n → P x)
all? d zero = yes (λ x h. absurd (not-suc-le-zero h))
all? d (suc n) = all_step n (d n) (all? d n)

abbrev pub some_step : {P : ℕ → Type 0} (n : ℕ) → Dec (P n) → Dec ((x : ℕ) × (x < n) × P x) → Dec ((x : ℕ) × (x < suc n) × P x)
some_step n (yes p) d = yes (n, omega arith, p)
some_step n (no np) (yes k) = yes (k.0, omega arith, k.2)
some_step {P} n (no np) (no nk) =
    no (λ k. elim (ℕ_discrete k.0 n) [ yes e ↦ np (subst P e k.2) | no ne ↦ let lt = k.1 in nk (k.0, omega arith, k.2) ])

unfoldable pub some? : {P : ℕ → Type 0} → ((x : ℕ) → Dec (P x)) → (n : ℕ) → Dec ((x : ℕ) × (x < n) × P x)
some? d zero = no (λ k. not-suc-le-zero k.1)
some? d (suc n) = some_step n (d n) (some? d n)

-- units of a mask

abbrev pub has? : (m x : ℕ) → Dec (Has m x)
has? m x = ℕ_discrete (m / 2 ^ x % 2) 1

power_above : (x : ℕ) → x < 2 ^ x
power_above zero = omega arith
power_above (suc x) = omega (arith, power_above x, pow-succ' 2 x)

-- a unit of a mask is below the mask as a number
pub has_under : (m x : ℕ) → Has m x → x < m
has_under m x h =
    elim (dec_lt x m) [
      | yes l ↦ l
      | no ge ↦ let p = power_above x in let lt : m < 2 ^ x = omega arith in let z = div-eq_of_lt lt in absurd (omega arith)
    ]

-- all units of a mask; some unit
abbrev pub all_in? : {P : ℕ → Type 0} (m : ℕ) → ((x : ℕ) → Dec (P x)) → Dec ((x : ℕ) → Has m x → P x)
all_in? m d = as? (λ f x h. f x (has_under m x h) h) (λ f x lt h. f x h) (all? (λ x. if? (has? m x) (d x)) m)

abbrev pub some_in? : {P : ℕ → Type 0} (m : ℕ) → ((x : ℕ) → Dec (P x)) → Dec ((x : ℕ) × Has m x × P x)
some_in? m d =
    as? (λ k. (k.0, k.2.0, k.2.1)) (λ k. (k.0, has_under m k.0 k.1, (k.1, k.2))) (some? (λ x. both? (has? m x) (d x)) m)
