-- A set of places as a word: its bits, and what is at or above a place.
use Rattle.std.proofs.Common.{◌≡◌, ℕ, zero, suc, ◌+◌, ◌-◌, ◌/◌, ◌%◌, ◌^◌, ◌<◌, ◌≤◌, Decides, sym, ap, ◌∙◌, div-le_self, div-one, arith, pow_mono, shr-shr}
use native.Mathlib.Decide.{dec_lt}
use native.Mathlib.Nat.{pow-succ', div-div-eq-div-mul, zero-div, div-eq_of_lt}
use Rattle.std.proofs.lemmas.Bool.{eqb-true, eq-eqb}
use Rattle.packet.specs.Questions.{listed}

-- a word has no bit at or above 32
pub none_above : (q s : ℕ) → 32 ≤ q → s < 2 ^ 32 → s / 2 ^ q ≡ 0
none_above q s h f =
    let wide : 2 ^ 32 ≤ 2 ^ q = pow_mono h in
    let low : s < 2 ^ q = omega arith in
    div-eq_of_lt low

-- a number without bits is 0
no_bits : (fuel n : ℕ) → n < 2 ^ fuel → ((k : ℕ) → n / 2 ^ k % 2 ≡ 1 → ⊥) → n ≡ 0
no_bits zero n h f = omega arith
no_bits (suc fuel) n h f =
    let less : n / 2 < 2 ^ fuel = omega (arith, pow-succ' 2 fuel) in
    let halves : n / 2 ≡ 0 = no_bits fuel (n / 2) less (λ k e. f (suc k) (ap (λ m. n / m % 2) (pow-succ' 2 k) ∙ ap (λ m. m % 2) (sym (div-div-eq-div-mul n 2 (2 ^ k))) ∙ e)) in
    let even : n % 2 ≡ 1 → ⊥ = λ e. f 0 (ap (λ m. m % 2) (div-one n) ∙ e) in
    omega (arith, even)

pub listed_bits : (q s : ℕ) → s < 2 ^ 32 → Decides (listed q s) ((p : ℕ) → s / 2 ^ p % 2 ≡ 1 → p < q)
listed_bits q s fits = (
  λ e p b. elim (dec_lt p q) [
    | yes h ↦ h
    | no h ↦
        let above : q ≤ p = omega arith in
        let none : s / 2 ^ q ≡ 0 = eqb-true _ _ e in
        let zeros : s / 2 ^ p ≡ 0 = ap (λ n. s / 2 ^ n) (omega arith) ∙ sym (shr-shr s q (p - q)) ∙ ap (λ n. n / 2 ^ (p - q)) none ∙ zero-div (2 ^ (p - q)) in
        let clash : 0 % 2 ≡ 1 = ap (λ n. n % 2) (sym zeros) ∙ b in
        absurd (omega arith)
  ],
  λ f. eq-eqb _ _ (no_bits 32 (s / 2 ^ q) (omega (arith, div-le_self s (2 ^ q))) (λ k b. absurd (omega (arith, f (q + k) (ap (λ n. n % 2) (sym (shr-shr s q k)) ∙ b))))),
)
