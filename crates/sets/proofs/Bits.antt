-- The bits of a mask, over any width.
use Rattle.std.proofs.Common.{◌≡◌, ℕ, zero, suc, ◌+◌, ◌-◌, ◌*◌, ◌/◌, ◌%◌, ◌^◌, ◌<◌, ◌≤◌, min, max, not, eqb, ltb, ◌⊎◌, Decides, sym, refl, ap, ◌∙◌, subst, inl, inr, div-one, arith, pow_mono}
use native.Mathlib.Nat.{pow-succ', div-div-eq-div-mul, zero-div, div-eq_of_lt}
use native.Mathlib.Decide.{ℕ_discrete, dec_lt}
use lib.Bits.{bit_or, bit_and, or_shr, or_step, and_shr, and_step, and_comm, and_mask}
use Rattle.std.proofs.lemmas.Bool.{eqb-true, eq-eqb, ltb-true, lt-ltb}
use Rattle.std.proofs.lemmas.Bool.Decides.{Decides-eqb, Decides-like, Decides-not}
use Rattle.std.proofs.lemmas.Nat.{shr-shr, one_shl}
use Rattle.sets.specs.Sets.{Has, Is, Inside, Below}

pub has? : (m x : ℕ) → Dec (Has m x)
has? m x = ℕ_discrete (m / 2 ^ x % 2) 1

or_bit : (x y : ℕ) → bit_or x y % 2 ≡ max (x % 2) (y % 2)
or_bit x y = omega (arith, or_step x y)

and_bit : (x y : ℕ) → bit_and x y % 2 ≡ min (x % 2) (y % 2)
and_bit x y = omega (arith, and_step x y)

pub or_has : (a b x : ℕ) → Has (bit_or a b) x → Has a x ⊎ Has b x
or_has a b x h =
    let e : bit_or (a / 2 ^ x) (b / 2 ^ x) % 2 ≡ 1 = rw or_shr at h in
    let f = or_bit (a / 2 ^ x) (b / 2 ^ x) in
    elim (has? a x) [ yes k ↦ inl k | no n ↦ inr (omega arith) ]

pub has_or : (a b x : ℕ) → Has a x ⊎ Has b x → Has (bit_or a b) x
has_or a b x h =
    let f = or_bit (a / 2 ^ x) (b / 2 ^ x) in
    elim h [ inl k ↦ rw or_shr (omega arith) | inr k ↦ rw or_shr (omega arith) ]

pub has_and : (a b x : ℕ) → Has a x → Has b x → Has (bit_and a b) x
has_and a b x h k =
    let f = and_bit (a / 2 ^ x) (b / 2 ^ x) in
    rw and_shr (omega arith)

pub and_has : (a b x : ℕ) → Has (bit_and a b) x → Has a x × Has b x
and_has a b x h =
    let e : bit_and (a / 2 ^ x) (b / 2 ^ x) % 2 ≡ 1 = rw and_shr at h in
    let f = and_bit (a / 2 ^ x) (b / 2 ^ x) in
    (omega arith, omega arith)

-- the bits above the lowest are the bits of the half
half_is : (m x : ℕ) → m / 2 / 2 ^ x ≡ m / 2 ^ suc x
half_is m x = rw (div-div-eq-div-mul, ← pow-succ')

pub has_up : (m x : ℕ) → Has (m / 2) x → Has m (suc x)
has_up m x h = subst (λ z. z % 2 ≡ 1) (half_is m x) h

pub has_down : (m x : ℕ) → Has m (suc x) → Has (m / 2) x
has_down m x h = subst (λ z. z % 2 ≡ 1) (sym (half_is m x)) h

pub none_has : (x : ℕ) → ¬ (Has 0 x)
none_has x h = omega (arith, zero-div (2 ^ x))

some_has : (k m : ℕ) → m ≤ k → ¬ (m ≡ 0) → (x : ℕ) × Has m x
some_has zero m le ne = absurd (ne (omega arith))
some_has (suc k) m le ne =
    elim (ℕ_discrete (m % 2) 1) [
      | yes e ↦ (0, omega arith)
      | no o ↦ let (x, h) = some_has k (m / 2) (omega arith) (λ z. ne (omega arith)) in (suc x, has_up m x h)
    ]

-- a mask that is not 0 has a bit
pub has_some : (m : ℕ) → ¬ (m ≡ 0) → (x : ℕ) × Has m x
has_some m ne = some_has m m (omega arith) ne

pub some_not : (m x : ℕ) → Has m x → ¬ (m ≡ 0)
some_not m x h e = none_has x (subst (λ z. Has z x) e h)

inside_rec : (k a b : ℕ) → a ≤ k → Inside (Has a) (Has b) → bit_and a b ≡ a
inside_rec zero a b le h = let e : a ≡ 0 = omega arith in subst (λ z. bit_and z b ≡ z) (sym e) refl
inside_rec (suc k) a b le h =
    elim (ℕ_discrete a 0) [
      | yes e ↦ subst (λ z. bit_and z b ≡ z) (sym e) refl
      | no ne ↦
          let ih = inside_rec k (a / 2) (b / 2) (omega arith) (λ x i. has_down b x (h (suc x) (has_up a x i))) in
          let st = and_step a b in
          elim (ℕ_discrete (a % 2) 1) [
            | yes o ↦ let i : b / 2 ^ 0 % 2 ≡ 1 = h 0 (omega arith) in omega arith
            | no z ↦ omega arith
          ]
    ]

-- a mask lies inside another just if the units of both are its own
pub inside_mask : (a b : ℕ) → Inside (Has a) (Has b) → bit_and a b ≡ a
inside_mask a b h = inside_rec a a b (omega arith) h

pub mask_inside : (a b : ℕ) → bit_and a b ≡ a → Inside (Has a) (Has b)
mask_inside a b e x h = (and_has a b x (subst (λ z. Has z x) (sym e) h)).1

-- masks with the same units are equal
pub same_mask : (a b : ℕ) → Is a (Has b) → a ≡ b
same_mask a b h =
    sym (inside_mask a b (λ x. (h x).0)) ∙ and_comm a b ∙ inside_mask b a (λ x. (h x).1)

-- a unit of a mask of k bits is below k
pub has_below : (k m x : ℕ) → m < 2 ^ k → Has m x → x < k
has_below k m x lt h =
    elim (dec_lt x k) [
      | yes l ↦ l
      | no ge ↦
          let le : k ≤ x = omega arith in
          let le' = pow_mono le in
          let lt' : m < 2 ^ x = omega arith in
          let z = div-eq_of_lt lt' in
          absurd (omega arith)
    ]

-- the bits of the complement within k bits
half_bit : (a x : ℕ) → a / 2 ^ suc x % 2 ≡ (a / 2) / 2 ^ x % 2
half_bit a x = rw (pow-succ', ← div-div-eq-div-mul)

not_bit : (k b x : ℕ) → b < 2 ^ k → x < k → ((2 ^ k - 1) - b) / 2 ^ x % 2 ≡ 1 - b / 2 ^ x % 2
not_bit zero b x hb hx = absurd (omega arith)
not_bit (suc k) b zero hb hx = omega (arith, div-one b, div-one ((2 ^ suc k - 1) - b), pow-succ' 2 k)
not_bit (suc k) b (suc x) hb hx =
    let half : ((2 ^ suc k - 1) - b) / 2 ≡ (2 ^ k - 1) - b / 2 = omega (arith, pow-succ' 2 k) in
    let hb' : b / 2 < 2 ^ k = omega (arith, pow-succ' 2 k) in
    half_bit ((2 ^ suc k - 1) - b) x ∙ ap (λ n. n / 2 ^ x % 2) half ∙ not_bit k (b / 2) x hb' (omega arith)
    ∙ ap (λ n. 1 - n) (sym (half_bit b x))

pub without_is : (k a b : ℕ) → a < 2 ^ k → b < 2 ^ k → Is (bit_and a ((2 ^ k - 1) - b)) (λ x. Has a x × (Has b x → ⊥))
without_is k a b ha hb x = (
  λ h. let i = and_has a ((2 ^ k - 1) - b) x h in
      let lt = has_below k a x ha i.0 in
      (i.0, λ o. omega (arith, not_bit k b x hb lt, i.1)),
  λ h. let lt = has_below k a x ha h.0 in
      let o = h.1 in
      let n = not_bit k b x hb lt in
      has_and a ((2 ^ k - 1) - b) x h.0
      (elim (has? b x) [ yes y ↦ absurd (o y) | no z ↦ omega arith ]),
)

-- shifted down by n, nothing is left just if all units are below n
pub shift_below : (n m : ℕ) → m / 2 ^ n ≡ 0 → Below n m
shift_below n m e x h =
    elim (dec_lt x n) [
      | yes l ↦ l
      | no ge ↦
          let e' : n + (x - n) ≡ x = omega arith in
          let k : Has m (n + (x - n)) = subst (λ z. Has m z) (sym e') h in
          let j : Has (m / 2 ^ n) (x - n) = subst (λ z. z % 2 ≡ 1) (sym (shr-shr m n (x - n))) k in
          absurd (some_not (m / 2 ^ n) (x - n) j e)
    ]

pub below_shift : (n m : ℕ) → Below n m → m / 2 ^ n ≡ 0
below_shift n m h =
    elim (ℕ_discrete (m / 2 ^ n) 0) [
      | yes e ↦ e
      | no ne ↦
          let (x, k) = has_some (m / 2 ^ n) ne in
          let j : Has m (n + x) = subst (λ z. z % 2 ≡ 1) (shr-shr m n x) k in
          let l = h (n + x) j in
          absurd (omega arith)
    ]

-- the test of one bit
pub bit_tells : (m x : ℕ) → Decides (eqb (bit_and (m / 2 ^ x) 1) 1) (Has m x)
bit_tells m x =
    let k = and_mask (m / 2 ^ x) 1 in
    (λ e. let i = eqb-true (bit_and (m / 2 ^ x) 1) 1 e in omega arith, λ h. eq-eqb _ 1 (omega arith))

-- past the width of a mask no bit is set
pub past_tells : (k m x : ℕ) → m < 2 ^ k → k ≤ x → Decides (ltb x k) (Has m x)
past_tells k m x small past =
    (λ e. absurd (let lt = ltb-true x k e in omega arith), λ h. lt-ltb x k (has_below k m x small h))

-- the test of an empty mask
pub some_tells : (m : ℕ) → Decides (not (eqb m 0)) ((x : ℕ) × Has m x)
some_tells m = Decides-like _ (has_some m) (λ h. some_not m h.0 h.1) (Decides-not _ (Decides-eqb m 0))

pub power_has : (p x : ℕ) → Has (2 ^ p) x → x ≡ p
power_has zero zero h = refl
power_has zero (suc x) h = absurd (none_has x (has_down 1 x h))
power_has (suc p) zero h = omega arith
power_has (suc p) (suc x) h =
    let e : 2 ^ suc p / 2 ≡ 2 ^ p = omega arith in
    ap suc (power_has p x (subst (λ z. Has z x) e (has_down (2 ^ suc p) x h)))

pub has_power : (p : ℕ) → Has (2 ^ p) p
has_power zero = refl
has_power (suc p) =
    let e : 2 ^ p ≡ 2 ^ suc p / 2 = omega arith in
    has_up (2 ^ suc p) p (subst (λ z. Has z p) e (has_power p))

pub with_is : (k m x : ℕ) → x < k → Is (bit_or m ((1 * 2 ^ x) % 2 ^ k)) (λ y. Has m y ⊎ (y ≡ x))
with_is k m x lt y =
    rw (one_shl x k lt) (
      λ h. elim (or_has m (2 ^ x) y h) [ inl i ↦ inl i | inr i ↦ inr (power_has x y i) ],
      λ h. elim h [ inl i ↦ has_or m (2 ^ x) y (inl i) | inr e ↦ subst (λ z. Has (bit_or m (2 ^ x)) z) (sym e) (has_or m (2 ^ x) x (inr (has_power x))) ],
    )
