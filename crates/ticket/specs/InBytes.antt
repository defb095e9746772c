-- Words and writings in bytes, both ways.
use Rattle.std.specs.Prelude.{◌≡◌, ℕ, zero, suc, ◌+◌, ◌*◌, ◌/◌, ◌%◌, ◌^◌, ◌<◌, ◌≤◌, List, [], ◌∷◌, ◌++◌, length, drop, slice_index}
use Rattle.std.proofs.Common.{sym, ap, ap₂, ◌∙◌, arith, add_assoc, drop-cons, get_or-drop}
use Rattle.std.proofs.lemmas.List.{drop_all, get_or_past}
use Rattle.ticket.specs.Words.{be, word}
use Rattle.ticket.specs.Writings.{bytes_of, writing_of, Words}
use Rattle.ticket.specs.declared.writing.Writing.{Writing}

-- every element is a byte
pub record Octets (bs : List ℕ) : Type 0 where
  pub small : (i : ℕ) → slice_index bs i < 256

-- the bytes of a word that is made of four bytes
pub be_of : (a b c d : ℕ) → a < 256 → b < 256 → c < 256 → d < 256 → be (a * 16777216 + b * 65536 + c * 256 + d) ≡ a ∷ b ∷ c ∷ d ∷ []
be_of a b c d ha hb hc hd =
    let n = a * 16777216 + b * 65536 + c * 256 + d in
    let p : n / 16777216 % 256 ≡ a = omega arith in
    let q : n / 65536 % 256 ≡ b = omega arith in
    let r : n / 256 % 256 ≡ c = omega arith in
    let s : n % 256 ≡ d = omega arith in
    cc

-- a word is made of its four bytes
pub word_of : (n : ℕ) → n < 2 ^ 32 → n / 16777216 % 256 * 16777216 + n / 65536 % 256 * 65536 + n / 256 % 256 * 256 + n % 256 ≡ n
word_of n h =
    let two : n / 65536 ≡ n / 256 / 256 = omega arith in
    let three : n / 16777216 ≡ n / 65536 / 256 = omega arith in
    let top : n / 16777216 < 256 = omega arith in
    let low : n / 16777216 % 256 ≡ n / 16777216 = omega arith in
    omega arith

-- a word of what is left after dropping
pub word_drop : (bs : List ℕ) (k i : ℕ) → word (drop k bs) i ≡ word bs (k + i)
word_drop bs k i = rw (get_or-drop, get_or-drop, get_or-drop, get_or-drop, add_assoc k i 1, add_assoc k i 2, add_assoc k i 3)

-- a word past the end
pub word_past : (bs : List ℕ) (i : ℕ) → length bs ≤ i → word bs i ≡ 0
word_past bs i h =
    let e0 = get_or_past bs i 0 h in
    let e1 = get_or_past bs (i + 1) 0 (omega arith) in
    let e2 = get_or_past bs (i + 2) 0 (omega arith) in
    let e3 = get_or_past bs (i + 3) 0 (omega arith) in
    rw (e0, e1, e2, e3)

-- the elements of a list, written out
abbrev tab : List ℕ → ℕ → ℕ → List ℕ
tab bs i zero = []
tab bs i (suc n) = slice_index bs i ∷ tab bs (suc i) n

tab_is : (bs : List ℕ) (i n : ℕ) → i + n ≡ length bs → tab bs i n ≡ drop i bs
tab_is bs i zero e = sym (drop_all i bs (omega arith))
tab_is bs i (suc n) e = ap (λ r. slice_index bs i ∷ r) (tab_is bs (suc i) n (omega arith)) ∙ sym (drop-cons bs i 0 (omega arith))

pub bytes_whole : (bs : List ℕ) → length bs ≡ 16 → Octets bs → bytes_of (writing_of bs) ≡ bs
bytes_whole bs l o =
    let four : (i : ℕ) → be (word bs i) ≡ slice_index bs i ∷ slice_index bs (i + 1) ∷ slice_index bs (i + 2) ∷ slice_index bs (i + 3) ∷ [] = λ i. be_of _ _ _ _ (o.small i) (o.small (i + 1)) (o.small (i + 2)) (o.small (i + 3)) in
    ap₂ (λ x y. x ++ y) (four 0) (ap₂ (λ x y. x ++ y) (four 4) (ap₂ (λ x y. x ++ y) (four 8) (four 12))) ∙ tab_is bs 0 16 (sym l)

pub same_words : (a b c d : ℕ) (w : Writing) → a ≡ w.a → b ≡ w.b → c ≡ w.c → d ≡ w.d → ◌≡◌ {A = Writing} (record { a = a; b = b; c = c; d = d }) w
same_words a b c d w p q r s = rw (p, q, r, s)

pub writing_whole : (w : Writing) → Words w → writing_of (bytes_of w) ≡ w
writing_whole w f = same_words _ _ _ _ w (word_of w.a f.a_fits) (word_of w.b f.b_fits) (word_of w.c f.c_fits) (word_of w.d f.d_fits)
