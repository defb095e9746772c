-- Bytes laid over others, one piece after another.
use Rattle.std.proofs.Common.{◌≡◌, ℕ, ◌+◌, ◌*◌, ◌<◌, ◌≤◌, List, [], ◌∷◌, ◌++◌, length, get_or, take, drop, sym, refl, ap, ◌∙◌, arith, zero-add}
use borrow.Rule.Slice.PartMut.{put_mid}
use Rattle.std.specs.List.{flat_map}
use Rattle.std.proofs.lemmas.List.{take_more, append-nil, length-append}
use Rattle.std.proofs.lemmas.List.Concat.{flat_map-append}
use Rattle.std.proofs.lemmas.List.Edits.{paste-paste, paste_all}
use Rattle.std.proofs.lemmas.List.Folds.{length-flat_map-take}
use Rattle.std.proofs.lemmas.Slice.{put_mid-paste}
use Rattle.std.proofs.Math.Seq.{paste}
use Rattle.ticket.specs.Words.{be}
use Rattle.packet_write.specs.Writes.{over}

pub over_mid : (old new bs : List ℕ) (i k : ℕ) → new ≡ bs → k ≡ length bs → put_mid i k old new ≡ over old i bs
over_mid old new bs i k e n = put_mid-paste i k old new bs (length bs) e (sym n) refl

-- one piece after another is both together
pub over_more : (old a b : List ℕ) (i j : ℕ) → i ≤ length old → j ≡ i + length a → over (over old i a) j b ≡ over old i (a ++ b)
over_more old a b i j h e =
    ap (λ n. over (over old i a) n b) e ∙ paste-paste old i a b (length a) (length b) refl refl h
    ∙ ap (λ n. paste old i (a ++ b) n) (sym (length-append a b))

pub over_front : (old bs : List ℕ) → over old 0 bs ≡ bs ++ drop (length bs) old
over_front old bs = paste_all old 0 bs (length bs) refl ∙ ap (λ n. bs ++ drop n old) (zero-add (length bs))

-- the pieces of a list's items
module _ {X : Type 0} (f : X → List ℕ) (xs : List X) (i : ℕ) (d : X) where
  pub piece_more : i < length xs → flat_map f (take (i + 1) xs) ≡ flat_map f (take i xs) ++ f (get_or xs i d)
  piece_more h = ap (flat_map f) (take_more xs i d h) ∙ flat_map-append f (take i xs) (get_or xs i d ∷ []) ∙ ap (λ (l : List ℕ). flat_map f (take i xs) ++ l) (append-nil (f (get_or xs i d)))

  pub piece_length : i < length xs → length (flat_map f (take (i + 1) xs)) ≡ length (flat_map f (take i xs)) + length (f (get_or xs i d))
  piece_length h = ap length (piece_more h) ∙ length-append (flat_map f (take i xs)) (f (get_or xs i d))

  pub piece_over : (old : List ℕ) (at end : ℕ) → i < length xs → at ≤ length old → end ≡ at + length (flat_map f (take i xs)) → over (over old at (flat_map f (take i xs))) end (f (get_or xs i d)) ≡ over old at (flat_map f (take (i + 1) xs))
  piece_over old at end h low e = over_more old (flat_map f (take i xs)) (f (get_or xs i d)) at end low e ∙ ap (over old at) (sym (piece_more h))

  pub piece_fits : i < length xs → length (flat_map f (take i xs)) + length (f (get_or xs i d)) ≤ length (flat_map f xs)
  piece_fits h = length-flat_map-take f xs i d h

pub words_length : (ws : List ℕ) → length (flat_map be ws) ≡ 4 * length ws
words_length [] = refl
words_length (w ∷ ws) = let more = words_length ws in omega arith
