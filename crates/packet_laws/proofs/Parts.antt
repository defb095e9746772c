-- Words, tickets and rows that stand at an offset, both ways.
use Rattle.std.proofs.Common.{◌≡◌, ℕ, ◌+◌, ◌^◌, ◌<◌, ◌≤◌, Bool, true, false, eqb, List, [], ◌∷◌, ◌++◌, length, get_or, drop, sym, refl, ap, ◌∙◌, add-zero, arith}
use Rattle.std.proofs.lemmas.List.{drop-drop, drop_more}
use Rattle.std.proofs.lemmas.Bool.Decides.{nat_tests}
use Rattle.packet.specs.Said.{row_at}
use Rattle.packet.specs.Questions.{mark_fits}
use Rattle.rows.specs.declared.row.Row.{Row}
use Rattle.packet_write.specs.Writes.{row_bytes, mark_word}
use Rattle.ticket.specs.Words.{be, word}
use Rattle.ticket.specs.Writings.{bytes_of, writing_at, Words}
use Rattle.ticket.specs.declared.writing.Writing.{Writing}
use Rattle.ticket.specs.InBytes.{Octets, be_of, word_of, word_drop, same_words}

-- a word that stands at an offset is read there
pub word_here : (bs rest : List ℕ) (i n : ℕ) → n < 2 ^ 32 → drop i bs ≡ be n ++ rest → word bs i ≡ n
word_here bs rest i n h e = ap (word bs) (sym (add-zero i)) ∙ sym (word_drop bs i 0) ∙ ap (λ (l : List ℕ). word l 0) e ∙ word_of n h

-- and the rest stands four bytes on
pub rest_here : (bs rest : List ℕ) (i j n : ℕ) → j ≡ i + 4 → drop i bs ≡ be n ++ rest → drop j bs ≡ rest
rest_here bs rest i j n q e = ap (λ k. drop k bs) q ∙ sym (drop-drop 4 i bs) ∙ ap (drop 4) e

module _ (bs rest : List ℕ) (i : ℕ) (t : Writing) (f : Words t) (e : drop i bs ≡ bytes_of t ++ rest) where
  from_b : drop (i + 4) bs ≡ be t.b ++ (be t.c ++ (be t.d ++ rest))
  from_b = rest_here bs _ i (i + 4) t.a refl e

  from_c : drop (i + 8) bs ≡ be t.c ++ (be t.d ++ rest)
  from_c = rest_here bs _ (i + 4) (i + 8) t.b (omega arith) from_b

  from_d : drop (i + 12) bs ≡ be t.d ++ rest
  from_d = rest_here bs _ (i + 8) (i + 12) t.c (omega arith) from_c

  pub past_ticket : drop (i + 16) bs ≡ rest
  past_ticket = rest_here bs rest (i + 12) (i + 16) t.d (omega arith) from_d

  pub ticket_here : writing_at bs i ≡ t
  ticket_here =
      same_words _ _ _ _ t (word_here bs _ i t.a f.a_fits e) (word_here bs _ (i + 4) t.b f.b_fits from_b) (word_here bs _ (i + 8) t.c f.c_fits from_c) (word_here bs _ (i + 12) t.d f.d_fits from_d)

mark_word_lem : (b : Bool) → mark_word b < 2 ^ 32
mark_word_lem true = omega arith
mark_word_lem false = omega arith

mark_back : (b : Bool) → eqb (mark_word b) 1 ≡ b
mark_back true = refl
mark_back false = refl

module _ (bs rest : List ℕ) (i : ℕ) (r : Row) (f : Words r.ticket) (s : r.set < 2 ^ 32) (e : drop i bs ≡ row_bytes r ++ rest) where
  pub row_ticket : writing_at bs i ≡ r.ticket
  row_ticket = ticket_here bs _ i r.ticket f e

  from_set : drop (i + 16) bs ≡ be r.set ++ (be (mark_word r.mark) ++ rest)
  from_set = past_ticket bs _ i r.ticket f e

  from_mark : drop (i + 20) bs ≡ be (mark_word r.mark) ++ rest
  from_mark = rest_here bs _ (i + 16) (i + 20) r.set (omega arith) from_set

  pub row_set : word bs (i + 16) ≡ r.set
  row_set = word_here bs _ (i + 16) r.set s from_set

  pub row_mark : word bs (i + 20) ≡ mark_word r.mark
  row_mark = word_here bs rest (i + 20) (mark_word r.mark) (mark_word_lem r.mark) from_mark

  pub past_row : drop (i + 24) bs ≡ rest
  past_row = rest_here bs rest (i + 20) (i + 24) (mark_word r.mark) (omega arith) from_mark

  pub row_here : row_at bs i ≡ r
  row_here = same_row r _ _ _ row_ticket row_set (ap (λ n. eqb n 1) row_mark ∙ mark_back r.mark)
    where
      same_row : (r : Row) (t : Writing) (s : ℕ) (m : Bool) → t ≡ r.ticket → s ≡ r.set → m ≡ r.mark → ◌≡◌ {A = Row} (record { ticket = t; set = s; mark = m }) r
      same_row r t s m p q u = rw (p, q, u)

-- the other way: what is read at an offset stands there
module _ (bs : List ℕ) (o : Octets bs) where
  pub word_fits : (i : ℕ) → word bs i < 2 ^ 32
  word_fits i = omega (arith, o.small i, o.small (i + 1), o.small (i + 2), o.small (i + 3))

  pub word_stands : (i j : ℕ) → j ≡ i + 4 → j ≤ length bs → be (word bs i) ++ drop j bs ≡ drop i bs
  word_stands i j q h =
      let four : be (word bs i) ≡ get_or bs i 0 ∷ get_or bs (i + 1) 0 ∷ get_or bs (i + 2) 0 ∷ get_or bs (i + 3) 0 ∷ [] = be_of _ _ _ _ (o.small i) (o.small (i + 1)) (o.small (i + 2)) (o.small (i + 3)) in
      let d0 : drop i bs ≡ get_or bs i 0 ∷ drop (i + 1) bs = drop_more bs i 0 (omega arith) in
      let d1 : drop (i + 1) bs ≡ get_or bs (i + 1) 0 ∷ drop (i + 2) bs = drop_more bs (i + 1) 0 (omega arith) ∙ ap (λ n. get_or bs (i + 1) 0 ∷ drop n bs) (omega arith) in
      let d2 : drop (i + 2) bs ≡ get_or bs (i + 2) 0 ∷ drop (i + 3) bs = drop_more bs (i + 2) 0 (omega arith) ∙ ap (λ n. get_or bs (i + 2) 0 ∷ drop n bs) (omega arith) in
      let d3 : drop (i + 3) bs ≡ get_or bs (i + 3) 0 ∷ drop j bs = drop_more bs (i + 3) 0 (omega arith) ∙ ap (λ n. get_or bs (i + 3) 0 ∷ drop n bs) (omega arith) in
      ap (λ (l : List ℕ). l ++ drop j bs) four ∙ sym (d0 ∙ ap (λ (l : List ℕ). get_or bs i 0 ∷ l) (d1 ∙ ap (λ (l : List ℕ). get_or bs (i + 1) 0 ∷ l) (d2 ∙ ap (λ (l : List ℕ). get_or bs (i + 2) 0 ∷ l) d3)))

  pub ticket_stands : (i : ℕ) → i + 16 ≤ length bs → bytes_of (writing_at bs i) ++ drop (i + 16) bs ≡ drop i bs
  ticket_stands i h =
      ap (λ (l : List ℕ). be (word bs i) ++ (be (word bs (i + 4)) ++ (be (word bs (i + 8)) ++ l))) (word_stands (i + 12) (i + 16) (omega arith) h)
      ∙ ap (λ (l : List ℕ). be (word bs i) ++ (be (word bs (i + 4)) ++ l)) (word_stands (i + 8) (i + 12) (omega arith) (omega arith))
      ∙ ap (λ (l : List ℕ). be (word bs i) ++ l) (word_stands (i + 4) (i + 8) (omega arith) (omega arith))
      ∙ word_stands i (i + 4) refl (omega arith)

  pub ticket_words : (i : ℕ) → Words (writing_at bs i)
  ticket_words i = record { a_fits = word_fits i; b_fits = word_fits (i + 4); c_fits = word_fits (i + 8); d_fits = word_fits (i + 12) }

  pub row_stands : (i : ℕ) → i + 24 ≤ length bs → mark_fits (word bs (i + 16)) (word bs (i + 20)) ≡ true → row_bytes (row_at bs i) ++ drop (i + 24) bs ≡ drop i bs
  row_stands i h m =
      ap (λ n. bytes_of (writing_at bs i) ++ (be (word bs (i + 16)) ++ (be n ++ drop (i + 24) bs))) (mark_same (word bs (i + 16)) (word bs (i + 20)) m)
      ∙ ap (λ (l : List ℕ). bytes_of (writing_at bs i) ++ (be (word bs (i + 16)) ++ l)) (word_stands (i + 20) (i + 24) (omega arith) h)
      ∙ ap (λ (l : List ℕ). bytes_of (writing_at bs i) ++ l) (word_stands (i + 16) (i + 20) (omega arith) (omega arith))
      ∙ ticket_stands i (omega arith)
    where
      mark_same : (s m : ℕ) → mark_fits s m ≡ true → mark_word (eqb m 1) ≡ m
      mark_same s m e = grind (arith, nat_tests)
