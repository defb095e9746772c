-- A report's entries, both ways.
use Rattle.std.proofs.Common.{◌≡◌, ℕ, zero, suc, ◌+◌, ◌-◌, ◌^◌, ◌<◌, ◌≤◌, Bool, true, false, cond, ◌&&◌, eqb, ltb, leb, List, [], ◌∷◌, ◌++◌, length, drop, Some, None, Option, sym, refl, ap, ◌∙◌, subst, ap₂, arith, length-drop}
use native.Mathlib.Decide.{ℕ_discrete}
use Rattle.std.proofs.lemmas.List.{drop_all}
use Rattle.std.proofs.lemmas.Bool.{le-leb}
use Rattle.std.proofs.lemmas.Bool.Decides.{nat_tests}
use Rattle.packet.specs.Said.{row_at, present, next, entry_at, entries_at}
use Rattle.base.specs.Asked.{first}
use Rattle.packet.specs.Questions.{unless, ends_at, entry_shape, entries_shape, entry_fault, entries_fault, ticket_with, ticket_fault, set_fault, mark_fault, listed, mark_fits}
use Rattle.packet.specs.declared.fault.PacketFault.{PacketFault}
use Rattle.packet.specs.declared.fault.PacketFault.TheVariants.{Shape}
use Rattle.rows.specs.declared.row.Row.{Row}
use Rattle.packet_laws.specs.Within.{RowWithin, EntryWithin, EntriesWithin}
use Rattle.packet_write.specs.Writes.{row_bytes, entry_bytes, entries_bytes, mark_word}
use Rattle.ticket.specs.Words.{be, word}
use Rattle.ticket.specs.Writings.{Words}
use Rattle.ticket.specs.declared.fault.TicketFault.{TicketFault}
use Rattle.ticket.specs.declared.writing.Writing.{Writing}
use Rattle.ticket.specs.InBytes.{Octets, word_drop}
use Rattle.packet_laws.proofs.Parts.{word_here, rest_here, row_ticket, row_set, row_mark, row_here, past_row, word_stands, row_stands, word_fits, ticket_words}

-- two questions in order that are both met
pub both_met : (a b : Option PacketFault) → a ≡ None → b ≡ None → first a b ≡ None
both_met a b e f = rw e f

pub met_first : (a b : Option PacketFault) → first a b ≡ None → a ≡ None
met_first None b e = refl
met_first (Some x) b e = e

pub met_second : (a b : Option PacketFault) → first a b ≡ None → b ≡ None
met_second None b e = e
met_second (Some x) b e = let z : ◌≡◌ {A = ℕ} 0 1 = cc in absurd (omega arith)

pub met : (b : Bool) (f : PacketFault) → unless b f ≡ None → b ≡ true
met true f e = refl
met false f e = let z : ◌≡◌ {A = ℕ} 0 1 = cc in absurd (omega arith)

pub meets : (b : Bool) (f : PacketFault) → b ≡ true → unless b f ≡ None
meets b f e = rw e

-- how much is left after an offset
pub room : (bs l : List ℕ) (i : ℕ) → drop i bs ≡ l → length bs - i ≡ length l
room bs l i e = sym (length-drop i bs) ∙ ap length e

-- an entry that stands at an offset, before the rest
pub record Stands (bs : List ℕ) (i : ℕ) (e : Option Row) (rest : List ℕ) : Type 0 where
  pub is : entry_at bs i ≡ e
  pub shape : entry_shape bs i ≡ None
  pub after : drop (next bs i) bs ≡ rest
  pub low : next bs i ≤ length bs
  pub asked : (ask : ℕ → Option PacketFault) → ((r : Row) → e ≡ Some r → ask (i + 4) ≡ None) → entry_fault ask bs i ≡ None

absent : (bs : List ℕ) (i : ℕ) → word bs i ≡ 0 → present bs i ≡ false
absent bs i e = ap (λ n. eqb n 1 && leb (i + 28) (length bs)) e

there : (bs : List ℕ) (i : ℕ) → word bs i ≡ 1 → i + 28 ≤ length bs → present bs i ≡ true
there bs i e h = ap (λ n. eqb n 1 && leb (i + 28) (length bs)) e ∙ le-leb (i + 28) (length bs) h

shape_absent : (n w i : ℕ) → w ≡ 0 → i + 4 ≤ n → cond (ltb n (i + 4)) (Some (Shape n)) (cond (eqb w 0) None (cond (eqb w 1) (unless (leb (i + 28) n) (Shape n)) (Some (Shape i)))) ≡ None
shape_absent n w i e h = grind (arith, nat_tests)

shape_there : (n w i : ℕ) → w ≡ 1 → i + 28 ≤ n → cond (ltb n (i + 4)) (Some (Shape n)) (cond (eqb w 0) None (cond (eqb w 1) (unless (leb (i + 28) n) (Shape n)) (Some (Shape i)))) ≡ None
shape_there n w i e h = grind (arith, nat_tests)

pub stands_none : (bs rest : List ℕ) (i : ℕ) → drop i bs ≡ be 0 ++ rest → Stands bs i None rest
stands_none bs rest i e =
    let w : word bs i ≡ 0 = word_here bs rest i 0 (omega arith) e in
    let p : present bs i ≡ false = absent bs i w in
    let l = room bs (be 0 ++ rest) i e in
    record {
      is = ap (λ b. cond b (Some (row_at bs (i + 4))) None) p;
      shape = shape_absent (length bs) (word bs i) i w (omega arith);
      after = ap (λ b. drop (cond b (i + 28) (i + 4)) bs) p ∙ rest_here bs rest i (i + 4) 0 refl e;
      low = subst (λ b. cond b (i + 28) (i + 4) ≤ length bs) (sym p) (omega arith);
      asked = λ ask f. ap (λ b. cond b (ask (i + 4)) None) p;
    }

pub stands_row : (bs rest : List ℕ) (i : ℕ) (r : Row) → Words r.ticket → r.set < 2 ^ 32 → drop i bs ≡ be 1 ++ (row_bytes r ++ rest) → Stands bs i (Some r) rest
stands_row bs rest i r f s e =
    let w : word bs i ≡ 1 = word_here bs _ i 1 (omega arith) e in
    let l = room bs (be 1 ++ (row_bytes r ++ rest)) i e in
    let h : i + 28 ≤ length bs = omega arith in
    let p : present bs i ≡ true = there bs i w h in
    let tail : drop (i + 4) bs ≡ row_bytes r ++ rest = rest_here bs _ i (i + 4) 1 refl e in
    record {
      is = ap (λ b. cond b (Some (row_at bs (i + 4))) None) p ∙ ap Some (row_here bs rest (i + 4) r f s tail);
      shape = shape_there (length bs) (word bs i) i w h;
      after = ap (λ b. drop (cond b (i + 28) (i + 4)) bs) p ∙ ap (λ n. drop n bs) (omega arith) ∙ past_row bs rest (i + 4) r f s tail;
      low = subst (λ b. cond b (i + 28) (i + 4) ≤ length bs) (sym p) h;
      asked = λ ask g. ap (λ b. cond b (ask (i + 4)) None) p ∙ g r refl;
    }

mark_fits_lem : (s : ℕ) (b : Bool) → (b ≡ true → 0 < s) → mark_fits s (mark_word b) ≡ true
mark_fits_lem s true f = let h : 0 < s = f refl in le-leb 1 s h
mark_fits_lem s false f = refl

-- the questions on the rows of so many entries are met
pub record Met (refuses : Writing → Option TicketFault) (quorums : ℕ) (bs : List ℕ) (n i : ℕ) : Type 0 where
  pub shape : entries_shape bs n i ≡ None
  pub tickets : entries_fault (ticket_fault refuses bs) bs n i ≡ None
  pub sets : entries_fault (set_fault quorums bs) bs n i ≡ None
  pub marks : entries_fault (mark_fault bs) bs n i ≡ None

module _ (refuses : Writing → Option TicketFault) (quorums : ℕ) (bs : List ℕ) where
  pub row_met : (i : ℕ) (r : Row) (rest : List ℕ) → RowWithin refuses quorums r → drop i bs ≡ row_bytes r ++ rest → (ticket_fault refuses bs i ≡ None) × (set_fault quorums bs i ≡ None) × (mark_fault bs i ≡ None)
  row_met i r rest w e = (
    ap (λ (t : Writing). ticket_with i (refuses t)) (row_ticket bs rest i r w.ticket.fits w.word e) ∙ ap (ticket_with i) w.ticket.kind,
    meets _ _ (ap (listed quorums) (row_set bs rest i r w.ticket.fits w.word e) ∙ w.listed_only),
    meets _ _ (ap₂ mark_fits (row_set bs rest i r w.ticket.fits w.word e) (row_mark bs rest i r w.ticket.fits w.word e) ∙ mark_fits_lem r.set r.mark w.marked),
  )

  step : (n i : ℕ) (e : Option Row) (rest : List ℕ) → (s : Stands bs i e rest) → ((r : Row) → e ≡ Some r → (ticket_fault refuses bs (i + 4) ≡ None) × (set_fault quorums bs (i + 4) ≡ None) × (mark_fault bs (i + 4) ≡ None)) → Met refuses quorums bs n (next bs i) → Met refuses quorums bs (suc n) i
  unfolding entries_shape entries_fault
  step n i e rest s f m = record {
    shape = both_met _ _ s.shape m.shape;
    tickets = both_met _ _ (s.asked (ticket_fault refuses bs) (λ r q. (f r q).0)) m.tickets;
    sets = both_met _ _ (s.asked (set_fault quorums bs) (λ r q. (f r q).1)) m.sets;
    marks = both_met _ _ (s.asked (mark_fault bs) (λ r q. (f r q).2)) m.marks;
  }

  none_met : (i : ℕ) → length bs ≡ i → Met refuses quorums bs 0 i
  unfolding entries_shape entries_fault
  none_met i e = record { shape = ends i e; tickets = refl; sets = refl; marks = refl }
    where
      ends : (i : ℕ) → length bs ≡ i → ends_at bs i ≡ None
      ends i e = grind (arith, nat_tests)

  -- entries that stand in the bytes are read there, and nothing is refused
  pub entries_there : (es : List (Option Row)) (i : ℕ) → EntriesWithin refuses quorums es → i ≤ length bs → drop i bs ≡ entries_bytes es → (entries_at bs (length es) i ≡ es) × Met refuses quorums bs (length es) i
  unfolding entries_at entries_bytes EntriesWithin
  entries_there [] i w h e = let l : length bs - i ≡ 0 = room bs [] i e in (refl, none_met i (omega arith))
  entries_there (None ∷ es) i w h e =
      let s = stands_none bs (entries_bytes es) i e in
      let more = entries_there es (next bs i) w.1 s.low s.after in
      (ap₂ (λ (x : Option Row) (xs : List (Option Row)). x ∷ xs) s.is more.0, step (length es) i None (entries_bytes es) s (λ r q. let z : ◌≡◌ {A = ℕ} 0 1 = cc in absurd (omega arith)) more.1)
  entries_there (Some r ∷ es) i w h e =
      let s = stands_row bs (entries_bytes es) i r w.0.ticket.fits w.0.word e in
      let more = entries_there es (next bs i) w.1 s.low s.after in
      let here = row_met (i + 4) r (entries_bytes es) w.0 (rest_here bs (row_bytes r ++ entries_bytes es) i (i + 4) 1 refl e) in
      (ap₂ (λ (x : Option Row) (xs : List (Option Row)). x ∷ xs) s.is more.0, step (length es) i (Some r) (entries_bytes es) s (λ x q. here) more.1)

-- what a presence word that is right tells
four_left : (n w i : ℕ) → cond (ltb n (i + 4)) (Some (Shape n)) (cond (eqb w 0) None (cond (eqb w 1) (unless (leb (i + 28) n) (Shape n)) (Some (Shape i)))) ≡ None → i + 4 ≤ n
four_left n w i e = grind (arith, nat_tests)

zero_or_one : (n w i : ℕ) → cond (ltb n (i + 4)) (Some (Shape n)) (cond (eqb w 0) None (cond (eqb w 1) (unless (leb (i + 28) n) (Shape n)) (Some (Shape i)))) ≡ None → w ≤ 1
zero_or_one n w i e = grind (arith, nat_tests)

row_left : (n w i : ℕ) → cond (ltb n (i + 4)) (Some (Shape n)) (cond (eqb w 0) None (cond (eqb w 1) (unless (leb (i + 28) n) (Shape n)) (Some (Shape i)))) ≡ None → w ≡ 1 → i + 28 ≤ n
row_left n w i e f = grind (arith, nat_tests)

-- an entry whose shape is right: a 0, or a 1 and its row
pub data Shaped (bs : List ℕ) (i : ℕ) : Type 0 where
  none : word bs i ≡ 0 → i + 4 ≤ length bs → Shaped bs i
  some : word bs i ≡ 1 → i + 28 ≤ length bs → Shaped bs i

pub shaped : (bs : List ℕ) (i : ℕ) → entry_shape bs i ≡ None → Shaped bs i
shaped bs i e =
    let small = zero_or_one (length bs) (word bs i) i e in
    elim (ℕ_discrete (word bs i) 0) [
      | yes z ↦ none z (four_left (length bs) (word bs i) i e)
      | no z ↦ let one : word bs i ≡ 1 = omega arith in some one (row_left (length bs) (word bs i) i e one)
    ]

pub no_ticket : (i : ℕ) (o : Option TicketFault) → ticket_with i o ≡ None → o ≡ None
no_ticket i None e = refl
no_ticket i (Some f) e = let z : ◌≡◌ {A = ℕ} 0 1 = cc in absurd (omega arith)

marked_set : (s m : ℕ) → mark_fits s m ≡ true → eqb m 1 ≡ true → 0 < s
marked_set s m e f = grind (arith, nat_tests)

module _ (refuses : Writing → Option TicketFault) (quorums : ℕ) (bs : List ℕ) (o : Octets bs) where
  -- a row of which nothing is refused is within the bounds
  pub row_within : (i : ℕ) → ticket_fault refuses bs i ≡ None → set_fault quorums bs i ≡ None → mark_fault bs i ≡ None → RowWithin refuses quorums (row_at bs i)
  row_within i t s m = record {
    ticket = record { fits = ticket_words bs o i; kind = no_ticket i _ t };
    word = word_fits bs o (i + 16);
    listed_only = met _ _ s;
    marked = marked_set (word bs (i + 16)) (word bs (i + 20)) (met _ _ m);
  }

  entry_stands : (i : ℕ) → Shaped bs i → entry_fault (mark_fault bs) bs i ≡ None → entry_bytes (entry_at bs i) ++ drop (next bs i) bs ≡ drop i bs
  entry_stands i (none w h) m =
      ap (λ b. entry_bytes (cond b (Some (row_at bs (i + 4))) None) ++ drop (cond b (i + 28) (i + 4)) bs) (absent bs i w)
      ∙ ap (λ n. be n ++ drop (i + 4) bs) (sym w) ∙ word_stands bs o i (i + 4) refl h
  entry_stands i (some w h) m =
      let p : present bs i ≡ true = there bs i w h in
      let fits : mark_fault bs (i + 4) ≡ None = sym (ap (λ b. cond b (mark_fault bs (i + 4)) None) p) ∙ m in
      let four : i + 28 ≡ i + 4 + 24 = omega arith in
      ap (λ b. entry_bytes (cond b (Some (row_at bs (i + 4))) None) ++ drop (cond b (i + 28) (i + 4)) bs) p
      ∙ ap (λ n. be 1 ++ (row_bytes (row_at bs (i + 4)) ++ drop n bs)) four
      ∙ ap (λ (l : List ℕ). be 1 ++ l) (row_stands bs o (i + 4) (omega arith) (met _ _ fits))
      ∙ ap (λ n. be n ++ drop (i + 4) bs) (sym w) ∙ word_stands bs o i (i + 4) refl (omega arith)

  entry_within : (i : ℕ) → Shaped bs i → entry_fault (ticket_fault refuses bs) bs i ≡ None → entry_fault (set_fault quorums bs) bs i ≡ None → entry_fault (mark_fault bs) bs i ≡ None → EntryWithin refuses quorums (entry_at bs i)
  entry_within i (none w h) t s m = subst (λ b. EntryWithin refuses quorums (cond b (Some (row_at bs (i + 4))) None)) (sym (absent bs i w)) tt
  entry_within i (some w h) t s m =
      let p : present bs i ≡ true = there bs i w h in
      let open-it : (ask : ℕ → Option PacketFault) → entry_fault ask bs i ≡ None → ask (i + 4) ≡ None = λ ask e. sym (ap (λ b. cond b (ask (i + 4)) None) p) ∙ e in
      subst (λ b. EntryWithin refuses quorums (cond b (Some (row_at bs (i + 4))) None)) (sym p) (row_within (i + 4) (open-it (ticket_fault refuses bs) t) (open-it (set_fault quorums bs) s) (open-it (mark_fault bs) m))

  ended : (i : ℕ) → ends_at bs i ≡ None → length bs ≡ i
  ended i e = grind (arith, nat_tests)

  -- entries of which nothing is refused are within the bounds, and their writing is the bytes
  pub entries_stand : (n i : ℕ) → Met refuses quorums bs n i → (entries_bytes (entries_at bs n i) ≡ drop i bs) × EntriesWithin refuses quorums (entries_at bs n i)
  unfolding entries_at entries_bytes entries_shape entries_fault EntriesWithin
  entries_stand zero i m = (sym (drop_all i bs (omega (arith, ended i m.shape))), tt)
  entries_stand (suc n) i m =
      let s = shaped bs i (met_first _ _ m.shape) in
      let more = entries_stand n (next bs i) (record { shape = met_second _ _ m.shape; tickets = met_second _ _ m.tickets; sets = met_second _ _ m.sets; marks = met_second _ _ m.marks }) in (
        ap (λ (l : List ℕ). entry_bytes (entry_at bs i) ++ l) more.0 ∙ entry_stands i s (met_first _ _ m.marks),
        (entry_within i s (met_first _ _ m.tickets) (met_first _ _ m.sets) (met_first _ _ m.marks), more.1),
      )

-- entries read from a part of the bytes
leb_part : (a k n : ℕ) → 0 < a → leb a (n - k) ≡ leb (k + a) n
leb_part a k n h = grind (arith, nat_tests)

module _ (bs : List ℕ) (k : ℕ) where
  word_part : (i j : ℕ) → j ≡ k + i → word (drop k bs) i ≡ word bs j
  word_part i j e = word_drop bs k i ∙ ap (word bs) (sym e)

  present_part : (i j : ℕ) → j ≡ k + i → present (drop k bs) i ≡ present bs j
  present_part i j e =
      ap₂ (λ n b. eqb n 1 && b) (word_part i j e)
      (ap (leb (i + 28)) (length-drop k bs) ∙ leb_part (i + 28) k (length bs) (omega arith) ∙ ap (λ m. leb m (length bs)) (omega arith))

  row_part : (i j : ℕ) → j ≡ k + i → row_at (drop k bs) i ≡ row_at bs j
  row_part i j e =
      let a = word_part i j e in
      let b = word_part (i + 4) (j + 4) (omega arith) in
      let c = word_part (i + 8) (j + 8) (omega arith) in
      let d = word_part (i + 12) (j + 12) (omega arith) in
      let s = word_part (i + 16) (j + 16) (omega arith) in
      let m = word_part (i + 20) (j + 20) (omega arith) in
      rw (a, b, c, d, s, m)

  entry_part : (i j : ℕ) → j ≡ k + i → entry_at (drop k bs) i ≡ entry_at bs j
  entry_part i j e = ap₂ (λ (b : Bool) (r : Row). cond b (Some r) None) (present_part i j e) (row_part (i + 4) (j + 4) (omega arith))

  next_by : (b : Bool) (i j : ℕ) → j ≡ k + i → cond b (j + 28) (j + 4) ≡ k + cond b (i + 28) (i + 4)
  next_by true i j e = omega arith
  next_by false i j e = omega arith

  next_part : (i j : ℕ) → j ≡ k + i → next bs j ≡ k + next (drop k bs) i
  next_part i j e = next_by (present bs j) i j e ∙ ap (λ b. k + cond b (i + 28) (i + 4)) (sym (present_part i j e))

  pub entries_part : (n i j : ℕ) → j ≡ k + i → entries_at (drop k bs) n i ≡ entries_at bs n j
  unfolding entries_at
  entries_part zero i j e = refl
  entries_part (suc n) i j e = ap₂ (λ (x : Option Row) (xs : List (Option Row)). x ∷ xs) (entry_part i j e) (entries_part n (next (drop k bs) i) (next bs j) (next_part i j e))
