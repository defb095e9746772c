-- The laws of whole messages.
use Rattle.std.proofs.Common.{◌≡◌, ℕ, ◌+◌, ◌%◌, ◌^◌, ◌<◌, ◌≤◌, true, cond, ◌&&◌, eqb, ltb, leb, List, [], ◌++◌, length, drop, Some, None, Ok, Err, Option, Result, sym, refl, ap, ◌∙◌, subst, ap₂, arith, MatchResult}
use native.Mathlib.Decide.{ℕ_discrete}
use Rattle.base.specs.Limits.{views, longest_packet}
use Rattle.packet.proofs.Walks.{entries_length}
use Rattle.std.proofs.lemmas.List.{drop_all}
use Rattle.std.proofs.lemmas.Bool.{eq-eqb, le-leb}
use Rattle.std.proofs.lemmas.Bool.Decides.{nat_tests}
use Rattle.packet.specs.declared.message.Message.{Message}
use Rattle.packet.specs.declared.message.Message.TheVariants as messages
use Rattle.packet.specs.Said.{Said, meaning, Borrows, says_put, says_row, says_report, kind_of, view_of, row_at, entries_at, said_by}
use Rattle.base.specs.Asked.{first}
use Rattle.packet.specs.Questions.{unless, length_fault, kind_fault, view_fault, count_fault, shape_fault, rows_fault, packet_fault, ticket_with}
use Rattle.packet.specs.declared.fault.PacketFault.{PacketFault}
use Rattle.packet.specs.declared.fault.PacketFault.TheVariants.{Shape}
use Rattle.rows.specs.declared.row.Row.{Row}
use Rattle.packet_laws.specs.Within.{EntriesWithin, Within}
use Rattle.packet_write.specs.Writes.{row_bytes, entries_bytes, report_bytes, writing, written}
use Rattle.ticket.specs.Words.{be, word}
use Rattle.ticket.specs.Writings.{bytes_of, writing_at}
use Rattle.ticket.specs.declared.fault.TicketFault.{TicketFault}
use Rattle.ticket.specs.declared.writing.Writing.{Writing}
use Rattle.packet_write.proofs.Lengths.{entries_size}
use Rattle.ticket.specs.InBytes.{Octets, word_of}
use Rattle.packet_laws.proofs.Parts.{ticket_here, row_here, word_stands, ticket_stands, row_stands, ticket_words}
use Rattle.packet_laws.proofs.Entries.{both_met, met_first, met_second, met, meets, row_met, row_within, entries_there, entries_stand, entries_part, no_ticket}

-- all the questions of a packet are met
pub record AllMet (refuses : Writing → Option TicketFault) (quorums : ℕ) (k v : ℕ) (bs : List ℕ) : Type 0 where
  pub length_met : length_fault views (length bs) ≡ None
  pub kind_met : kind_fault k ≡ None
  pub view_met : view_fault views k v ≡ None
  pub count_met : count_fault k v bs ≡ None
  pub shape_met : shape_fault k v bs ≡ None
  pub rows_met : rows_fault refuses quorums k v bs ≡ None

-- what the questions on head and length compute at a message within the bounds
view_ok : (v : ℕ) → v < views → (ltb v views && leb 0 v) ≡ true
view_ok v h = grind (arith, nat_tests)

report_view_ok : (v : ℕ) → 1 ≤ v → v < views → (ltb v views && leb 1 v) ≡ true
report_view_ok v l h = grind (arith, nat_tests)

count_ok : (n c v : ℕ) → 12 ≤ n → c ≡ v → (leb 12 n && eqb c v) ≡ true
count_ok n c v h e = grind (arith, nat_tests)

length_ok : (n : ℕ) → 8 ≤ n → n ≤ longest_packet views → n % 4 ≡ 0 → length_fault views n ≡ None
length_ok n l h e = meets _ _ (ap₂ ◌&&◌ (le-leb 8 n l) (ap₂ ◌&&◌ (le-leb n (longest_packet views) h) (eq-eqb (n % 4) 0 e)))

module _ (refuses : Writing → Option TicketFault) (quorums : ℕ) where
  pub accepted : (bs : List ℕ) (k v : ℕ) → kind_of bs ≡ k → view_of bs ≡ v → AllMet refuses quorums k v bs → packet_fault views refuses quorums bs ≡ None
  unfolding packet_fault
  accepted bs k v ek ev m =
      ap₂ (λ k v. first (length_fault views (length bs)) (first (kind_fault k) (first (view_fault views k v) (first (count_fault k v bs) (first (shape_fault k v bs) (rows_fault refuses quorums k v bs)))))) ek ev
      ∙ both_met _ _ m.length_met (both_met _ _ m.kind_met (both_met _ _ m.view_met (both_met _ _ m.count_met (both_met _ _ m.shape_met m.rows_met))))

  pub refused_none : (bs : List ℕ) → packet_fault views refuses quorums bs ≡ None → AllMet refuses quorums (kind_of bs) (view_of bs) bs
  unfolding packet_fault
  refused_none bs e =
      let e1 = met_second _ _ e in
      let e2 = met_second _ _ e1 in
      let e3 = met_second _ _ e2 in
      let e4 = met_second _ _ e3 in
      record { length_met = met_first _ _ e; kind_met = met_first _ _ e1; view_met = met_first _ _ e2; count_met = met_first _ _ e3; shape_met = met_first _ _ e4; rows_met = met_second _ _ e4 }

  pub put_back : (v : ℕ) (t : Writing) → Within views refuses quorums (says_put v t) → (packet_fault views refuses quorums (writing (says_put v t)) ≡ None) × (said_by (writing (says_put v t)) ≡ says_put v t)
  unfolding said_by writing
  put_back v t w =
      let bs = writing (says_put v t) in
      let ev : view_of bs ≡ v = word_of v (omega (arith, w.0)) in
      let et : writing_at bs 8 ≡ t = ticket_here bs [] 8 t w.1.fits refl in (
        accepted bs 1 v refl ev (record {
          length_met = refl;
          kind_met = refl;
          view_met = meets _ _ (view_ok v w.0);
          count_met = refl;
          shape_met = refl;
          rows_met = both_met _ _ (ap (λ (t : Writing). ticket_with 8 (refuses t)) et ∙ ap (ticket_with 8) w.1.kind) refl;
        }),
        ap₂ says_put ev et,
      )

  pub row_back : (v : ℕ) (r : Row) → Within views refuses quorums (says_row v r) → (packet_fault views refuses quorums (writing (says_row v r)) ≡ None) × (said_by (writing (says_row v r)) ≡ says_row v r)
  unfolding said_by writing
  row_back v r w =
      let bs = writing (says_row v r) in
      let ev : view_of bs ≡ v = word_of v (omega (arith, w.0)) in
      let er : row_at bs 8 ≡ r = row_here bs [] 8 r w.1.ticket.fits w.1.word refl in
      let m = row_met refuses quorums bs 8 r [] w.1 refl in (
        accepted bs 2 v refl ev (record {
          length_met = refl;
          kind_met = refl;
          view_met = meets _ _ (view_ok v w.0);
          count_met = refl;
          shape_met = refl;
          rows_met = both_met _ _ m.0 (both_met _ _ m.1 m.2);
        }),
        ap₂ says_row ev er,
      )

  report_of_lem : (es : List (Option Row)) → 1 ≤ length es → length es < views → EntriesWithin refuses quorums es
      → (packet_fault views refuses quorums (writing (says_report (length es) es)) ≡ None) × (said_by (writing (says_report (length es) es)) ≡ says_report (length es) es)
  unfolding said_by writing
  report_of_lem es one few w =
      let v = length es in
      let bs = writing (says_report v es) in
      let vw : v < 2 ^ 32 = omega arith in
      let ev : view_of bs ≡ v = word_of v vw in
      let ec : word bs 8 ≡ v = word_of v vw in
      let size = entries_size es in
      let long : length bs ≡ 12 + length (entries_bytes es) = omega arith in
      let there = entries_there refuses quorums bs es 12 w (omega arith) refl in
      let part = entries_there refuses quorums (entries_bytes es) es 0 w (omega arith) refl in
      let m = there.1 in (
        accepted bs 3 v refl ev (record {
          length_met = length_ok (length bs) (omega arith) (omega arith) (omega arith);
          kind_met = refl;
          view_met = meets _ _ (report_view_ok v one few);
          count_met = meets _ _ (count_ok (length bs) (word bs 8) v (omega arith) ec);
          shape_met = m.shape;
          rows_met = both_met _ _ m.tickets (both_met _ _ m.sets m.marks);
        }),
        ap₂ (λ n (l : List (Option Row)). says_report n l) ev (ap (λ n. entries_at (entries_bytes es) n 0) ev ∙ part.0),
      )

  pub report_back : (v : ℕ) (es : List (Option Row)) → Within views refuses quorums (says_report v es) → (packet_fault views refuses quorums (writing (says_report v es)) ≡ None) × (said_by (writing (says_report v es)) ≡ says_report v es)
  report_back v es w =
      subst (λ n. (packet_fault views refuses quorums (writing (says_report n es)) ≡ None) × (said_by (writing (says_report n es)) ≡ says_report n es)) w.2
      (report_of_lem es (omega (arith, w.0, w.2)) (omega (arith, w.1, w.2)) w.3)

  -- reading what was written gives the message back
  pub message_back : (m : Said) → Within views refuses quorums m → (packet_fault views refuses quorums (writing m) ≡ None) × (said_by (writing m) ≡ m)
  message_back (says_put v t) w = put_back v t w
  message_back (says_row v r) w = row_back v r w
  message_back (says_report v es) w = report_back v es w

-- a packet of which nothing is refused: its message is within the bounds, and its writing is the packet
pub record Back (refuses : Writing → Option TicketFault) (quorums : ℕ) (bs : List ℕ) (m : Said) : Type 0 where
  pub within : Within views refuses quorums m
  pub same : writing m ≡ bs

ended : (n e : ℕ) → cond (ltb n e) (Some (Shape n)) (unless (eqb n e) (Shape e)) ≡ None → n ≡ e
ended n e h = grind (arith, nat_tests)

view_low : (k v : ℕ) → view_fault views k v ≡ None → v < views
view_low k v e = grind (arith, nat_tests)

report_view : (v : ℕ) → view_fault views 3 v ≡ None → 1 ≤ v
report_view v e = grind (arith, nat_tests)

counted : (n c v : ℕ) → (leb 12 n && eqb c v) ≡ true → (12 ≤ n) × (c ≡ v)
counted n c v e = (grind (arith, nat_tests), grind (arith, nat_tests))

kinds : (k : ℕ) → kind_fault k ≡ None → (1 ≤ k) × (k ≤ 3)
kinds k e = (grind (arith, nat_tests), grind (arith, nat_tests))

module _ (refuses : Writing → Option TicketFault) (quorums : ℕ) (bs : List ℕ) (o : Octets bs) where
  put_whole : AllMet refuses quorums 1 (view_of bs) bs → kind_of bs ≡ 1 → Back refuses quorums bs (says_put (view_of bs) (writing_at bs 8))
  unfolding writing
  put_whole m k =
      let n : length bs ≡ 24 = ended (length bs) 24 m.shape_met in
      record {
        within = (view_low 1 (view_of bs) m.view_met, record { fits = ticket_words bs o 8; kind = no_ticket 8 _ (met_first _ _ m.rows_met) });
        same =
            ap (λ n. be n ++ (be (view_of bs) ++ bytes_of (writing_at bs 8))) (sym k)
            ∙ ap (λ (l : List ℕ). be (kind_of bs) ++ (be (view_of bs) ++ (bytes_of (writing_at bs 8) ++ l))) (sym (drop_all 24 bs (omega arith)))
            ∙ ap (λ (l : List ℕ). be (kind_of bs) ++ (be (view_of bs) ++ l)) (ticket_stands bs o 8 (omega arith))
            ∙ ap (λ (l : List ℕ). be (kind_of bs) ++ l) (word_stands bs o 4 8 refl (omega arith))
            ∙ word_stands bs o 0 4 refl (omega arith);
      }

  row_whole : AllMet refuses quorums 2 (view_of bs) bs → kind_of bs ≡ 2 → Back refuses quorums bs (says_row (view_of bs) (row_at bs 8))
  unfolding writing
  row_whole m k =
      let n : length bs ≡ 32 = ended (length bs) 32 m.shape_met in
      let t = met_first _ _ m.rows_met in
      let sm = met_second _ _ m.rows_met in
      let s = met_first _ _ sm in
      let mm = met_second _ _ sm in
      record {
        within = (view_low 2 (view_of bs) m.view_met, row_within refuses quorums bs o 8 t s mm);
        same =
            ap (λ n. be n ++ (be (view_of bs) ++ row_bytes (row_at bs 8))) (sym k)
            ∙ ap (λ (l : List ℕ). be (kind_of bs) ++ (be (view_of bs) ++ (row_bytes (row_at bs 8) ++ l))) (sym (drop_all 32 bs (omega arith)))
            ∙ ap (λ (l : List ℕ). be (kind_of bs) ++ (be (view_of bs) ++ l)) (row_stands bs o 8 (omega arith) (met _ _ mm))
            ∙ ap (λ (l : List ℕ). be (kind_of bs) ++ l) (word_stands bs o 4 8 refl (omega arith))
            ∙ word_stands bs o 0 4 refl (omega arith);
      }

  report_whole : AllMet refuses quorums 3 (view_of bs) bs → kind_of bs ≡ 3 → Back refuses quorums bs (says_report (view_of bs) (entries_at (drop 12 bs) (view_of bs) 0))
  unfolding writing
  report_whole m k =
      let c = counted (length bs) (word bs 8) (view_of bs) (met _ _ m.count_met) in
      let t = met_first _ _ m.rows_met in
      let sm = met_second _ _ m.rows_met in
      let stand = entries_stand refuses quorums bs o (view_of bs) 12 (record { shape = m.shape_met; tickets = t; sets = met_first _ _ sm; marks = met_second _ _ sm }) in
      let part : entries_at (drop 12 bs) (view_of bs) 0 ≡ entries_at bs (view_of bs) 12 = entries_part bs 12 (view_of bs) 0 12 refl in
      record {
        within = (report_view (view_of bs) m.view_met, view_low 3 (view_of bs) m.view_met, entries_length (drop 12 bs) (view_of bs) 0, subst (EntriesWithin refuses quorums) (sym part) stand.1);
        same =
            ap (λ n. be n ++ (be (view_of bs) ++ (be (view_of bs) ++ entries_bytes (entries_at (drop 12 bs) (view_of bs) 0)))) (sym k)
            ∙ ap (λ (l : List (Option Row)). be (kind_of bs) ++ (be (view_of bs) ++ (be (view_of bs) ++ entries_bytes l))) part
            ∙ ap₂ (λ n (l : List ℕ). be (kind_of bs) ++ (be (view_of bs) ++ (be n ++ l))) (sym c.1) stand.0
            ∙ ap (λ (l : List ℕ). be (kind_of bs) ++ (be (view_of bs) ++ l)) (word_stands bs o 8 12 refl c.0)
            ∙ ap (λ (l : List ℕ). be (kind_of bs) ++ l) (word_stands bs o 4 8 refl (omega (arith, c.0)))
            ∙ word_stands bs o 0 4 refl (omega (arith, c.0));
      }

  -- writing what was read gives the bytes back
  pub bytes_back : packet_fault views refuses quorums bs ≡ None → Back refuses quorums bs (said_by bs)
  unfolding said_by writing
  bytes_back e =
      let m = refused_none refuses quorums bs e in
      let at : (k : ℕ) → kind_of bs ≡ k → AllMet refuses quorums k (view_of bs) bs = λ k q. subst (λ k. AllMet refuses quorums k (view_of bs) bs) q m in
      let some = kinds (kind_of bs) m.kind_met in
      elim (ℕ_discrete (kind_of bs) 1) [
        | yes q ↦ subst (λ (k : ℕ). Back refuses quorums bs (cond (eqb k 1) (says_put (view_of bs) (writing_at bs 8)) (cond (eqb k 2) (says_row (view_of bs) (row_at bs 8)) (says_report (view_of bs) (entries_at (drop 12 bs) (view_of bs) 0))))) (sym q) (put_whole (at 1 q) q)
        | no n1 ↦ elim (ℕ_discrete (kind_of bs) 2) [
          | yes q ↦ subst (λ (k : ℕ). Back refuses quorums bs (cond (eqb k 1) (says_put (view_of bs) (writing_at bs 8)) (cond (eqb k 2) (says_row (view_of bs) (row_at bs 8)) (says_report (view_of bs) (entries_at (drop 12 bs) (view_of bs) 0))))) (sym q) (row_whole (at 2 q) q)
          | no n2 ↦ let q : kind_of bs ≡ 3 = omega (arith, some.0, some.1) in subst (λ (k : ℕ). Back refuses quorums bs (cond (eqb k 1) (says_put (view_of bs) (writing_at bs 8)) (cond (eqb k 2) (says_row (view_of bs) (row_at bs 8)) (says_report (view_of bs) (entries_at (drop 12 bs) (view_of bs) 0))))) (sym q) (report_whole (at 3 q) q)
        ]
      ]

-- reading what was written: bytes that a message within the bounds is written as give that message
pub reads_back :
    (refuses : Writing → Option TicketFault) (quorums : ℕ) (bs : List ℕ) (r : Result Message PacketFault)
    → MatchResult r (λ m. (packet_fault views refuses quorums bs ≡ None) × (meaning m ≡ said_by bs) × Borrows bs m) (λ e. packet_fault views refuses quorums bs ≡ Some e)
    → (m : Said) → Within views refuses quorums m → writing m ≡ bs → MatchResult r (λ x. meaning x ≡ m) (λ _. ⊥)
reads_back refuses quorums bs (Ok x) h m w e = h.1 ∙ ap said_by (sym e) ∙ (message_back refuses quorums m w).1
reads_back refuses quorums bs (Err f) h m w e =
    let none : packet_fault views refuses quorums bs ≡ None = ap (packet_fault views refuses quorums) (sym e) ∙ (message_back refuses quorums m w).0 in
    let z : ◌≡◌ {A = ℕ} 0 1 = cc in
    omega arith

-- and only those are accepted
pub reads_whole :
    (refuses : Writing → Option TicketFault) (quorums : ℕ) (bs : List ℕ) → Octets bs → (r : Result Message PacketFault)
    → MatchResult r (λ m. (packet_fault views refuses quorums bs ≡ None) × (meaning m ≡ said_by bs) × Borrows bs m) (λ e. packet_fault views refuses quorums bs ≡ Some e)
    → MatchResult r (λ x. Within views refuses quorums (meaning x) × (writing (meaning x) ≡ bs)) (λ _. (m : Said) → Within views refuses quorums m → writing m ≡ bs → ⊥)
reads_whole refuses quorums bs o (Ok x) h =
    let b = bytes_back refuses quorums bs o h.0 in
    (subst (Within views refuses quorums) (sym h.1) b.within, ap writing h.1 ∙ b.same)
reads_whole refuses quorums bs o (Err f) h = λ m w e. reads_back refuses quorums bs (Err f) h m w e

-- a message that was read is written as the packet
pub written_back : (refuses : Writing → Option TicketFault) (quorums : ℕ) (bs : List ℕ) → Octets bs → (m : Message) → (packet_fault views refuses quorums bs ≡ None) × (meaning m ≡ said_by bs) × Borrows bs m → written m ≡ bs
unfolding written writing
written_back refuses quorums bs o (messages.Put v t) h = ap writing h.1 ∙ (bytes_back refuses quorums bs o h.0).same
written_back refuses quorums bs o (messages.Row v r) h = ap writing h.1 ∙ (bytes_back refuses quorums bs o h.0).same
written_back refuses quorums bs o (messages.Report r) h =
    let same : writing (meaning (messages.Report r)) ≡ bs = ap writing h.1 ∙ (bytes_back refuses quorums bs o h.0).same in
    ap (report_bytes r.view) (h.2.1 ∙ sym (ap (drop 12) same)) ∙ same
