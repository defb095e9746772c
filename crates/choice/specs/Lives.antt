-- Whether a ticket is live can be decided.
use Rattle.std.specs.Prelude.{ℕ, ◌<◌, length, Some, None, Option, slice_index, refl}
use Rattle.std.proofs.Common.{sym, subst}
use Rattle.std.proofs.Math.Decide.{dec_lt}
use Rattle.sets.specs.Sets.{Basic}
use Rattle.sets.specs.Decisions.{both?, either?, if?, not?, as?, some?, has?, all_in?, some_in?}
use Rattle.table.specs.Tables.{QuorumTable, quorum_at, IsQuorum, In, class_of}
use Rattle.ticket.specs.declared.writing.Writing.{Writing}
use Rattle.rows.specs.declared.row.Row.{Row}
use Rattle.rows.specs.Rows.{Grid, cell, Holds, For}
use Rattle.rows.specs.declared.rule.Rule.{Rule}
use Rattle.rows.specs.declared.rule.Rule.TheVariants as rules
use Rattle.rows.specs.Decided.{holds?, against?, against_filled?}
use Rattle.rows.specs.Rules.{ranked?, needed?}
use Rattle.choice.specs.Reports.{AllBut, BackedBy, Backed, Later, Barred, LiveIn, Candidate}

module _ (tb : QuorumTable) (q : ℕ) (kept : Grid) (w : ℕ) where
  abbrev pub all_but? : (p v : ℕ) {P : Row → Type 0} → ((r : Row) → Dec (P r)) → Dec (AllBut tb q kept p v P)
  all_but? p v d =
      some?
      (λ g. all_in? (quorum_at tb p).set
      (λ x. if? (has? (quorum_at tb q).set x) (if? (not? (has? (slice_index tb.faults g) x)) (holds? d (cell kept v x)))))
      (length tb.faults)

  -- some listed quorum of a class
  abbrev pub some_quorum? : {K A : ℕ → Type 0} → ((p : ℕ) → Dec (K p)) → ((p : ℕ) → Dec (A p)) → Dec ((p : ℕ) × (IsQuorum tb p × K p) × A p)
  some_quorum? k a =
      as? (λ e. (e.0, (e.1, e.2.0), e.2.1)) (λ e. (e.0, e.1.0, (e.1.1, e.2)))
      (some? (λ p. both? (k p) (a p)) (length tb.quorums))

  abbrev pub backed_by? : (rule : Rule) (v : ℕ) (t : Writing) → Dec (BackedBy tb q kept rule v t)
  backed_by? rule v t = some_quorum? (λ p. ranked? rule (class_of tb p)) (λ p. all_but? p v (needed? rule p t))

  abbrev pub backed? : (v : ℕ) (t : Writing) → Dec (Backed tb q kept v t)
  backed? v t = either? (backed_by? rules.First v t) (either? (backed_by? rules.Second v t) (backed_by? rules.Third v t))

  -- a set of the quorum's units is basic
  abbrev pub basic_of? : {S : ℕ → Type 0} → ((x : ℕ) → Dec (S x)) → Dec (Basic tb.faults (λ x. In tb q x × S x))
  basic_of? s =
      not?
      (some?
      (λ g. as? (λ f x k. f x k.0 k.1) (λ f x i k. f x (i, k))
      (all_in? (quorum_at tb q).set (λ x. if? (s x) (has? (slice_index tb.faults g) x))))
      (length tb.faults))

  abbrev pub later? : (v : ℕ) (t : Writing) (x : ℕ) → Dec (Later kept w v t x)
  later? v t x =
      as? (λ k. (k.0, k.2.0, k.1, k.2.1)) (λ k. (k.0, k.2, (k.1, k.3)))
      (some? (λ u. both? (dec_lt v u) (holds? (against? t) (cell kept u x))) w)

  abbrev pub barred? : (v : ℕ) (t : Writing) → Dec (Barred tb q kept w v t)
  barred? v t = either? (basic_of? (λ x. holds? (against_filled? t) (cell kept v x))) (basic_of? (later? v t))

  abbrev pub live_in? : (v : ℕ) (t : Writing) → Dec (LiveIn tb q kept w v t)
  live_in? v t = both? (backed? v t) (not? (barred? v t))

  -- a row's ticket is live in its view, and something else holds of it
  abbrev pub LiveRow : ℕ → (Writing → Type 0) → Row → Type 0
  LiveRow v P r = LiveIn tb q kept w v r.ticket × P r.ticket

  abbrev pub SomeLiveRow : (Writing → Type 0) → Type 0
  SomeLiveRow P = (v : ℕ) × (v < w) × ((x : ℕ) × In tb q x × Holds (cell kept v x) (LiveRow v P))

  -- some ticket is a candidate, and something else holds of it
  abbrev pub SomeCandidate : (Writing → Type 0) → Type 0
  SomeCandidate P = (t : Writing) × Candidate tb q kept w t × P t

  abbrev pub row_candidate : (P : Writing → Type 0) (v : ℕ) (o : Option Row) → Holds o (LiveRow v P) → (t : Writing) × LiveIn tb q kept w v t × Holds o (For t) × P t
  row_candidate P v None h = absurd h
  row_candidate P v (Some r) h = (r.ticket, h.0, refl, h.1)

  abbrev pub candidate_row : (P : Writing → Type 0) (v : ℕ) (t : Writing) (o : Option Row) → LiveIn tb q kept w v t → P t → Holds o (For t) → Holds o (LiveRow v P)
  candidate_row P v t None l p h = h
  candidate_row P v t (Some r) l p h = (subst (LiveIn tb q kept w v) (sym h) l, subst P (sym h) p)

  abbrev pub to_candidate : (P : Writing → Type 0) → SomeLiveRow P → SomeCandidate P
  to_candidate P (v, lt, (x, i, h)) =
      let k = row_candidate P v (cell kept v x) h in (k.0, (v, lt, k.1, (x, i, k.2)), k.3)

  abbrev pub from_candidate : (P : Writing → Type 0) → SomeCandidate P → SomeLiveRow P
  from_candidate P (t, (v, lt, l, (x, i, h)), p) = (v, lt, (x, i, candidate_row P v t (cell kept v x) l p h))

  abbrev pub some_candidate? : {P : Writing → Type 0} → ((t : Writing) → Dec (P t)) → Dec (SomeCandidate P)
  some_candidate? {P} d =
      as? (to_candidate P) (from_candidate P)
      (some? (λ v. some_in? (quorum_at tb q).set (λ x. holds? (λ r. both? (live_in? v r.ticket) (d r.ticket)) (cell kept v x))) w)
