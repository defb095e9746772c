-- How a row grows by what was heard, and what may be announced.
use Rattle.std.specs.Prelude.{◌≡◌, ℕ, zero, suc, ◌^◌, true, length, Some, None, Option, bit_or}
use Rattle.std.proofs.Math.Decide.{ℕ_discrete}
use Rattle.sets.specs.Decisions.{pick, both?, not?, some?, all_in?}
use Rattle.table.specs.Tables.{QuorumTable, IsQuorum, quorum_at, In, class_of}
use Rattle.ticket.specs.declared.writing.Writing.{Writing}
use Rattle.rows.specs.declared.row.Row.{Row}
use Rattle.rows.specs.declared.rule.Rule.{Rule}
use Rattle.rows.specs.declared.rule.Rule.TheVariants as rules
use Rattle.rows.specs.Rows.{Holds, ForFilled}
use Rattle.rows.specs.Decided.{holds?, for?, for_filled?}
use Rattle.rows.specs.Rules.{Ranked, Needed, ranked?, needed?}

-- tb: the table; h: what was heard of each sender in one view
module _ (tb : QuorumTable) (h : ℕ → Option Row) where
  -- the quorum at place p was heard entire with such rows
  abbrev pub Entire : ℕ → (Row → Type 0) → Type 0
  Entire p P = (x : ℕ) → In tb p x → Holds (h x) P

  abbrev pub entire? : (p : ℕ) {P : Row → Type 0} → ((r : Row) → Dec (P r)) → Dec (Entire p P)
  entire? p d = all_in? (quorum_at tb p).set (λ x. holds? d (h x))

  -- the places below n of the quorums that were heard entire with the ticket
  unfoldable pub places_below : Writing → ℕ → ℕ
  places_below t zero = 0
  places_below t (suc p) = pick (entire? p (for? t)) (bit_or (places_below t p) (2 ^ p)) (places_below t p)

  -- growth, the set: all quorums heard entire with the ticket
  abbrev pub grown_set : Writing → ℕ
  grown_set t = places_below t (length tb.quorums)

  -- some quorum was heard entire with the ticket and sets that are not empty
  abbrev pub Spread : Writing → Type 0
  Spread t = (p : ℕ) × IsQuorum tb p × Entire p (ForFilled t)

  abbrev pub spread? : (t : Writing) → Dec (Spread t)
  spread? t = some? (λ p. entire? p (for_filled? t)) (length tb.quorums)

  -- growth, the third mark: given where the set is not empty and some quorum was heard entire with sets that are not empty
  abbrev pub mark? : (t : Writing) → Dec ((¬ (grown_set t ≡ 0)) × Spread t)
  mark? t = both? (not? (ℕ_discrete (grown_set t) 0)) (spread? t)

  abbrev pub grown : Row → Row
  grown r = record {
    ticket = r.ticket;
    set = grown_set r.ticket;
    mark = pick (mark? r.ticket) true r.mark;
  }

  -- a rule is met for the ticket: some quorum of its class was heard entire as it asks
  abbrev pub Met : Rule → Writing → Type 0
  Met rule t = (p : ℕ) × IsQuorum tb p × (Ranked rule (class_of tb p) × Entire p (Needed rule p t))

  abbrev pub met? : (rule : Rule) (t : Writing) → Dec (Met rule t)
  met? rule t = some? (λ p. both? (ranked? rule (class_of tb p)) (entire? p (needed? rule p t))) (length tb.quorums)

  -- the least rule that is met, if any
  abbrev pub least_rule : Writing → Option Rule
  least_rule t =
      pick (met? rules.First t) (Some rules.First)
      (pick (met? rules.Second t) (Some rules.Second) (pick (met? rules.Third t) (Some rules.Third) None))
