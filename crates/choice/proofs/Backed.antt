-- What a walk over the listed quorums, and one over the three rules, decide of a ticket.
use Rattle.std.proofs.Common.{◌≡◌, ℕ, zero, suc, ◌<◌, Bool, List, [], ◌∷◌, length, get_or, Decides, sym, ap, ◌∙◌, subst, inl, inr, arith, zero-add}
use Rattle.std.specs.List.{enumerate_from}
use Rattle.std.proofs.lemmas.Bool.Decides.{Decides-like}
use Rattle.std.proofs.lemmas.List.FromFn.{length-enumerate_from, get_or-enumerate_from}
use Rattle.table.specs.declared.quorum.Quorum.{Quorum}
use Rattle.table.specs.Tables.{QuorumTable, quorum_at, no_quorum}
use Rattle.ticket.specs.declared.writing.Writing.{Writing}
use Rattle.rows.specs.Rows.{Grid}
use Rattle.rows.specs.declared.rule.Rule.{Rule}
use Rattle.rows.specs.declared.rule.Rule.TheVariants as rules
use Rattle.rows.specs.Rules.{Ranked, Needed}
use Rattle.choice.specs.Reports.{AllBut, BackedBy, Backed}

abbrev pub three : List Rule
three = rules.First ∷ rules.Second ∷ rules.Third ∷ []

module _ (tb : QuorumTable) (q : ℕ) (kept : Grid) (v : ℕ) (t : Writing) where
  -- the listed quorum backs the ticket at its place
  abbrev pub Backs : Rule → ℕ × Quorum → Type 0
  Backs rule e = Ranked rule e.1.class × AllBut tb q kept e.0 v (Needed rule e.0 t)

  abbrev pub placed : List (ℕ × Quorum)
  placed = enumerate_from 0 tb.quorums

  placed_at : (p : ℕ) → p < length tb.quorums → get_or placed p (0, no_quorum) ≡ (p, quorum_at tb p)
  placed_at p lt = get_or-enumerate_from 0 tb.quorums p (0, no_quorum) lt ∙ ap (λ n. (n, quorum_at tb p)) (zero-add p)

  pub some_backs : (rule : Rule) (r : Bool) → Decides r ((p : ℕ) × (p < length placed) × Backs rule (get_or placed p (0, no_quorum))) → Decides r (BackedBy tb q kept rule v t)
  some_backs rule r =
      Decides-like r
      (λ (p, lt, b).
      let lt' : p < length tb.quorums = omega (arith, length-enumerate_from 0 tb.quorums) in
      let k = subst (Backs rule) (placed_at p lt') b in
      (p, (lt', k.0), k.1))
      (λ (p, (lt, ranked), all).
      (p, omega (arith, length-enumerate_from 0 tb.quorums), subst (Backs rule) (sym (placed_at p lt)) (ranked, all)))

  abbrev pub ByRule : Rule → Type 0
  ByRule rule = BackedBy tb q kept rule v t

  of_three : (k : ℕ) → k < 3 → ByRule (get_or three k rules.First) → Backed tb q kept v t
  of_three zero lt b = inl b
  of_three (suc zero) lt b = inr (inl b)
  of_three (suc (suc zero)) lt b = inr (inr b)
  of_three (suc (suc (suc k))) lt b = absurd (omega arith)

  pub some_rule : (r : Bool) → Decides r ((k : ℕ) × (k < 3) × ByRule (get_or three k rules.First)) → Decides r (Backed tb q kept v t)
  some_rule r =
      Decides-like r (λ (k, lt, b). of_three k lt b)
      (λ b. elim b [ inl a ↦ (0, omega arith, a) | inr c ↦ elim c [ inl a ↦ (1, omega arith, a) | inr a ↦ (2, omega arith, a) ] ])
