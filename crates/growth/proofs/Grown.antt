-- Proofs of the laws of growth and announcement.
use Rattle.std.proofs.Common.{◌≡◌, ℕ, zero, suc, ◌^◌, ◌<◌, List, [], ◌∷◌, length, Some, None, Option, MatchOption, sym, ap, ◌∙◌, subst, inl, inr, arith}
use native.Mathlib.Decide.{ℕ_discrete}
use lib.Bits.{bit_or}
use Rattle.std.specs.List.{AllWithin, HoldsAt}
use Rattle.sets.specs.Sets.{Has, Same}
use Rattle.sets.specs.Decisions.{pick}
use Rattle.sets.proofs.Bits.{none_has, or_has, has_or, power_has, has_power}
use Rattle.table.specs.Tables.{QuorumTable}
use Rattle.ticket.specs.declared.writing.Writing.{Writing}
use Rattle.rows.specs.declared.row.Row.{Row}
use Rattle.rows.specs.declared.rule.Rule.{Rule}
use Rattle.rows.specs.declared.rule.Rule.TheVariants as rules
use Rattle.rows.specs.Rows.{For}
use Rattle.rows.specs.Decided.{for?}
use Rattle.growth.specs.Growth.{Entire, entire?, places_below, Met, met?, least_rule}
use Rattle.growth.proofs.Entirely.{pick_yes, pick_no}
use Rattle.growth.specs.Laws.{GrownSetIsHeardEntire, Least, LeastRuleIsLeast}

module _ (tb : QuorumTable) (h : ℕ → Option Row) (t : Writing) where
  -- the next place joins the set where its quorum was heard entire
  module _ (n p : ℕ) (ih : Same (Has (places_below tb h t n) p) ((p < n) × Entire tb h p (For t))) where
    lower : (p < n) × Entire tb h p (For t) → (p < suc n) × Entire tb h p (For t)
    lower k = let lt = k.0 in (omega arith, k.1)

    next_has : (d : Dec (Entire tb h n (For t)))
        → Same (Has (pick d (bit_or (places_below tb h t n) (2 ^ n)) (places_below tb h t n)) p) ((p < suc n) × Entire tb h p (For t))
    next_has (yes e) = (
      λ k. elim (or_has (places_below tb h t n) (2 ^ n) p k) [
        | inl b ↦ lower (ih.0 b)
        | inr b ↦ let eq = power_has n p b in (omega arith, subst (λ z. Entire tb h z (For t)) (sym eq) e)
      ],
      λ k. has_or (places_below tb h t n) (2 ^ n) p (elim (ℕ_discrete p n) [
        | yes eq ↦ inr (subst (λ z. Has (2 ^ n) z) (sym eq) (has_power n))
        | no ne ↦ let lt = k.0 in inl (ih.1 (omega arith, k.1))
      ]),
    )
    next_has (no ne) = (
      λ k. lower (ih.0 k),
      λ k. ih.1 (elim (ℕ_discrete p n) [
        | yes eq ↦ absurd (ne (subst (λ z. Entire tb h z (For t)) eq k.1))
        | no np ↦ let lt = k.0 in (omega arith, k.1)
      ]),
    )

  below_has : (n p : ℕ) → Same (Has (places_below tb h t n) p) ((p < n) × Entire tb h p (For t))
  unfolding places_below
  below_has zero p = (λ k. absurd (none_has p k), λ k. absurd (let lt = k.0 in omega arith))
  below_has (suc n) p = next_has n p (below_has n p) (entire? tb h n (for? t))

pub set_is : GrownSetIsHeardEntire
set_is tb h t p = below_has tb h t (length tb.quorums) p

module _ (tb : QuorumTable) (h : ℕ → Option Row) (t : Writing) where
  third_least : ¬ (Met tb h rules.First t) → ¬ (Met tb h rules.Second t) → (d : Dec (Met tb h rules.Third t)) → Least tb h t (pick d (Some rules.Third) None)
  third_least a b (yes k) = (a, b, k)
  third_least a b (no k) = (a, b, k)

  second_least : ¬ (Met tb h rules.First t) → (d : Dec (Met tb h rules.Second t))
      → Least tb h t (pick d (Some rules.Second) (pick (met? tb h rules.Third t) (Some rules.Third) None))
  second_least a (yes k) = (a, k)
  second_least a (no b) = third_least a b (met? tb h rules.Third t)

  first_least : (d : Dec (Met tb h rules.First t))
      → Least tb h t (pick d (Some rules.First) (pick (met? tb h rules.Second t) (Some rules.Second) (pick (met? tb h rules.Third t) (Some rules.Third) None)))
  first_least (yes k) = k
  first_least (no a) = second_least a (met? tb h rules.Second t)

pub rule_least : LeastRuleIsLeast
rule_least tb h t = first_least tb h t (met? tb h rules.First t)

abbrev pub three : List Rule
three = rules.First ∷ rules.Second ∷ rules.Third ∷ []

module _ (tb : QuorumTable) (h : ℕ → Option Row) (t : Writing) where
  abbrev pub Unmet : Rule → Type 0
  Unmet rule = ¬ (Met tb h rule t)

  not_first : Unmet rules.First → least_rule tb h t ≡ pick (met? tb h rules.Second t) (Some rules.Second) (pick (met? tb h rules.Third t) (Some rules.Third) None)
  not_first a = pick_no (met? tb h rules.First t) _ _ a

  not_second : Unmet rules.First → Unmet rules.Second → least_rule tb h t ≡ pick (met? tb h rules.Third t) (Some rules.Third) None
  not_second a b = not_first a ∙ pick_no (met? tb h rules.Second t) _ _ b

  -- the first of the three that is met is the least
  pub found_least : (r : Option Rule) → MatchOption r (AllWithin Unmet three 0 3)
      (λ u. Met tb h u t × (i : ℕ) × (i < 3) × HoldsAt (λ y. y ≡ u) three i × AllWithin Unmet three 0 i) → r ≡ least_rule tb h t
  found_least None n =
      sym (not_second (n 0 rules.First (omega arith) (omega arith)) (n 1 rules.First (omega arith) (omega arith))
      ∙ pick_no (met? tb h rules.Third t) _ _ (n 2 rules.First (omega arith) (omega arith)))
  found_least (Some u) (m, zero, lt, at, n) =
      let e = at u in
      ap Some (sym e) ∙ sym (pick_yes (met? tb h rules.First t) _ _ (subst (λ z. Met tb h z t) (sym e) m))
  found_least (Some u) (m, suc zero, lt, at, n) =
      let e = at u in
      ap Some (sym e) ∙ sym (not_first (n 0 u (omega arith) (omega arith)) ∙ pick_yes (met? tb h rules.Second t) _ _ (subst (λ z. Met tb h z t) (sym e) m))
  found_least (Some u) (m, suc (suc zero), lt, at, n) =
      let e = at u in
      ap Some (sym e)
      ∙ sym (not_second (n 0 u (omega arith) (omega arith)) (n 1 u (omega arith) (omega arith)) ∙ pick_yes (met? tb h rules.Third t) _ _ (subst (λ z. Met tb h z t) (sym e) m))
  found_least (Some u) (m, suc (suc (suc i)), lt, at, n) = absurd (omega arith)
