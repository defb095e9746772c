-- The rules, case by case.
use Rattle.std.proofs.Common.{◌≡◌, ℕ, zero, suc, ◌^◌, ◌<◌, ◌⊎◌, Bool, true, false, cond, not, eqb, Some, None, Option, sym, refl, ap, ◌∙◌, subst, inl, inr, arith}
use native.Mathlib.Decide.{ℕ_discrete, dec_lt}
use lib.Bits.{bit_or}
use Rattle.base.specs.Limits.{views, units_most}
use Rattle.sets.specs.Sets.{Has, Set, Same, Is}
use Rattle.sets.proofs.Bits.{or_has, has_or, power_has, has_power, same_mask}
use Rattle.sets.specs.Decisions.{pick}
use Rattle.growth.proofs.Entirely.{pick_yes, pick_no}
use Rattle.unit.specs.Reported.{or_else, least?, with_unit, same_said?}
use Rattle.growth.specs.Growth.{least_rule}
use Rattle.table.specs.Tables.{QuorumTable}
use Rattle.ticket.specs.declared.writing.Writing.{Writing}
use Rattle.rows.specs.declared.row.Row.{Row}
use Rattle.rows.specs.Rows.{cell}
use Rattle.unit.specs.States.{State, own_at}
use Rattle.unit.specs.Rules.{grown_own, grow_own, grow_at, ruled, announced_or, with_announced, announce, hear, on_row}
use Rattle.unit.specs.Sending.{sends_row, sends_nothing}
use Rattle.unit.specs.Letters.{stage_of, sends_changed}
use Rattle.unit.specs.declared.stage.Stage.TheVariants as stages

-- the least number of which P holds
module _ {P : ℕ → Type 0} (d : (p : ℕ) → Dec (P p)) where
  pub least_none : (n : ℕ) → ((k : ℕ) → k < n → P k → ⊥) → None ≡ least? d n
  unfolding least?
  least_none zero f = refl
  least_none (suc n) f =
      ap (λ (o : Option ℕ). or_else o None) (least_none n (λ k lt. f k (omega arith)))
      ∙ ap (λ (o : Option ℕ). or_else (least? d n) o) (sym (pick_no (d n) (Some n) None (f n (omega arith))))

  pub least_some : (n q : ℕ) → q < n → P q → ((k : ℕ) → k < q → P k → ⊥) → Some q ≡ least? d n
  unfolding least?
  least_some zero q lt p f = absurd (omega arith)
  least_some (suc n) q lt p f =
      elim (ℕ_discrete q n) [
        | no ne ↦ ap (λ (o : Option ℕ). or_else o (pick (d n) (Some n) None)) (least_some n q (omega arith) p f)
        | yes e ↦
            ap Some e
            ∙ sym (pick_yes (d n) (Some n) None (subst P e p))
            ∙ ap (λ (o : Option ℕ). or_else o (pick (d n) (Some n) None)) (least_none n (λ k l. f k (omega arith)))
      ]

-- the mask with a unit is told by its units
pub with_unit_is : (m x : ℕ) → Is (with_unit m x) (λ y. Has m y ⊎ ((y ≡ x) × (x < units_most)))
with_unit_is m x y = go (dec_lt x units_most)
  where
    go : (d : Dec (x < units_most)) → Same (Has (pick d (bit_or m (2 ^ x)) m) y) (Has m y ⊎ ((y ≡ x) × (x < units_most)))
    go (yes lt) = (
      λ h. elim (or_has m (2 ^ x) y h) [ inl i ↦ inl i | inr i ↦ inr (power_has x y i, lt) ],
      λ h. has_or m (2 ^ x) y (elim h [ inl i ↦ inl i | inr e ↦ inr (subst (λ z. Has (2 ^ x) z) (sym e.0) (has_power x)) ]),
    )
    go (no n) = (λ h. inl h, λ h. elim h [ inl i ↦ i | inr e ↦ absurd (n e.1) ])

pub same_units : (m n : ℕ) (s : Set) → Is m s → Is n s → m ≡ n
same_units m n s is js = same_mask m n (λ x. (λ h. (js x).1 ((is x).0 h), λ h. (is x).1 ((js x).0 h)))

-- where there is no own row, nothing grows
module _ (tb : QuorumTable) (s : State) (none : own_at s s.view ≡ None) where
  no_own_grows : s ≡ grow_own tb s
  no_own_grows = go (dec_lt s.view views)
    where
      go : (d : Dec (s.view < views)) → s ≡ pick d (grown_own tb (own_at s s.view) s) s
      go (yes lt) = ap (λ (o : Option Row). grown_own tb o s) (sym none)
      go (no n) = refl

  pub nothing_grows : (v : ℕ) → s ≡ grow_at tb v s
  nothing_grows v = go (ℕ_discrete v s.view)
    where
      go : (d : Dec (v ≡ s.view)) → s ≡ pick d (grow_own tb s) s
      go (yes e) = no_own_grows
      go (no n) = refl

-- testing the announcement leaves the own rows
pub announce_own : (tb : QuorumTable) (v : ℕ) (t : Writing) (s : State) (w : ℕ) → own_at (announce tb v t s) w ≡ own_at s w
announce_own tb v t s w = go (dec_lt v views)
  where
    go : (d : Dec (v < views)) → own_at (pick d (with_announced (announced_or s.announced (ruled v t (least_rule tb (cell s.heard v) t))) s) s) w ≡ own_at s w
    go (yes lt) = refl
    go (no n) = refl

module _ (tb : QuorumTable) (x v : ℕ) (r : Row) (s : State) (none : own_at s s.view ≡ None) where
  -- a row that arrives where there is no own row is noted and may be announced
  pub row_noted : announce tb v r.ticket (hear x v r s) ≡ on_row tb x v r s
  row_noted = ap (announce tb v r.ticket) (nothing_grows tb (hear x v r s) none v)

  pub row_silent : sends_nothing ≡ sends_changed (own_at s s.view) (own_at (on_row tb x v r s) s.view)
  row_silent =
      let e : own_at (on_row tb x v r s) s.view ≡ own_at s s.view =
      ap (λ (z : State). own_at z s.view) (sym row_noted) ∙ announce_own tb v r.ticket (hear x v r s) s.view
      in
      sym (pick_yes (same_said? (own_at s s.view) (own_at (on_row tb x v r s) s.view)) sends_nothing sends_row (sym e))

-- the stage none is that of no row
pub stage_none : (o : Option Row) → stages.None ≡ stage_of o → o ≡ None
stage_none None e = refl
stage_none (Some r) e = go r.mark (not (eqb r.set 0)) e
  where
    clash : (b c : Bool) → stages.None ≡ cond b stages.Marked (cond c stages.Set stages.Held) → ⊥
    clash true c e = let z : ◌≡◌ {A = ℕ} 0 1 = cc in omega arith
    clash false true e = let z : ◌≡◌ {A = ℕ} 0 1 = cc in omega arith
    clash false false e = let z : ◌≡◌ {A = ℕ} 0 1 = cc in omega arith

    go : (b c : Bool) → stages.None ≡ cond b stages.Marked (cond c stages.Set stages.Held) → Some r ≡ None
    go b c e = absurd (clash b c e)
