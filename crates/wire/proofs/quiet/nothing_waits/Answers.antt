-- What `all` says of the numbers of a range, it says of the units served.
use Rattle.std.proofs.Common.{rules, ◌≡◌, ℕ, ◌<◌, Bool, true, false, [], length, get_or, refl, ◌∙◌, subst, zero-add, arith}
use Rattle.std.specs.List.{range_with_len, AllWithin, HoldsAt}
use Rattle.std.specs.Bool.{MatchBool, Decides}
use Rattle.std.proofs.lemmas.Iterator.{cases_from_all, YieldsList-from_range}
use Rattle.std.proofs.lemmas.List.FromFn.{length-range_with_len, get_or-range_with_len}
use borrow.Author.Tests.{tests}
use Rattle.wire.specs.Meaning.{Meaning}
use Rattle.wire.specs.Runs.{Quiet}
use Rattle.wire.proofs.quiet.nothing_waits.Goals as goal

asked : (m : Meaning) (n : ℕ) → n ≡ m.served → (r : Bool) → MatchBool r (AllWithin (λ x. m.waiting x ≡ []) (range_with_len 0 n) 0 (length (range_with_len 0 n))) ((k : ℕ) × (k < length (range_with_len 0 n)) × HoldsAt (λ x. (x < m.served) × (m.waiting x ≡ []) → ⊥) (range_with_len 0 n) k) → Decides r (Quiet m)
asked m n e true h =
    (λ _ u l. let at : get_or (range_with_len 0 n) u 0 ≡ u = get_or-range_with_len 0 n u 0 (omega arith) ∙ zero-add u in subst (λ v. m.waiting v ≡ []) at (h u 0 (omega arith) (rw length-range_with_len (omega arith))), λ _. refl)
asked m n e false h = (
  λ q. cc,
  λ quiet.
      let k : h.0 < n = rw length-range_with_len at h.1 in
      let at : get_or (range_with_len 0 n) h.0 0 ≡ h.0 = get_or-range_with_len 0 n h.0 0 k ∙ zero-add h.0 in
      absurd (h.2 0 (omega arith, quiet _ (omega arith))),
)

pub returns : goal.returns
returns g c =
    let m = g.W.Wire.means c.args.wire.now in
    let r = cases_from_all _ _ _ (λ x. m.waiting x ≡ []) (λ x. (x < m.served) × (m.waiting x ≡ []) → ⊥) c.all.ensures.ran (YieldsList-from_range 0 c.served.result c.served.result refl (omega arith)) (λ x q k. search (rules, tests)) (λ x q k. search (rules, tests)) in
    asked m c.served.result c.served.ensures _ r
