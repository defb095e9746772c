use Rattle.std.proofs.Common.{ℕ, sym, subst}
use Rattle.std.proofs.lemmas.Bool.{eq-eqb, eqb-true}
use Rattle.sets.specs.Sets.{Has}
use Rattle.sets.proofs.Bits.{same_mask}
use Rattle.sets.proofs.same.Goals as goal

pub returns : goal.returns
returns c = (
  λ e x.
      let eq = eqb-true c.args.a c.args.b e in
      (λ h. subst (λ (z : ℕ). Has z x) eq h, λ h. subst (λ (z : ℕ). Has z x) (sym eq) h),
  λ h. eq-eqb _ _ (same_mask c.args.a c.args.b h),
)
