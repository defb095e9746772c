use Rattle.std.proofs.lemmas.Bool.{eq-eqb, eqb-true}
use Rattle.sets.proofs.Bits.{inside_mask, mask_inside}
use Rattle.sets.proofs.inside.Goals as goal

pub returns : goal.returns
returns c =
    (λ e. mask_inside c.args.a c.args.b (eqb-true _ _ e), λ h. eq-eqb _ _ (inside_mask c.args.a c.args.b h))
