use Rattle.std.proofs.Common.{arith, rules}
use Rattle.std.proofs.lemmas.Bool.{le-leb, eq-eqb, eqb-true}
use Rattle.sets.proofs.Bits.{has_below, shift_below, below_shift}
use Rattle.sets.proofs.below.Goals as goal

pub returns-then-n-ge16 : goal.returns-then-n-ge16
returns-then-n-ge16 c =
    (λ _ x h. omega (arith, has_below 16 c.args.s x (search rules) h), λ _. le-leb 16 c.args.n c.if-n-ge16.true)

pub returns-else-n-ge16 : goal.returns-else-n-ge16
returns-else-n-ge16 c =
    (λ e. shift_below c.args.n c.args.s (eqb-true _ 0 e), λ h. eq-eqb _ 0 (below_shift c.args.n c.args.s h))
