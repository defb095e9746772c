use Rattle.std.proofs.Common.{ℕ, rules, tests}
use Rattle.std.proofs.lemmas.Iterator.{YieldsList-from_slice}
use Rattle.std.proofs.lemmas.Bool.Decides.{Decides-not, Decides-like}
use Rattle.sets.specs.Sets.{Has}
use Rattle.sets.specs.Covers.{CoveredWith}
use Rattle.sets.proofs.Searches.{any_decides}
use Rattle.sets.proofs.large.Goals as goal

pub returns : goal.returns
returns c =
    Decides-like _ (λ n g h lg lh i. n (g, lg, (h, lh, i))) (λ l k. l k.0 k.2.0 k.1 k.2.1 k.2.2)
    (Decides-not _ (any_decides (λ (g : ℕ). CoveredWith c.args.faults.now g (Has c.args.s)) 0 _ _ _ c.any.ensures.ran (YieldsList-from_slice c.args.faults.now cc)
    (λ x q k. search (rules, tests)) (λ x q k. search (rules, tests))))
