use Rattle.std.proofs.Common.{ℕ, rules, tests}
use Rattle.std.proofs.lemmas.Iterator.{YieldsList-from_slice}
use Rattle.sets.specs.Sets.{Has, Inside}
use Rattle.sets.proofs.Searches.{any_decides}
use Rattle.sets.proofs.bearable.Goals as goal

pub returns : goal.returns
returns c =
    any_decides (λ (f : ℕ). Inside (Has c.args.s) (Has f)) 0 _ _ _ c.any.ensures.ran (YieldsList-from_slice c.args.faults.now cc)
    (λ x q k. search (rules, tests)) (λ x q k. search (rules, tests))
