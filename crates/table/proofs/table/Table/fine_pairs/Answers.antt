use Rattle.std.proofs.Common.{ℕ, length, rules, tests}
use Rattle.sets.proofs.Searches.{all_below_decides}
use Rattle.table.specs.Questions.{FinePair}
use Rattle.table.specs.Means.{listed}
use Rattle.table.proofs.table.Table.fine_pairs.Goals as goal

pub returns : goal.returns
returns c =
    all_below_decides (λ (q : ℕ). FinePair c.args.pair (listed c.args.self) c.args.p q) (length c.args.self.quorums.now) _ _ _ c.all.ensures.ran
    (λ x q k. search (rules, tests)) (λ x q k. search (rules, tests))
