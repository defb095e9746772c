use Rattle.std.proofs.Common.{rules, tests}
use Rattle.sets.proofs.Searches.{first_below}
use Rattle.table.specs.Questions.{Fine}
use Rattle.table.specs.Means.{listed}
use Rattle.table.proofs.Passes.{first_place}
use Rattle.table.proofs.table.Table.first_unfit.Goals as goal

pub returns : goal.returns
returns c =
    first_place c.args.question (listed c.args.self) _ _ c.places.ensures
    (first_below (λ i. Fine c.args.question (listed c.args.self) i → ⊥) (λ i. Fine c.args.question (listed c.args.self) i) _ _ _ _ c.find.ensures.ran
    (λ x q k. search (rules, tests)) (λ x q k. search (rules, tests)))
