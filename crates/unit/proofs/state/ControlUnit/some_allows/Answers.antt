use Rattle.std.proofs.Common.{rules}
use Rattle.table.specs.Means.{means as table_of}
use Rattle.unit.specs.States.{means}
use Rattle.unit.specs.Reported.{FullyReported, Allows, choice_at}
use Rattle.unit.proofs.Places.{some_place}
use Rattle.unit.proofs.state.ControlUnit.some_allows.Goals as goal

pub returns : goal.returns
returns c =
    let tb = table_of c.args.passed.now in
    let s = means c.args.self.now in
    some_place _ _ c.quorum_count.ensures.is (λ q. FullyReported tb s q × Allows (choice_at tb s q) c.args.ticket) _ _ _ c.any.ensures.ran
    (λ x q k. search rules) (λ x q k. search rules)
