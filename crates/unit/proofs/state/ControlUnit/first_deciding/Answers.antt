use Rattle.std.proofs.Common.{rules}
use Rattle.sets.specs.Decisions.{both?, not?}
use Rattle.table.specs.Means.{means as table_of}
use Rattle.unit.specs.States.{means}
use Rattle.unit.specs.Reported.{fully?, torn?, choice_at}
use Rattle.unit.proofs.Places.{least_place}
use Rattle.unit.proofs.state.ControlUnit.first_deciding.Goals as goal

pub returns : goal.returns
returns c =
    let tb = table_of c.args.passed.now in
    let s = means c.args.self.now in
    least_place _ _ c.quorum_count.ensures.is _ (λ q. both? (fully? tb s q) (not? (torn? (choice_at tb s q)))) _ _ _ c.find.ensures.ran
    (λ x q k. search rules) (λ x q k. search rules)
