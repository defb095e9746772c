use Rattle.std.proofs.Common.{rules}
use Rattle.table.specs.Means.{means as table_of}
use Rattle.unit.specs.States.{means}
use Rattle.unit.specs.Reported.{FullyReported}
use Rattle.unit.proofs.Places.{some_place}
use Rattle.unit.proofs.state.ControlUnit.some_fully.Goals as goal

pub returns : goal.returns
returns c =
    some_place _ _ c.quorum_count.ensures.is (FullyReported (table_of c.args.passed.now) (means c.args.self.now)) _ _ _ c.any.ensures.ran
    (λ x q k. search rules) (λ x q k. search rules)
