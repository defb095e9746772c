use Rattle.table.specs.Listed.{listed}
use Rattle.table.proofs.Few.{few_quorums}
use Rattle.table.proofs.passed.Passed.quorums.Goals as goal

pub returns-clause-few : goal.returns-clause-few
returns-clause-few c = few_quorums (listed c.self.inside.table) c.self.invariant
