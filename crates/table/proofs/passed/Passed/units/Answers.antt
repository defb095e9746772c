use Rattle.table.specs.Listed.{listed}
use Rattle.table.proofs.Few.{some_units, few_units}
use Rattle.table.proofs.passed.Passed.units.Goals as goal

pub returns-clause-few : goal.returns-clause-few
returns-clause-few c = few_units (listed c.self.inside.table) c.self.invariant

pub returns-clause-some : goal.returns-clause-some
returns-clause-some c = some_units (listed c.self.inside.table) c.self.invariant
