use Rattle.std.proofs.Common.{rules, arith}
use Rattle.table.specs.Questions.{Found}
use Rattle.table.specs.Means.{listed}
use Rattle.table.proofs.Passes.{proper_from, not_proper}
use Rattle.table.proofs.table.Table.check.Goals as goal

pub returns-in-Some : goal.returns-in-Some
returns-in-Some c = let f : Found (listed c.args.self) c.fault.result = search rules in (f, not_proper _ c.fault.result f)

pub returns : goal.returns
returns c = proper_from _ (λ k lt le. c.loop-question.invariant k (omega arith) le)
