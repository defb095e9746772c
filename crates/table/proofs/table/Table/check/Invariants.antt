use Rattle.std.proofs.Common.{ℕ, ◌+◌, ◌<◌, ◌≤◌}
use Rattle.table.specs.Questions.{AllFine, question_of}
use Rattle.table.specs.Means.{listed}
use Rattle.table.proofs.table.Table.check.Given as goal

abbrev pub invariant-loop-question : goal.invariant-loop-question
invariant-loop-question l = (k : ℕ) → k < l.question-index + 1 → 1 ≤ k → AllFine (question_of k) (listed l.self)
