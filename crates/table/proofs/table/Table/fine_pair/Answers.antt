use Rattle.std.proofs.Common.{Decides, sym, subst}
use Rattle.table.specs.declared.question.PairQuestion.{PairQuestion}
use Rattle.table.specs.Questions.{FinePair}
use Rattle.table.specs.Means.{listed}
use Rattle.table.proofs.table.Table.fine_pair.Goals as goal

pub returns-in-Second : goal.returns-in-Second
returns-in-Second c =
    subst (λ (pair : PairQuestion). Decides c.second.result (FinePair pair (listed c.args.self) c.args.p c.args.q)) (sym c.in-Second.is) c.second.ensures
