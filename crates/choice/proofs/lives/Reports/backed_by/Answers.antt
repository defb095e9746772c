use Rattle.std.proofs.Common.{rules, tests}
use Rattle.std.proofs.lemmas.Iterator.{YieldsList-from_slice}
use Rattle.std.proofs.lemmas.Iterator.Consumers.{YieldsList-at, YieldsList-from_enumerate}
use Rattle.sets.proofs.Searches.{any_decides}
use Rattle.table.specs.Tables.{no_quorum}
use Rattle.table.specs.Means.{means}
use Rattle.choice.proofs.Backed.{Backs, some_backs}
use Rattle.choice.proofs.lives.Reports.backed_by.Goals as goal

pub returns : goal.returns
returns c =
    let r = c.args.self.now in
    let tb = means r.passed.now in
    some_backs tb r.quorum r.grid.now r.earlier c.args.ticket c.args.rule _
    (any_decides (Backs tb r.quorum r.grid.now r.earlier c.args.ticket c.args.rule) (0, no_quorum) _ _ _ c.any.ensures.ran
    (YieldsList-from_enumerate (YieldsList-at c.enumerate.ensures.source (YieldsList-from_slice tb.quorums cc)) c.enumerate.ensures.count)
    (λ x q k. search (rules, tests)) (λ x q k. search (rules, tests)))
