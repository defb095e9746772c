use Rattle.std.proofs.Common.{rules, tests}
use Rattle.std.proofs.lemmas.Iterator.{YieldsList-from_slice}
use Rattle.sets.proofs.Searches.{any_decides}
use Rattle.table.specs.Means.{means}
use Rattle.rows.specs.declared.rule.Rule.TheVariants.{First}
use Rattle.choice.proofs.Backed.{ByRule, three, some_rule}
use Rattle.choice.proofs.lives.Reports.backed.Goals as goal

pub returns : goal.returns
returns c =
    let r = c.args.self.now in
    let tb = means r.passed.now in
    some_rule tb r.quorum r.grid.now r.earlier c.args.ticket _
    (any_decides (ByRule tb r.quorum r.grid.now r.earlier c.args.ticket) First _ _ _ c.any.ensures.ran (YieldsList-from_slice three cc)
    (λ x q k. search (rules, tests)) (λ x q k. search (rules, tests)))
