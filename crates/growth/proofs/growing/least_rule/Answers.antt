use Rattle.std.proofs.Common.{rules, tests}
use Rattle.std.proofs.lemmas.Iterator.{first_from_find, YieldsList-from_slice}
use Rattle.std.proofs.lemmas.Iterator.Consumers.{YieldsList-from_copied, YieldsList-at}
use Rattle.rows.specs.declared.rule.Rule.{Rule}
use Rattle.table.specs.Means.{means}
use Rattle.rows.specs.Rows.{row_in}
use Rattle.growth.specs.Growth.{Met}
use Rattle.growth.proofs.Grown.{three, Unmet, found_least}
use Rattle.growth.proofs.growing.least_rule.Goals as goal

pub returns : goal.returns
returns c =
    let tb = means c.args.passed.now in
    let h = row_in c.args.heard.now in
    let t = c.args.ticket in
    found_least tb h t _
    (first_from_find _ _ _ (λ (u : Rule). Met tb h u t) (Unmet tb h t) c.find.ensures.ran
    (YieldsList-from_copied (YieldsList-at c.copied.ensures.source (YieldsList-from_slice three cc))) (λ x q k. search (rules, tests)) (λ x q k. search (rules, tests)))
