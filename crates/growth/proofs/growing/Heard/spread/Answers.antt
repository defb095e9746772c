use Rattle.std.proofs.Common.{rules, tests}
use Rattle.std.proofs.lemmas.Iterator.{YieldsList-from_slice}
use Rattle.sets.specs.Sets.{Has, Inside}
use Rattle.sets.proofs.Searches.{any_decides}
use Rattle.table.specs.declared.quorum.Quorum.{Quorum}
use Rattle.table.specs.Tables.{no_quorum}
use Rattle.table.specs.Means.{means}
use Rattle.rows.specs.Rows.{row_in}
use Rattle.growth.proofs.Entirely.{some_spread}
use Rattle.growth.proofs.growing.Heard.spread.Goals as goal

pub returns : goal.returns
returns c =
    let tb = means c.args.self.now.passed.now in
    some_spread tb (row_in c.args.self.now.rows.now) c.args.self.now.ticket _ c.senders-filled.ensures _
    (any_decides (λ (q : Quorum). Inside (Has q.set) (Has c.senders-filled.result)) no_quorum _ _ _ c.any.ensures.ran
    (YieldsList-from_slice tb.quorums cc) (λ x q k. search (rules, tests)) (λ x q k. search (rules, tests)))
