use Rattle.std.proofs.Common.{◌≡◌, rules, tests}
use Rattle.std.proofs.lemmas.Iterator.{YieldsList-from_slice}
use Rattle.sets.specs.Sets.{Has, Basic}
use Rattle.sets.proofs.Searches.{all_decides}
use Rattle.table.specs.Tables.{Quorum, no_quorum}
use Rattle.table.proofs.table.Table.class1_basic.Goals as goal

pub returns : goal.returns
returns c =
    all_decides (λ (f : Quorum). f.class ≡ 1 → Basic c.args.self.faults.now (λ x. Has f.set x × Has c.args.a.set x × Has c.args.b.set x)) no_quorum _ _ _
    c.all.ensures.ran (YieldsList-from_slice c.args.self.quorums.now cc) (λ x q k. search (rules, tests)) (λ x q k. search (rules, tests))
