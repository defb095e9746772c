use Rattle.std.proofs.Common.{rules, arith, List, Option}
use borrow.Author.Tests.{tests}
use Rattle.std.proofs.lemmas.Iterator.{YieldsList-from_slice, YieldsList-from_zip, same_from_all}
use Rattle.std.proofs.lemmas.List.{length-map}
use Rattle.rows.specs.declared.row.Row.{Row}
use Rattle.rows.specs.Rows.{row_in}
use Rattle.unit.proofs.Places.{read_through}
use Rattle.unit.proofs.reports.same_report.Goals as goal

pub returns : goal.returns
returns c =
    same_from_all c.all.new.self _ _ _ c.args.rows.now c.all.ensures.ran
    (YieldsList-from_zip (read_through (λ (rows : List (Option Row)). row_in rows c.args.sender) (YieldsList-from_slice c.args.grid.now (cc))) (YieldsList-from_slice c.args.rows.now (cc)))
    (omega (arith, length-map c.args.grid.now (λ (rows : List (Option Row)). row_in rows c.args.sender), c.told-grid, c.told-rows))
    (λ x q k. search (rules, tests)) (λ x q k. search (rules, tests))
