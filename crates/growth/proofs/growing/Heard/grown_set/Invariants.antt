use Rattle.std.proofs.Common.{◌≡◌}
use Rattle.table.specs.Means.{means}
use Rattle.rows.specs.Rows.{row_in}
use Rattle.growth.specs.Growth.{places_below}
use Rattle.growth.proofs.growing.Heard.grown_set.Given as goal

abbrev pub invariant-loop-p : goal.invariant-loop-p
invariant-loop-p l = l.set ≡ places_below (means l.self.passed.now) (row_in l.self.rows.now) l.self.ticket l.p
