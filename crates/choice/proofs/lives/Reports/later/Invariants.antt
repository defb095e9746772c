use Rattle.std.proofs.Common.{◌+◌}
use Rattle.sets.specs.Sets.{Is}
use Rattle.choice.specs.Reports.{Later}
use Rattle.choice.proofs.lives.Reports.later.Given as goal

abbrev pub invariant-loop-rows : goal.invariant-loop-rows
invariant-loop-rows l = Is l.mask (Later l.self.grid.now (l.self.earlier + 1 + l.rows-index) l.self.earlier l.ticket)
