use Rattle.std.proofs.Common.{◌<◌}
use Rattle.sets.specs.Sets.{Is}
use Rattle.rows.specs.Rows.{row_in, Holds, Wanted}
use Rattle.rows.proofs.said.senders.Given as goal

abbrev pub invariant-loop-x : goal.invariant-loop-x
invariant-loop-x l = Is l.mask (λ y. (y < l.x) × Holds (row_in l.rows y) (Wanted l.test l.ticket))
