use Rattle.std.proofs.Common.{ℕ, ◌<◌}
use Rattle.sets.specs.Sets.{Has, Large}
use Rattle.table.specs.Tables.{In}
use Rattle.table.specs.Means.{listed}
use Rattle.table.proofs.table.Table.large_with_all.Given as goal

abbrev pub invariant-loop-quorum : goal.invariant-loop-quorum
invariant-loop-quorum l = (k : ℕ) → k < l.quorum-index → Large l.self.faults.now (λ x. Has l.a.set x × Has l.b.set x × In (listed l.self) k x)
