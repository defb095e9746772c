use Rattle.table.specs.Means.{means}
use Rattle.choice.specs.Chosen.{Chosen}
use Rattle.choice.specs.Steps.{Seen}
use Rattle.choice.proofs.lives.Reports.with_view.Given as goal

abbrev pub invariant-loop-x : goal.invariant-loop-x
invariant-loop-x l = Chosen (Seen (means l.self.passed.now) l.self.quorum l.self.grid.now l.self.view l.self.earlier l.x) l.choice
