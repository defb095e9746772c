use Rattle.table.specs.Means.{means}
use Rattle.choice.specs.Chosen.{Chosen}
use Rattle.choice.specs.Steps.{Seen}
use Rattle.choice.proofs.choosing.choose.Given as goal

abbrev pub invariant-loop-earlier : goal.invariant-loop-earlier
invariant-loop-earlier l = Chosen (Seen (means l.passed) l.q l.grid l.view l.earlier 0) l.choice
