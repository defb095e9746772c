use Rattle.calls.specs.Calls.{ways}
use Rattle.history.specs.Runs.{Continues}
use Rattle.shed.specs.Means.{world_of}
use Rattle.week.proofs.week.Week.run.Given as goal

abbrev pub invariant-loop-step : goal.invariant-loop-step
invariant-loop-step g l = Continues (ways g.T.Ticket.written g.T.Ticket.refuses g.W.Wire.rule) (world_of g.W.Wire.means l.initial.shed) (world_of g.W.Wire.means l.shed)
