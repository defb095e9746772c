use Rattle.calls.specs.Calls.{ways}
use Rattle.history.specs.Runs.{Continues}
use Rattle.shed.specs.Means.{world_of}
use Rattle.week.proofs.week.deliver_all.Given as goal

abbrev pub invariant-loop-place : goal.invariant-loop-place
invariant-loop-place g l = Continues (ways g.T.Ticket.written g.T.Ticket.refuses g.W.Wire.rule) (world_of g.W.Wire.means l.initial.shed) (world_of g.W.Wire.means l.shed)
