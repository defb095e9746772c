use Rattle.calls.specs.Calls.{ways}
use Rattle.history.proofs.Promises.{promised}
use Rattle.history.proofs.calls_agree.Goals as goal

pub returns : goal.returns
returns g c w run = promised (ways g.T.Ticket.written g.T.Ticket.refuses g.W.Wire.rule) g.met.T.Ticket.apart w run
