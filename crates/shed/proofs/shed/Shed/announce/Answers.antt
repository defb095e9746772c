use Rattle.calls.specs.Calls.{ways}
use Rattle.history.proofs.Promises.{promised}
use Rattle.shed.specs.Means.{world_of}
use Rattle.shed.proofs.shed.Shed.announce.Goals as goal

pub returns-clause-promised : goal.returns-clause-promised
returns-clause-promised g c =
    promised (ways g.T.Ticket.written g.T.Ticket.refuses g.W.Wire.rule) g.met.T.Ticket.apart (world_of g.W.Wire.means c.args.self.now)
