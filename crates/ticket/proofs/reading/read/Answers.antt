use Rattle.std.proofs.Common.{refl, rules}
use Rattle.ticket.specs.ByWriting.{read_bytes}
use Rattle.ticket.proofs.reading.read.Goals as goal

pub returns : goal.returns
returns g c =
    read_bytes g.T.Ticket.written g.T.Ticket.refuses g.met.T.Ticket.fits g.met.T.Ticket.own c.args.bytes.now _ c.read_writing.result
    (search rules) (record { small = λ i. search rules }) refl c.read_writing.ensures
