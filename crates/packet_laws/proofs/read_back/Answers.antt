use Rattle.std.proofs.Common.{rules}
use Rattle.packet_laws.proofs.Messages.{reads_back, reads_whole}
use Rattle.packet_laws.proofs.read_back.Goals as goal

pub returns : goal.returns
returns g c = record {
  back = reads_back g.T.Ticket.refuses c.args.quorums c.args.bytes.now c.read.result c.read.ensures;
  exactly = reads_whole g.T.Ticket.refuses c.args.quorums c.args.bytes.now (record { small = λ i. search rules }) c.read.result c.read.ensures;
}
