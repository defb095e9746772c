use Rattle.std.proofs.Common.{ℕ, List, subst}
use Rattle.packet_write.specs.Writes.{Wrote}
use Rattle.packet_laws.proofs.Messages.{written_back}
use Rattle.packet_laws.proofs.rewrite.Goals as goal

pub returns : goal.returns
returns g c = (
  c.in_ok-message.ensures.0,
  subst (λ (l : List ℕ). Wrote l c.args.out.now c.write.new.out c.write.result)
      (written_back g.T.Ticket.refuses c.args.quorums c.args.bytes.now (record { small = λ i. (c.type_inv.bytes i).fits }) c.in_ok-message.message c.in_ok-message.ensures) c.write.ensures,
)
