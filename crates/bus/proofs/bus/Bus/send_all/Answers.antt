-- The generic send, and what the bus's rule says of it.
use Rattle.std.proofs.Common.{◌≡◌, min, refl}
use Rattle.wire.proofs.Chains.{sent_made}
use Rattle.bus.specs.Shared.{bus_rule}
use Rattle.bus.specs.Store.{means_of}
use Rattle.bus.proofs.Laid.{laid_while_free}
use Rattle.bus.proofs.bus.Bus.send_all.Goals as goal

pub returns-clause-laid : goal.returns-clause-laid
returns-clause-laid c =
    let a = means_of c.args.self.now in
    sent_made bus_rule a _ c.args.from c.args.n c.args.packet.now c.send_all.result (λ tally. tally.laid ≡ min c.args.n (a.free 0)) c.send_all.ensures
    (λ tally did. laid_while_free c.args.from c.args.packet.now a (λ u h. refl) c.args.n _ tally.laid tally.lost did.asked did.chain)
