-- The generic send, and what the boxes' rule says of it.
use Rattle.std.proofs.Common.{◌≡◌}
use Rattle.wire.proofs.Chains.{sent_made}
use Rattle.boxes.specs.Rooms.{boxes_rule, with_room}
use Rattle.boxes.specs.Store.{means_of}
use Rattle.boxes.proofs.Laid.{laid_with_room}
use Rattle.boxes.proofs.boxes.Boxes.send_all.Goals as goal

pub returns-clause-laid : goal.returns-clause-laid
returns-clause-laid c =
    let a = means_of c.args.self.now in
    sent_made boxes_rule a _ c.args.from c.args.n c.args.packet.now c.send_all.result (λ tally. tally.laid ≡ with_room a c.args.n) c.send_all.ensures
    (λ tally did. laid_with_room c.args.from c.args.packet.now a c.args.n _ tally.laid tally.lost did.asked did.chain)
