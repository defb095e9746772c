-- The slot that takes the packet in is the next one of all.
use Rattle.std.proofs.Common.{◌<◌, length, rules, arith}
use Rattle.bus.proofs.Entries.{shared_places, posted}
use Rattle.bus.proofs.bus.BusStore.lay.Goals as goal

pub returns : goal.returns
returns c =
    let b = c.args.self.now in
    let room : b.used < length b.slots.now = omega (arith, b.memory, c.if-self.false) in (
      (c.if-to-self.false, omega (arith, c.if-self.false)),
      posted b _ room _ _ _ c.hold.ensures.to c.hold.ensures.packet,
      (b.places, shared_places _ _ _ _ b.memory b.within b.addressed, shared_places _ _ _ _ (search rules) (search rules) (search rules)),
    )
