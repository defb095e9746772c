-- With the later slots moved down, the unit's list lacks the one packet.
use Rattle.std.proofs.Common.{rules, arith}
use Rattle.bus.proofs.Entries.{shared_places, stands_waits, inside, dropped}
use Rattle.bus.proofs.bus.BusStore.take_out.Goals as goal

pub returns : goal.returns
returns c =
    let b = c.args.self.now in
    let at = c.in_ok-at.ensures in (
      stands_waits b _ _ _ at,
      dropped b _ _ _ at _ _ (omega (arith, inside b _ _ _ at)) c.copy_within.ensures.after,
      (b.places, shared_places _ _ _ _ b.memory b.within b.addressed, shared_places _ _ _ _ (search rules) (search rules) (search rules)),
    )
