-- The slot that stands there holds the packet at that place.
use Rattle.bus.proofs.Entries.{stands_waits, slot_at}
use Rattle.bus.proofs.bus.BusStore.slot_of.Goals as goal

pub returns : goal.returns
returns c =
    let b = c.args.self.now in
    let at = c.in_ok-at.ensures in
    (stands_waits b _ _ _ at, slot_at b _ _ _ at _)
