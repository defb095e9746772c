-- The slot that takes the packet in is the unit's next one.
use Rattle.std.proofs.Common.{rules, arith}
use Rattle.boxes.proofs.Places.{own_places, posted}
use Rattle.boxes.proofs.boxes.BoxesStore.lay.Goals as goal

pub returns : goal.returns
returns c =
    let b = c.args.self.now in
    let n = c.in_ok-n.ensures in (
      (n.0, omega (arith, n.1)),
      posted b _ _ n.0 (omega (arith, n.0)) n.1 _ _ _ c.hold.ensures c.if-n-self.false,
      (b.places, own_places _ _ _ _ b.memory b.counted, own_places _ _ _ _ (search rules) (search rules)),
    )
