-- With the later slots moved down, the unit's list lacks the one packet.
use Rattle.std.proofs.Common.{refl, rules, arith}
use Rattle.boxes.proofs.Places.{own_places, dropped}
use Rattle.boxes.proofs.boxes.BoxesStore.take_out.Goals as goal

pub returns : goal.returns
returns c =
    let b = c.args.self.now in
    let at = c.in_ok-at.ensures in (
      at.0,
      dropped b _ _ at.0.0 (omega (arith, at.0.0)) refl _ _ _ _ at.1 at.2 (omega (arith, at.1, at.2)) c.copy_within.ensures.after,
      (b.places, own_places _ _ _ _ b.memory b.counted, own_places _ _ _ _ (search rules) (search rules)),
    )
