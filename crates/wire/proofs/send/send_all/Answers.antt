-- Each turn adds one post to the chain.
use Rattle.std.proofs.Common.{◌<◌, refl, ap, ◌∙◌, arith}
use Rattle.wire.specs.Sends.{none}
use Rattle.wire.proofs.Chains.{laid_more, lost_more, only_full}
use Rattle.wire.proofs.send.send_all.Goals as goal
use Rattle.wire.proofs.send.send_all.Goals.{in-Ok, in-Err}

pub loop-to-init : goal.loop-to-init
loop-to-init g c = record { every = refl; served = refl; chain = none }

pub loop-to-preserved : goal.loop-to-preserved
loop-to-preserved g c =
    let means = g.W.Wire.means in
    let so_far = c.loop-to.invariant in
    let s : c.args.from < (means c.loop-to.wire).served = omega (arith, so_far.served, c.served-served.ensures) in
    let t : c.loop-to.to < (means c.loop-to.wire).served = omega (arith, so_far.served, c.served-served.ensures) in
    elim c.match-post.branch [
      | in-Ok w ↦
          let h = w.in-Ok.ensures in
          record {
            every = omega (arith, so_far.every);
            served = h.1.served ∙ so_far.served;
            chain = rw (w.laid-is, w.lost-is) (laid_more g.W.Wire.rule _ _ _ _ _ _ _ so_far.chain _ h);
          }
      | in-Err w ↦
          let h = w.in-Err.ensures in
          let full = only_full g.W.Wire.rule _ _ _ _ _ _ _ so_far.chain _ s t (omega arith) h.0 in
          record {
            every = omega (arith, so_far.every);
            served = ap (λ m. m.served) h.1 ∙ so_far.served;
            chain = rw (w.laid-is, w.lost-is) (lost_more g.W.Wire.rule _ _ _ _ _ _ _ so_far.chain _ h.1 full);
          }
    ]
