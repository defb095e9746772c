use Rattle.std.proofs.Common.{refl, arith}
use Rattle.std.proofs.lemmas.Bool.Decides.{not_from_Decides}
use Rattle.table.specs.Means.{means}
use Rattle.rows.specs.Rows.{row_in, For}
use Rattle.growth.specs.Growth.{places_below}
use Rattle.growth.proofs.Entirely.{entire_tells, set_more, set_same}
use Rattle.growth.proofs.growing.Heard.grown_set.Goals.{then-inside, else-inside}
use Rattle.growth.proofs.growing.Heard.grown_set.Goals as goal

pub loop-p-init : goal.loop-p-init
unfolding places_below
loop-p-init c = refl

pub loop-p-preserved : goal.loop-p-preserved
loop-p-preserved c =
    let tb = means c.args.self.now.passed.now in
    let h = row_in c.args.self.now.rows.now in
    let t = c.args.self.now.ticket in
    let d = entire_tells tb h c.loop-p.p c.senders-holders.result (For t) c.senders-holders.ensures _ (rw c.quorums-quorum-items.ensures.is at c.inside.ensures) in
    elim c.if-inside.branch [
      | then-inside w ↦ set_more tb h t _ _ _ (omega arith) (d.0 w.if-inside.true) c.loop-p.invariant w.set-is
      | else-inside w ↦ set_same tb h t _ _ _ (not_from_Decides _ d w.if-inside.false) c.loop-p.invariant w.set-is
    ]
