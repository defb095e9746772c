use Rattle.std.proofs.Common.{◌+◌, sym, subst, arith}
use Rattle.std.proofs.lemmas.Bool.Decides.{not_from_Decides}
use Rattle.sets.proofs.Bits.{has_below}
use Rattle.table.specs.Means.{means}
use Rattle.choice.specs.Chosen.{Chosen}
use Rattle.choice.specs.Steps.{Seen}
use Rattle.choice.proofs.Grows.{outside, silent, adds, view_done}
use Rattle.choice.proofs.lives.Reports.with_view.Goals.{then-has+in-Some, then-has+in_default, else-has}
use Rattle.choice.proofs.lives.Reports.with_view.Goals as goal

pub loop-x-preserved : goal.loop-x-preserved
loop-x-preserved c =
    let r = c.args.self.now in
    let tb = means r.passed.now in
    let G = Chosen (Seen tb r.quorum r.grid.now r.view r.earlier (c.loop-x.x + 1)) in
    elim c.if-has.branch [
      | then-has+in-Some w ↦
          subst G (sym w.choice-is)
          (adds tb r.quorum r.grid.now r.view r.earlier c.loop-x.x c.loop-x.choice c.loop-x.invariant w.in-Some.row _
          (rw c.units-units.ensures at (c.has.ensures.0 w.if-has.true)) (rw c.rows-said-items.ensures at w.in-Some.is) w.with_ticket-choice.ensures)
      | then-has+in_default w ↦
          subst G (sym w.choice-is)
          (silent tb r.quorum r.grid.now r.view r.earlier c.loop-x.x c.loop-x.choice c.loop-x.invariant (rw c.rows-said-items.ensures at w.in_default.is))
      | else-has w ↦
          subst G (sym w.choice-is)
          (outside tb r.quorum r.grid.now r.view r.earlier c.loop-x.x c.loop-x.choice c.loop-x.invariant
          (rw c.units-units.ensures at (not_from_Decides _ c.has.ensures w.if-has.false)))
    ]

pub returns : goal.returns
returns c =
    let r = c.args.self.now in
    view_done (means r.passed.now) r.quorum r.grid.now r.view r.earlier c.loop-x.x
    (λ y h. let lt = has_below 16 _ y c.units-units.type_inv (rw (← c.units-units.ensures) at h) in omega arith) c.loop-x.choice c.loop-x.invariant
