use Rattle.std.proofs.Common.{inl, inr}
use Rattle.std.proofs.lemmas.Bool.Decides.{not_from_Decides}
use Rattle.table.specs.Tables.{In}
use Rattle.table.specs.Means.{means}
use Rattle.rows.specs.Rows.{cell, Holds, AgainstFilled}
use Rattle.choice.specs.Reports.{Later}
use Rattle.choice.proofs.Masks.{part_tells}
use Rattle.choice.proofs.lives.Reports.barred.Goals as goal

pub returns-else-basic_part : goal.returns-else-basic_part
returns-else-basic_part c =
    let r = c.args.self.now in
    let p = In (means r.passed.now) r.quorum in
    let d = part_tells (means r.passed.now).faults p (λ x. Holds (cell r.grid.now r.earlier x) (AgainstFilled c.args.ticket)) _
    (rw c.rows.ensures at c.senders-rivals.ensures) _ c.basic_part.ensures in
    let e = part_tells (means r.passed.now).faults p (Later r.grid.now r.view r.earlier c.args.ticket) _ c.later.ensures _ c.basic_part-else-basic_part.ensures in
    (λ t. inr (e.0 t), λ b. elim b [ inl a ↦ absurd (not_from_Decides _ d c.if-basic_part.false a) | inr l ↦ e.1 l ])
