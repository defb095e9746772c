use Rattle.std.proofs.Common.{ℕ}
use Rattle.rows.specs.Rows.{cell, Holds}
use Rattle.rows.specs.Rules.{Needed}
use Rattle.table.specs.Means.{means}
use Rattle.rows.proofs.Facts.{needed_is}
use Rattle.choice.proofs.Masks.{outside_tells}
use Rattle.choice.proofs.lives.Reports.all_but.Goals as goal

pub returns : goal.returns
returns c =
    let r = c.args.self.now in
    outside_tells (means r.passed.now).faults _ _ _ _ _ (λ (x : ℕ). Holds (cell r.grid.now r.earlier x) (Needed c.args.rule c.args.p c.args.ticket))
    (rw (c.units_of.ensures, c.units.ensures) at c.shared-both.ensures)
    (needed_is c.args.rule c.args.p _ c.args.ticket (cell r.grid.now r.earlier) _ c.test_of.ensures (rw c.rows.ensures at c.senders-so.ensures))
    c.without.ensures _ c.bearable.ensures
