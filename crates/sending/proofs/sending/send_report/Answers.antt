use Rattle.std.proofs.Common.{◌≡◌, sym, ap, ap₂, ◌∙◌}
use Rattle.unit.specs.States.{means as state_of, below}
use Rattle.unit.specs.Sending.{only_if, report_said}
use Rattle.sending.proofs.Backs.{below_twice}
use Rattle.sending.proofs.Going.{went_none}
use Rattle.sending.proofs.sending.send_report.Goals as goal

pub returns-then-not-wanted : goal.returns-then-not-wanted
returns-then-not-wanted g c =
    let a = g.W.Wire.means c.args.wire.now in
    went_none g.W.Wire.rule a.served c.args.me (only_if c.args.wanted (report_said (state_of c.args.unit.now))) a (ap (λ b. only_if b (report_said (state_of c.args.unit.now))) c.if-not-wanted.true)

pub send-requires-clause-own : goal.send-requires-clause-own
send-requires-clause-own g c =
    let s = state_of c.args.unit.now in
    let v = c.view.ensures.is in
    let r = c.report-rows.ensures in
    let only : below c.view.result c.report-rows.result ≡ c.report-rows.result = ap₂ below v r ∙ below_twice s.view s.own ∙ sym r in
    (c.view.ensures.low, c.rows_fit.ensures, only)
