use Rattle.std.proofs.Common.{sym, ap, ◌∙◌, arith}
use Rattle.table.specs.Means.{means as table_of}
use Rattle.unit.specs.Reported.{shown_choice}
use Rattle.unit.specs.States.{State}
use Rattle.calls.proofs.Lent.{state_past}
use Rattle.calls.proofs.showing.choice_at.Goals as goal

-- past the last unit there is a fresh one
pub returns-in-None : goal.returns-in-None
returns-in-None c =
    let past = state_past c.args.units.now c.args.unit (omega (arith, c.in-None.ensures.lookup)) in
    c.choice-in-None.ensures ∙ ap (λ (s : State). shown_choice (table_of c.args.passed.now) s c.args.quorum) (c.fresh.ensures ∙ sym past)
