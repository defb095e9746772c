use Rattle.std.proofs.Common.{◌≡◌, ap, ◌∙◌, arith}
use Rattle.std.proofs.lemmas.Grind.{common_steps}
use Rattle.growth.proofs.Entirely.{pick_yes, pick_no}
use Rattle.table.specs.Means.{means as table_of}
use Rattle.unit.specs.States.{means}
use Rattle.unit.specs.Rules.{grow_at, announce}
use Rattle.unit.proofs.state.ControlUnit.take_row.Goals.{then-view-self, else-view-self}
use Rattle.unit.proofs.state.ControlUnit.take_row.Goals as goal

pub returns : goal.returns
returns c =
    let tb = table_of c.args.passed.now in
    let grown : means c.if-view-self.self ≡ grow_at tb c.args.view (means c.hear_row.new.self) =
    elim c.if-view-self.branch [ then-view-self w ↦ grind (arith, common_steps, pick_yes) | else-view-self w ↦ grind (arith, common_steps, pick_no) ]
    in
    c.test_announcement.ensures ∙ ap (announce tb c.args.view c.args.row.ticket) (grown ∙ ap (grow_at tb c.args.view) c.hear_row.ensures)
