use Rattle.std.proofs.Common.{◌≡◌, ℕ, ◌<◌, ◌⊎◌}
use Rattle.sets.specs.Sets.{Has}
use Rattle.unit.specs.Reported.{with_unit}
use Rattle.unit.proofs.Steps.{with_unit_is, same_units}
use Rattle.unit.proofs.state.ControlUnit.keep_report.Goals as goal

pub returns : goal.returns
returns c =
    let m = c.args.self.now.reported in
    let e : c.with-self.result ≡ with_unit m c.args.sender =
    same_units _ _ (λ (y : ℕ). Has m y ⊎ ((y ≡ c.args.sender) × (c.args.sender < 16))) c.with-self.ensures (with_unit_is m c.args.sender)
    in
    cc
