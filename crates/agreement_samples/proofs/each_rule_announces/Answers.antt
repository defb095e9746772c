use Rattle.base.specs.Limits.{views}
use Rattle.choice.specs.Samples.{four_units}
use Rattle.table.proofs.Trials.{samples_hold}
use Rattle.agreement.specs.Runs.{start, begin}
use Rattle.agreement_samples.specs.Samples.{three_rules}
use Rattle.agreement_samples.proofs.Worked.{done, rules_possible, the_rules, the_bearable}
use Rattle.agreement_samples.proofs.each_rule_announces.Goals as goal

pub returns : goal.returns
returns c = record {
  proper = samples_hold.0;
  bearable = the_bearable;
  run = done (start views four_units) three_rules begin rules_possible;
  first = the_rules.0;
  second = the_rules.1;
  third = the_rules.2;
}
