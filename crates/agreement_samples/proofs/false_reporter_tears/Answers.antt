use Rattle.base.specs.Limits.{views}
use Rattle.choice.specs.Samples.{four_units}
use Rattle.table.proofs.Trials.{samples_hold}
use Rattle.agreement.specs.Runs.{start, begin}
use Rattle.agreement_samples.specs.Samples.{torn_reports}
use Rattle.agreement_samples.proofs.Worked.{s1, done, torn_possible, the_torn, the_full, the_bearable}
use Rattle.agreement_samples.proofs.false_reporter_tears.Goals as goal

pub returns : goal.returns
returns c = record {
  proper = samples_hold.0;
  bearable = the_bearable;
  run = done (start views four_units) torn_reports begin torn_possible;
  sound = s1;
  full = the_full;
  torn = the_torn;
}
