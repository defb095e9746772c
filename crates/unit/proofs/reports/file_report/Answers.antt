use Rattle.std.proofs.Common.{[], arith}
use Rattle.std.proofs.lemmas.Grind.{common_steps}
use Rattle.std.proofs.lemmas.List.{ext_get_or}
use Rattle.unit.proofs.Filing.{length_filed, filed_at}
use Rattle.unit.proofs.reports.file_report.Goals as goal

pub returns : goal.returns
returns c =
    ext_get_or [] _ _ (grind (arith, length_filed, c.loop-v.invariant.long))
    (λ k lt. grind (arith, common_steps, filed_at, c.loop-v.invariant.filed k))
