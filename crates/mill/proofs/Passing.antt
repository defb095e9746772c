-- A proper table passes.
use Rattle.std.proofs.Common.{◌≡◌, Ok, Err, Result, MatchResult, IsOk, refl}
use Rattle.table.specs.Tables.{QuorumTable, Proper}
use Rattle.table.specs.Questions.{Found}
use Rattle.table.specs.Means.{means}
use Rattle.table.specs.declared.fault.TableFault.{TableFault}
use Rattle.table.specs.declared.passed.Passed.{Passed}

pub passes : (tb : QuorumTable) (r : Result Passed TableFault)
    → MatchResult r (λ p. (means p ≡ tb) × Proper tb) (λ e. Found tb e × (Proper tb → ⊥)) → Proper tb → IsOk r
passes tb (Ok p) answer proper = refl
passes tb (Err e) answer proper = absurd (answer.1 proper)
