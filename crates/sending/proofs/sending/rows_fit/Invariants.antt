-- The rows so far fit.
use Rattle.std.proofs.Common.{ℕ, ◌<◌, get_or, None}
use Rattle.sending.specs.Letters.{EntryFits}
use Rattle.sending.proofs.sending.rows_fit.Given as goal

abbrev pub invariant-loop-entry : goal.invariant-loop-entry
invariant-loop-entry l = (v : ℕ) → v < l.entry-index → EntryFits (get_or l.rows v None)
