use Rattle.std.proofs.Common.{◌≡◌, ℕ, ◌<◌, ◌≤◌, [], length, get_or, set}
use Rattle.rows.specs.Rows.{row_in}
use Rattle.unit.proofs.reports.file_report.Given as goal

-- the rows below v are filed, the others are as they were
abbrev pub invariant-loop-v : goal.invariant-loop-v
invariant-loop-v l = record {
  long : length l.grid ≡ length l.initial.grid;
  filed : (k : ℕ) → k < l.v → get_or l.grid k [] ≡ set (get_or l.initial.grid k []) l.sender (row_in l.rows k);
  left : (k : ℕ) → l.v ≤ k → get_or l.grid k [] ≡ get_or l.initial.grid k [];
}
