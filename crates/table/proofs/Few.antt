-- The bounds of a proper table, from the fact that it is one.
use mathlib.Core.HLevel.{⊥_prop}
use mathlib.Core.Logic.{∥∥₁_elim}
use Rattle.std.proofs.Common.{ℕ, ◌≤◌, length}
use native.Mathlib.Decide.{dec_le}
use Rattle.base.specs.Limits.{units_most, quorums_most}
use Rattle.table.specs.Tables.{QuorumTable, Proper}

module _ (tb : QuorumTable) (proper : ∥ Proper tb ∥₁) where
  bound : (n most : ℕ) → (Proper tb → n ≤ most) → n ≤ most
  bound n most few = elim (dec_le n most) [ yes le ↦ le | no more ↦ absurd (∥∥₁_elim proper ⊥_prop (λ p. more (few p))) ]

  pub some_units : 1 ≤ tb.units
  some_units = bound 1 tb.units (λ p. p.units_bound.0)

  pub few_units : tb.units ≤ units_most
  few_units = bound tb.units units_most (λ p. p.units_bound.1)

  pub few_quorums : length tb.quorums ≤ quorums_most
  few_quorums = bound (length tb.quorums) quorums_most (λ p. p.quorums_bound.1)
