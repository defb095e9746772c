use Rattle.std.proofs.Common.{inl, inr}
use Rattle.std.proofs.lemmas.Bool.Decides.{not_from_Decides}
use Rattle.sets.proofs.Sides.{large_of}
use Rattle.table.proofs.table.Table.large_or_helped.Goals as goal

pub returns-then-large : goal.returns-then-large
returns-then-large c = let d = large_of _ _ _ c.shared.ensures c.large.result c.large.ensures in (λ e. inl (d.0 e), λ _. c.if-large.true)

pub returns-else-large : goal.returns-else-large
returns-else-large c =
    let d = large_of _ _ _ c.shared.ensures c.large.result c.large.ensures in
    (λ e. inr (c.helped.ensures.0 e), λ k. elim k [ inl l ↦ absurd (not_from_Decides _ d c.if-large.false l) | inr h ↦ c.helped.ensures.1 h ])
