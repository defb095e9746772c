-- Masks of what three quorums share.
use Rattle.std.proofs.Common.{ℕ}
use Rattle.sets.specs.Sets.{Has, Is}

-- the mask r of what m and c share, where m is what a and b share
module _ (a b c m r : ℕ) (is : Is m (λ x. Has a x × Has b x)) where
  pub three_last : Is r (λ x. Has m x × Has c x) → Is r (λ x. Has a x × Has b x × Has c x)
  three_last js x = (
    λ h. let k = (js x).0 h in let i = (is x).0 k.0 in (i.0, i.1, k.1),
    λ k. (js x).1 ((is x).1 (k.0, k.1), k.2),
  )

  pub three_first : Is r (λ x. Has c x × Has m x) → Is r (λ x. Has c x × Has a x × Has b x)
  three_first js x = (
    λ h. let k = (js x).0 h in let i = (is x).0 k.1 in (k.0, i.0, i.1),
    λ k. (js x).1 (k.0, (is x).1 (k.1, k.2)),
  )
