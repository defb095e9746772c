use Rattle.std.proofs.Common.{refl}
use native.Mathlib.Decide.{ℕ_discrete, dec_le, dec_lt}
use Rattle.sets.specs.Decisions.{all?, some?}
use Rattle.choice.specs.Chosen.{choice_of}
use Rattle.choice.proofs.laws.samples_hold.Goals as goal

pub returns : goal.returns
unfolding choice_of all? some? ℕ_discrete dec_le dec_lt
returns c = (refl, (refl, (refl, (refl, (refl, tt)))))
