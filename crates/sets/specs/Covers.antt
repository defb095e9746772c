-- Half of the test for large sets: what one mask and one listed fault set cover.
use Rattle.std.specs.Prelude.{ℕ, ◌<◌, ◌⊎◌, List, length}
use Rattle.sets.specs.Sets.{Has, Set, Inside, fault_at}

-- the mask with one listed fault set covers the set
abbrev pub CoveredWith : List ℕ → ℕ → Set → Type 0
CoveredWith faults m s = (h : ℕ) × (h < length faults) × Inside s (λ x. Has m x ⊎ fault_at faults h x)
