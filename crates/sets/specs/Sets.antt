-- Sets of units. A stored set is a mask, a number whose bit x says whether unit x is in; a set that is spoken of is a predicate.
use Rattle.std.specs.Prelude.{◌≡◌, ℕ, ◌/◌, ◌%◌, ◌^◌, ◌<◌, ◌⊎◌, List, length, slice_index}

-- unit x is in the mask m
abbrev pub Has : ℕ → ℕ → Type 0
Has m x = m / 2 ^ x % 2 ≡ 1

-- a set that is spoken of: what it means to be in it
abbrev pub Set : Type 1
Set = ℕ → Type 0

-- each of the two facts gives the other
abbrev pub Same : Type 0 → Type 0 → Type 0
Same P Q = (P → Q) × (Q → P)

-- the mask has just the units of the set
abbrev pub Is : ℕ → Set → Type 0
Is m s = (x : ℕ) → Same (Has m x) (s x)

-- each unit of the first set is in the second
abbrev pub Inside : Set → Set → Type 0
Inside s t = (x : ℕ) → s x → t x

-- each unit of the mask is below n
abbrev pub Below : ℕ → ℕ → Type 0
Below n m = (x : ℕ) → Has m x → x < n

-- the fault set at place g of the list
abbrev pub fault_at : List ℕ → ℕ → Set
fault_at faults g = Has (slice_index faults g)

-- bearable: the set lies inside one listed fault set
abbrev pub Bearable : List ℕ → Set → Type 0
Bearable faults s = (g : ℕ) × (g < length faults) × Inside s (fault_at faults g)

-- basic: not bearable
abbrev pub Basic : List ℕ → Set → Type 0
Basic faults s = ¬ (Bearable faults s)

-- large: no two listed fault sets together cover the set; one may be taken twice
abbrev pub Large : List ℕ → Set → Type 0
Large faults s = (g h : ℕ) → g < length faults → h < length faults → ¬ (Inside s (λ x. fault_at faults g x ⊎ fault_at faults h x))
