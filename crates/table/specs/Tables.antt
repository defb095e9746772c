-- Tables of fault sets and quorums, and the properties that a table must have.
use Rattle.std.specs.Prelude.{◌≡◌, ℕ, ◌<◌, ◌≤◌, ◌⊎◌, List, length, slice_index, slice_index_or}
use Rattle.base.specs.Limits.{units_most, fault_sets_most, quorums_most}
use Rattle.sets.specs.Sets.{Has, Set, Is, Below, Basic, Large}
pub use Rattle.table.specs.declared.quorum.Quorum.{Quorum}

abbrev pub no_quorum : Quorum
no_quorum = record { set = 0; class = 0 }

-- what a table means: how many units there are, the listed fault sets and the listed quorums
pub record QuorumTable : Type 0 where
  pub units : ℕ
  pub faults : List ℕ
  pub quorums : List Quorum

abbrev pub table_of : ℕ → List ℕ → List Quorum → QuorumTable
table_of n fs qs = record { units = n; faults = fs; quorums = qs }

-- p is the place of a listed quorum, counted from 0
abbrev pub IsQuorum : QuorumTable → ℕ → Type 0
IsQuorum tb p = p < length tb.quorums

abbrev pub quorum_at : QuorumTable → ℕ → Quorum
quorum_at tb p = slice_index_or tb.quorums p no_quorum

-- unit x is in the quorum at place p
abbrev pub In : QuorumTable → ℕ → Set
In tb p x = Has (quorum_at tb p).set x

abbrev pub class_of : QuorumTable → ℕ → ℕ
class_of tb p = (quorum_at tb p).class

-- the quorum at place p is of class 1; of class 1 or 2
abbrev pub Class1 : QuorumTable → ℕ → Type 0
Class1 tb p = IsQuorum tb p × (class_of tb p ≡ 1)

abbrev pub Class12 : QuorumTable → ℕ → Type 0
Class12 tb p = IsQuorum tb p × (class_of tb p ≤ 2)

-- what two quorums share, and what three do
abbrev pub Shared2 : QuorumTable → ℕ → ℕ → Set
Shared2 tb p q x = In tb p x × In tb q x

abbrev pub Shared3 : QuorumTable → ℕ → ℕ → ℕ → Set
Shared3 tb p q r x = In tb p x × In tb q x × In tb r x

-- a table that passes: the bounds, and the three properties
pub record Proper (tb : QuorumTable) : Type 0 where
  pub units_bound : (1 ≤ tb.units) × (tb.units ≤ units_most)
  pub faults_bound : (1 ≤ length tb.faults) × (length tb.faults ≤ fault_sets_most)
  pub faults_below : (g : ℕ) → g < length tb.faults → Below tb.units (slice_index tb.faults g)
  pub quorums_bound : (1 ≤ length tb.quorums) × (length tb.quorums ≤ quorums_most)
  pub some_unit : (p : ℕ) → IsQuorum tb p → (x : ℕ) × In tb p x
  pub quorums_below : (p : ℕ) → IsQuorum tb p → Below tb.units (quorum_at tb p).set
  pub classes : (p : ℕ) → IsQuorum tb p → (1 ≤ class_of tb p) × (class_of tb p ≤ 3)
  pub all_differ : (p q : ℕ) → IsQuorum tb p → IsQuorum tb q → p < q → ¬ (Is (quorum_at tb p).set (In tb q))
  -- any two quorums, also one with itself, share a basic set
  pub first_property : (p q : ℕ) → IsQuorum tb p → IsQuorum tb q → Basic tb.faults (Shared2 tb p q)
  -- any two class 1 quorums, also one with itself, and any quorum share a large set
  pub second_property : (p p' q : ℕ) → Class1 tb p → Class1 tb p' → IsQuorum tb q → Large tb.faults (Shared3 tb p p' q)
  -- a quorum of class 1 or 2 and any quorum share a large set, or class 1 is not empty and each class 1 quorum shares a basic set with both
  pub third_property : (p q : ℕ) → Class12 tb p → IsQuorum tb q
      → Large tb.faults (Shared2 tb p q)
      ⊎ (((f : ℕ) × Class1 tb f) × ((f : ℕ) → Class1 tb f → Basic tb.faults (Shared3 tb f p q)))
