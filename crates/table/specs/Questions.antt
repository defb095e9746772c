-- The questions that a table is asked, in their order, and what each asks of each place.
use Rattle.std.specs.Prelude.{◌≡◌, ℕ, ◌-◌, ◌<◌, ◌≤◌, ◌⊎◌, [], ◌∷◌, length, slice_index, slice_index_or}
use Rattle.base.specs.Limits.{units_most, fault_sets_most, quorums_most}
use Rattle.sets.specs.Sets.{Has, Is, Below, Basic, Large}
use Rattle.table.specs.Tables.{Quorum, QuorumTable, IsQuorum, quorum_at, In, class_of, Class1, Shared2}
use Rattle.table.specs.Faults.{table_says}
use Rattle.table.specs.declared.fault.TableFault.{TableFault}
use Rattle.table.specs.declared.question.Question.{Question}
use Rattle.table.specs.declared.question.Question.TheVariants as asked
use Rattle.table.specs.declared.question.PairQuestion.{PairQuestion}
use Rattle.table.specs.declared.question.PairQuestion.TheVariants as pairs
use Rattle.table.specs.declared.fault.TableFault.TheVariants as faults

-- the question of each number, from 1 on
abbrev pub question_of : ℕ → Question
question_of number =
    slice_index_or
    (
    asked.Units
    ∷ asked.FaultSetCount
    ∷ asked.FaultSet
    ∷ asked.QuorumCount
    ∷ asked.Entry
    ∷ asked.Pairs pairs.Differ
    ∷ asked.Pairs pairs.First
    ∷ asked.Pairs pairs.Second
    ∷ asked.Pairs pairs.Third
    ∷ []
    )
    (number - 1) asked.Units

-- how many places a question has
abbrev pub places_of : Question → QuorumTable → ℕ
places_of asked.Units tb = 1
places_of asked.FaultSetCount tb = 1
places_of asked.FaultSet tb = length tb.faults
places_of asked.QuorumCount tb = 1
places_of asked.Entry tb = length tb.quorums
places_of (asked.Pairs pair) tb = length tb.quorums

-- the fault that an offence at a place is
abbrev pub fault_of : Question → ℕ → TableFault
fault_of asked.Units place = faults.Units
fault_of asked.FaultSetCount place = faults.FaultSetCount
fault_of asked.FaultSet place = faults.FaultSet place
fault_of asked.QuorumCount place = faults.QuorumCount
fault_of asked.Entry place = faults.Entry place
fault_of (asked.Pairs pairs.Differ) place = faults.Repeated place
fault_of (asked.Pairs pairs.First) place = faults.FirstProperty place
fault_of (asked.Pairs pairs.Second) place = faults.SecondProperty place
fault_of (asked.Pairs pairs.Third) place = faults.ThirdProperty place

-- the quorum names a unit, only units below n, and class 1 to 3
abbrev pub FineEntry : ℕ → Quorum → Type 0
FineEntry n q = ((x : ℕ) × Has q.set x) × Below n q.set × ((1 ≤ q.class) × (q.class ≤ 3))

-- the pair of quorums p and q differs as sets; only the pairs with p below q are asked
abbrev pub Differ : QuorumTable → ℕ → ℕ → Type 0
Differ tb p q = p < q → ¬ (Is (quorum_at tb p).set (In tb q))

-- the two quorums share a large set with every quorum
abbrev pub LargeWithAll : QuorumTable → Quorum → Quorum → Type 0
LargeWithAll tb a b = (q : ℕ) → IsQuorum tb q → Large tb.faults (λ x. Has a.set x × Has b.set x × In tb q x)

-- the two meet the second property with every quorum
abbrev pub Second : QuorumTable → Quorum → Quorum → Type 0
Second tb a b = a.class ≡ 1 → b.class ≡ 1 → LargeWithAll tb a b

-- each class 1 quorum shares a basic set with both
abbrev pub Class1Basic : QuorumTable → Quorum → Quorum → Type 0
Class1Basic tb a b = (f : ℕ) → IsQuorum tb f → class_of tb f ≡ 1 → Basic tb.faults (λ x. In tb f x × Has a.set x × Has b.set x)

-- class 1 is not empty, and each class 1 quorum shares a basic set with both
abbrev pub Helped : QuorumTable → Quorum → Quorum → Type 0
Helped tb a b = ((f : ℕ) × Class1 tb f) × Class1Basic tb a b

-- the two meet the third property
abbrev pub Third : QuorumTable → Quorum → Quorum → Type 0
Third tb a b = a.class ≤ 2 → Large tb.faults (λ x. Has a.set x × Has b.set x) ⊎ Helped tb a b

-- what is asked of the quorums at places p and q
abbrev pub FinePair : PairQuestion → QuorumTable → ℕ → ℕ → Type 0
FinePair pairs.Differ tb p q = Differ tb p q
FinePair pairs.First tb p q = Basic tb.faults (Shared2 tb p q)
FinePair pairs.Second tb p q = Second tb (quorum_at tb p) (quorum_at tb q)
FinePair pairs.Third tb p q = Third tb (quorum_at tb p) (quorum_at tb q)

-- no pair or triple that begins at place p offends
abbrev pub FinePairs : PairQuestion → QuorumTable → ℕ → Type 0
FinePairs pair tb p = (q : ℕ) → IsQuorum tb q → FinePair pair tb p q

-- the place gives the question no offence; of pairs and triples the place is that of the first quorum
abbrev pub Fine : Question → QuorumTable → ℕ → Type 0
Fine asked.Units tb i = (1 ≤ tb.units) × (tb.units ≤ units_most)
Fine asked.FaultSetCount tb i = (1 ≤ length tb.faults) × (length tb.faults ≤ fault_sets_most)
Fine asked.FaultSet tb i = Below tb.units (slice_index tb.faults i)
Fine asked.QuorumCount tb i = (1 ≤ length tb.quorums) × (length tb.quorums ≤ quorums_most)
Fine asked.Entry tb i = FineEntry tb.units (quorum_at tb i)
Fine (asked.Pairs pair) tb i = FinePairs pair tb i

abbrev pub AllFine : Question → QuorumTable → Type 0
AllFine question tb = (i : ℕ) → i < places_of question tb → Fine question tb i

-- the place offends, and none before it does
pub record FirstUnfit (question : Question) (tb : QuorumTable) (i : ℕ) : Type 0 where
  pub place : i < places_of question tb
  pub offends : Fine question tb i → ⊥
  pub before : (k : ℕ) → k < i → Fine question tb k

-- the fault that the check finds: the question of its number has its first offence at its place, and the questions before it have none
pub record Found (tb : QuorumTable) (fault : TableFault) : Type 0 where
  pub unfit : FirstUnfit (question_of (table_says fault).number) tb (table_says fault).place
  pub earlier : (k : ℕ) → 1 ≤ k → k < (table_says fault).number → AllFine (question_of k) tb
