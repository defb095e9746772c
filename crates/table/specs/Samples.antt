-- Worked samples of the check.
use Rattle.std.specs.Prelude.{ℕ, List, [], ◌∷◌, Some, None, Option, MatchOption}
use Rattle.std.specs.List.{AllByRecursion}
use Rattle.table.specs.Tables.{Quorum, QuorumTable, table_of, Proper}
use Rattle.table.specs.Questions.{Found}
use Rattle.table.specs.declared.fault.TableFault.{TableFault}
use Rattle.table.specs.declared.fault.TableFault.TheVariants.{FirstProperty, SecondProperty, ThirdProperty}

-- a table, and the fault that its check finds, if any
pub record Sample : Type 0 where
  pub table : QuorumTable
  pub verdict : Option TableFault

abbrev pub quorum : ℕ → ℕ → Quorum
quorum set class = record { set = set; class = class }

abbrev pub sample : ℕ → List ℕ → List Quorum → Option TableFault → Sample
sample n faults quorums verdict = record { table = table_of n faults quorums; verdict = verdict }

-- any one of four units may be false
abbrev pub one_of_four : List ℕ
one_of_four = 1 ∷ 2 ∷ 4 ∷ 8 ∷ []

-- units 0 and 1 may be false together, or any other one of five alone
abbrev pub two_together : List ℕ
two_together = 3 ∷ 4 ∷ 8 ∷ 16 ∷ []

abbrev pub samples : List Sample
samples =
    sample 4 one_of_four (quorum 15 1 ∷ quorum 7 2 ∷ quorum 11 2 ∷ quorum 13 2 ∷ quorum 14 2 ∷ []) None
    ∷ sample 4 one_of_four (quorum 15 1 ∷ quorum 7 1 ∷ quorum 11 2 ∷ quorum 13 2 ∷ quorum 14 2 ∷ []) (Some (SecondProperty 0))
    ∷ sample 3 (1 ∷ 2 ∷ 4 ∷ []) (quorum 3 3 ∷ quorum 5 3 ∷ quorum 6 3 ∷ []) (Some (FirstProperty 0))
    ∷ sample 5 two_together (quorum 31 1 ∷ quorum 15 2 ∷ quorum 23 2 ∷ quorum 27 2 ∷ quorum 28 2 ∷ []) None
    ∷ sample 5 two_together (quorum 15 2 ∷ quorum 23 2 ∷ quorum 27 2 ∷ quorum 28 2 ∷ []) (Some (ThirdProperty 0))
    ∷ []

-- the sample's table passes, or has just this fault
abbrev pub Holds : Sample → Type 0
Holds s = MatchOption s.verdict (Proper s.table) (λ e. Found s.table e)

abbrev pub SamplesHold : Type 0
SamplesHold = AllByRecursion Holds samples
