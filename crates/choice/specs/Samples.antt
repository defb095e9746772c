-- Worked samples of the choice, from the reports of quorum 7 of the table with any one of four units false.
use Rattle.std.specs.Prelude.{◌≡◌, ℕ, false, List, [], ◌∷◌, Some, None, Option}
use Rattle.std.specs.List.{AllByRecursion}
use Rattle.table.specs.Tables.{QuorumTable, table_of}
use Rattle.table.specs.Samples.{quorum, one_of_four}
use Rattle.ticket.specs.declared.writing.Writing.{Writing}
use Rattle.rows.specs.declared.row.Row.{Row}
use Rattle.rows.specs.Rows.{Grid}
use Rattle.choice.specs.Chosen.{choice_of}
use Rattle.choice.specs.declared.choice.Choice.{Choice}
use Rattle.choice.specs.declared.choice.Choice.TheVariants.{Free, Only, Torn}

abbrev pub four_units : QuorumTable
four_units = table_of 4 one_of_four (quorum 15 1 ∷ quorum 7 2 ∷ quorum 11 2 ∷ quorum 13 2 ∷ quorum 14 2 ∷ [])

-- two tickets
abbrev pub A : Writing
A = record { a = 1; b = 0; c = 0; d = 0 }

abbrev pub B : Writing
B = record { a = 2; b = 0; c = 0; d = 0 }

-- a row with a ticket and a set, and no mark
abbrev pub says : Writing → ℕ → Option Row
says t set = Some (record { ticket = t; set = set; mark = false })

-- the reports' rows of units 0, 1 and 2, by view; the view; the choice
pub record Sample : Type 0 where
  pub kept : Grid
  pub view : ℕ
  pub choice : Choice Writing

abbrev pub sample : Grid → ℕ → Choice Writing → Sample
sample kept view choice = record { kept = kept; view = view; choice = choice }

abbrev pub samples : List Sample
samples =
    sample ((says A 0 ∷ says A 0 ∷ says A 0 ∷ []) ∷ []) 1 (Only A)
    ∷ sample ((says A 0 ∷ says A 0 ∷ says B 0 ∷ []) ∷ []) 1 (Only A)
    ∷ sample ((says A 0 ∷ says B 0 ∷ None ∷ []) ∷ []) 1 Free
    ∷ sample ((says A 0 ∷ says A 0 ∷ says B 16 ∷ []) ∷ []) 1 Torn
    ∷ sample ((says A 0 ∷ says A 0 ∷ says A 0 ∷ []) ∷ (says B 0 ∷ says B 0 ∷ None ∷ []) ∷ []) 2 (Only B)
    ∷ []

-- quorum 7 stands at place 1
abbrev pub Holds : Sample → Type 0
Holds s = choice_of four_units 1 s.kept s.view ≡ s.choice

abbrev pub SamplesHold : Type 0
SamplesHold = AllByRecursion Holds samples
