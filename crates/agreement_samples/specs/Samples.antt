-- Worked runs of four units: agreement is not empty, and its last promise is sharp.
use Rattle.std.specs.Prelude.{◌≡◌, ℕ, Bool, true, false, List, [], ◌∷◌, Some, None, Option}
use Rattle.base.specs.Limits.{views}
use Rattle.sets.specs.Sets.{Has, Bearable}
use Rattle.table.specs.Tables.{Proper}
use Rattle.rows.specs.declared.rule.Rule.{Rule}
use Rattle.rows.specs.declared.rule.Rule.TheVariants as rules
use Rattle.rows.specs.Said.{Said, says_put, says_row, says_report}
use Rattle.choice.specs.Samples.{four_units, A, B, says}
use Rattle.choice.specs.declared.choice.Choice.TheVariants.{Torn}
use Rattle.unit.specs.declared.announcement.Announcement.{Announcement}
use Rattle.unit.specs.Reported.{FullyReported, choice_at}
use Rattle.unit.specs.Acts.{raising, receiving}
use Rattle.agreement.specs.Runs.{Deed, deed, Sound, Run, worked}

-- a row of view 0 with ticket A
abbrev pub row : ℕ → Bool → Said
row set mark = says_row 0 (record { ticket = A; set = set; mark = mark })

abbrev pub hears : ℕ → ℕ → Said → Deed
hears u x said = deed u (receiving x said)

-- unit 0 is false
abbrev pub false_leader : ℕ
false_leader = 1

-- the false leader's put reaches the others; unit 1 hears all four, unit 2 hears quorum 7 with its place (1) in each set,
-- unit 3 hears quorum 13 with marks, but not its place (3) in the false unit's set
abbrev pub three_rules : List Deed
three_rules =
    hears 1 0 (says_put 0 A)
    ∷ hears 2 0 (says_put 0 A)
    ∷ hears 3 0 (says_put 0 A)
    ∷ hears 1 0 (row 0 false)
    ∷ hears 1 1 (row 0 false)
    ∷ hears 1 2 (row 0 false)
    ∷ hears 1 3 (row 0 false)
    ∷ hears 2 0 (row 2 false)
    ∷ hears 2 1 (row 2 false)
    ∷ hears 2 2 (row 0 false)
    ∷ hears 2 2 (row 2 false)
    ∷ hears 3 0 (row 1 true)
    ∷ hears 3 2 (row 2 true)
    ∷ hears 3 3 (row 0 false)
    ∷ hears 3 3 (row 8 false)
    ∷ hears 3 3 (row 8 true)
    ∷ []

abbrev pub by_rule : Rule → Option Announcement
by_rule rule = Some (record { ticket = A; view = 0; rule = rule })

-- three units announce one ticket, each by another rule
pub record ThreeRules : Type 0 where
  pub proper : Proper four_units
  pub bearable : Bearable four_units.faults (Has false_leader)
  pub run : Run views four_units false_leader (worked views four_units three_rules)
  pub first : ((worked views four_units three_rules).units 1).announced ≡ by_rule rules.First
  pub second : ((worked views four_units three_rules).units 2).announced ≡ by_rule rules.Second
  pub third : ((worked views four_units three_rules).units 3).announced ≡ by_rule rules.Third

-- units 1 and 2 hold A in view 0 and go to view 1; the false unit 0 reports B with the place of quorum 11 (2)
abbrev pub torn_reports : List Deed
torn_reports =
    hears 1 0 (says_put 0 A)
    ∷ hears 2 0 (says_put 0 A)
    ∷ deed 1 (raising 1)
    ∷ deed 2 (raising 1)
    ∷ hears 1 1 (says_report 1 (says A 0 ∷ None ∷ None ∷ None ∷ None ∷ None ∷ None ∷ None ∷ []))
    ∷ hears 1 2 (says_report 1 (says A 0 ∷ None ∷ None ∷ None ∷ None ∷ None ∷ None ∷ None ∷ []))
    ∷ hears 1 0 (says_report 1 (says B 4 ∷ None ∷ None ∷ None ∷ None ∷ None ∷ None ∷ None ∷ []))
    ∷ []

-- with a false unit among the reporters of quorum 7 (at place 1) the choice can be torn
pub record FalseReporterTears : Type 0 where
  pub proper : Proper four_units
  pub bearable : Bearable four_units.faults (Has false_leader)
  pub run : Run views four_units false_leader (worked views four_units torn_reports)
  pub sound : Sound four_units false_leader 1
  pub full : FullyReported four_units ((worked views four_units torn_reports).units 1) 1
  pub torn : choice_at four_units ((worked views four_units torn_reports).units 1) 1 ≡ Torn
