-- Laws of growth and announcement.
use Rattle.std.specs.Prelude.{◌≡◌, ℕ, Some, None, Option}
use Rattle.sets.specs.Sets.{Has, Same}
use Rattle.table.specs.Tables.{QuorumTable, IsQuorum}
use Rattle.ticket.specs.declared.writing.Writing.{Writing}
use Rattle.rows.specs.declared.row.Row.{Row}
use Rattle.rows.specs.declared.rule.Rule.{Rule}
use Rattle.rows.specs.declared.rule.Rule.TheVariants as rules
use Rattle.rows.specs.Rows.{For}
use Rattle.growth.specs.Growth.{Entire, grown_set, grown, Met, least_rule}

-- the grown set has just the listed quorums that were heard entire with the ticket
abbrev pub GrownSetIsHeardEntire : Type 0
GrownSetIsHeardEntire =
    (tb : QuorumTable) (h : ℕ → Option Row) (t : Writing) (p : ℕ) → Same (Has (grown_set tb h t) p) (IsQuorum tb p × Entire tb h p (For t))

-- growing a grown row changes nothing
abbrev pub GrownRowStays : Type 0
GrownRowStays = (tb : QuorumTable) (h : ℕ → Option Row) (r : Row) → grown tb h (grown tb h r) ≡ grown tb h r

-- what is said of the least rule: it is met, and no lesser one is
abbrev pub Least : QuorumTable → (ℕ → Option Row) → Writing → Option Rule → Type 0
Least tb h t None = (¬ (Met tb h rules.First t)) × (¬ (Met tb h rules.Second t)) × (¬ (Met tb h rules.Third t))
Least tb h t (Some rules.First) = Met tb h rules.First t
Least tb h t (Some rules.Second) = (¬ (Met tb h rules.First t)) × Met tb h rules.Second t
Least tb h t (Some rules.Third) = (¬ (Met tb h rules.First t)) × (¬ (Met tb h rules.Second t)) × Met tb h rules.Third t

abbrev pub LeastRuleIsLeast : Type 0
LeastRuleIsLeast = (tb : QuorumTable) (h : ℕ → Option Row) (t : Writing) → Least tb h t (least_rule tb h t)
