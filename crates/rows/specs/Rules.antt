-- The three rules: for which quorums each is, and what it asks of each row.
use Rattle.std.specs.Prelude.{◌≡◌, ℕ, ◌≤◌}
use Rattle.std.proofs.Math.Decide.{ℕ_discrete, dec_le}
use Rattle.rows.specs.Rows.{Writing, Row, Test, For, ForAt, ForMarked}
use Rattle.rows.specs.Decided.{for?, for_at?, for_marked?}
use Rattle.rows.specs.declared.asked.Test.TheVariants as tests
pub use Rattle.rows.specs.declared.rule.Rule.{Rule}
use Rattle.rows.specs.declared.rule.Rule.TheVariants as rules

-- the rule is for quorums of this class
abbrev pub Ranked : Rule → ℕ → Type 0
Ranked rules.First class = class ≡ 1
Ranked rules.Second class = class ≤ 2
Ranked rules.Third class = Unit {0}

-- the row is one that the rule asks of each unit of the quorum at place p
abbrev pub Needed : Rule → ℕ → Writing → Row → Type 0
Needed rules.First p t r = For t r
Needed rules.Second p t r = ForAt t p r
Needed rules.Third p t r = ForMarked t r

abbrev pub test_of : Rule → ℕ → Test
test_of rules.First p = tests.Ticket
test_of rules.Second p = tests.Place p
test_of rules.Third p = tests.Marked

abbrev pub ranked? : (rule : Rule) (class : ℕ) → Dec (Ranked rule class)
ranked? rules.First class = ℕ_discrete class 1
ranked? rules.Second class = dec_le class 2
ranked? rules.Third class = yes tt

abbrev pub needed? : (rule : Rule) (p : ℕ) (t : Writing) (r : Row) → Dec (Needed rule p t r)
needed? rules.First p t r = for? t r
needed? rules.Second p t r = for_at? t p r
needed? rules.Third p t r = for_marked? t r
