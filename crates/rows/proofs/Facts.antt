-- Facts on rows that hold.
use Rattle.std.proofs.Common.{◌≡◌, ℕ, zero, suc, ◌<◌, List, [], ◌∷◌, length, Some, None, Option, subst, arith}
use Rattle.sets.specs.Sets.{Is}
use Rattle.rows.specs.Rows.{Writing, Row, Test, row_in, Holds, For, Wanted}
use Rattle.rows.specs.Rules.{Rule, Needed, test_of}
use Rattle.rows.specs.declared.rule.Rule.TheVariants as rules

pub holds_map : (o : Option Row) (P Q : Row → Type 0) → ((r : Row) → P r → Q r) → Holds o P → Holds o Q
holds_map None P Q f h = h
holds_map (Some r) P Q f h = f r h

-- only a place within a list has a row
pub row_below : (rows : List (Option Row)) (x : ℕ) (P : Row → Type 0) → Holds (row_in rows x) P → x < length rows
row_below [] x P h = absurd h
row_below (r ∷ rows) zero P h = omega arith
row_below (r ∷ rows) (suc x) P h = let k = row_below rows x P h in omega arith

-- the rows that a rule's test finds are those that the rule asks
pub needed_is : (rule : Rule) (p m : ℕ) (t : Writing) (rows : ℕ → Option Row) (test : Test) → test ≡ test_of rule p
    → Is m (λ x. Holds (rows x) (Wanted test t)) → Is m (λ x. Holds (rows x) (Needed rule p t))
needed_is rules.First p m t rows test e is = subst (λ (z : Test). Is m (λ x. Holds (rows x) (Wanted z t))) e is
needed_is rules.Second p m t rows test e is = subst (λ (z : Test). Is m (λ x. Holds (rows x) (Wanted z t))) e is
needed_is rules.Third p m t rows test e is = subst (λ (z : Test). Is m (λ x. Holds (rows x) (Wanted z t))) e is

-- whatever a rule asks of a row, the row has the ticket
pub needs_ticket : (rule : Rule) (p : ℕ) (t : Writing) (r : Row) → Needed rule p t r → For t r
needs_ticket rules.First p t r h = h
needs_ticket rules.Second p t r h = h.0
needs_ticket rules.Third p t r h = h.0
