-- Rows that grow, lists after a write, and what lasts of what was heard.
use Rattle.std.proofs.Common.{◌≡◌, ℕ, Bool, true, false, ◌||◌, ◌⊎◌, Some, None, Option, sym, refl, ap, ◌∙◌, subst, inl, inr}
use Rattle.sets.proofs.Bits.{or_has, has_or}
use Rattle.table.specs.Tables.{QuorumTable}
use Rattle.ticket.specs.declared.writing.Writing.{Writing}
use Rattle.rows.specs.declared.row.Row.{Row}
use Rattle.rows.specs.declared.rule.Rule.{Rule}
use Rattle.rows.specs.declared.rule.Rule.TheVariants as rules
use Rattle.rows.specs.Rows.{Grid, cell, Holds, For, ForAt, ForFilled, ForMarked}
use Rattle.rows.specs.Rules.{Needed}
use Rattle.growth.specs.Growth.{Entire, Met}
use Rattle.unit.specs.Rules.{joined, noted, with_cell}
pub use Rattle.unit.proofs.Writes.{set_cases, cell_cases}
pub use Rattle.unit.proofs.Growing.{grows_same, grows_then}
use Rattle.life.specs.Lives.{Grows, Up, IfAny, FoundedRow}

pub some_none : {A : Type 0} (a : A) → ◌≡◌ {A = Option A} (Some a) None → ⊥
some_none a e = cc

or_left : (a b : Bool) → a ≡ true → (a || b) ≡ true
or_left true b e = refl
or_left false b e = cc

or_either : (a b : Bool) → (a || b) ≡ true → (a ≡ true) ⊎ (b ≡ true)
or_either true b e = inl refl
or_either false b e = inr e

-- two rows as one say what the first says, and no more than both say
pub joined_grows : (a b : Row) → Grows a (joined a b)
joined_grows a b = record {
  ticket = refl;
  set = λ p h. has_or a.set b.set p (inl h);
  mark = λ e. or_left a.mark b.mark e;
}

pub joined_least : (a b c : Row) → Grows a c → Grows b c → Grows (joined a b) c
joined_least a b c k l = record {
  ticket = k.ticket;
  set = λ p h. elim (or_has a.set b.set p h) [ inl i ↦ k.set p i | inr i ↦ l.set p i ];
  mark = λ e. elim (or_either a.mark b.mark e) [ inl i ↦ k.mark i | inr i ↦ l.mark i ];
}

pub up_same : (o : Option Row) → Up o o
up_same None = tt
up_same (Some r) = grows_same r

pub up_is : (o o' : Option Row) → o' ≡ o → Up o o'
up_is o o' e = subst (λ (z : Option Row). Up o z) (sym e) (up_same o)

pub up_then : (a b c : Option Row) → Up a b → Up b c → Up a c
up_then None b c k l = tt
up_then (Some r) None c k l = absurd k
up_then (Some r) (Some r') None k l = l
up_then (Some r) (Some r') (Some r'') k l = grows_then r r' r'' k l

-- what holds of a row and of each that says more
abbrev pub Lasts : (Row → Type 0) → Type 0
Lasts P = (r r' : Row) → Grows r r' → P r → P r'

pub holds_up : (P : Row → Type 0) → Lasts P → (o o' : Option Row) → Up o o' → Holds o P → Holds o' P
holds_up P up None o' k h = absurd h
holds_up P up (Some r) None k h = k
holds_up P up (Some r) (Some r') k h = up r r' k h

pub for_lasts : (t : Writing) → Lasts (For t)
for_lasts t r r' g f = g.ticket ∙ f

pub at_lasts : (t : Writing) (p : ℕ) → Lasts (ForAt t p)
at_lasts t p r r' g f = (g.ticket ∙ f.0, g.set p f.1)

pub filled_lasts : (t : Writing) → Lasts (ForFilled t)
filled_lasts t r r' g f = (g.ticket ∙ f.0, (f.1.0, g.set f.1.0 f.1.1))

pub marked_lasts : (t : Writing) → Lasts (ForMarked t)
marked_lasts t r r' g f = (g.ticket ∙ f.0, g.mark f.1)

pub needed_lasts : (rule : Rule) (p : ℕ) (t : Writing) → Lasts (Needed rule p t)
needed_lasts rules.First p t = for_lasts t
needed_lasts rules.Second p t = at_lasts t p
needed_lasts rules.Third p t = marked_lasts t

-- what was heard once is heard ever after
abbrev pub HeardUp : (ℕ → Option Row) → (ℕ → Option Row) → Type 0
HeardUp h h' = (y : ℕ) → Up (h y) (h' y)

module _ (tb : QuorumTable) (h h' : ℕ → Option Row) (up : HeardUp h h') where
  pub entire_up : (p : ℕ) (P : Row → Type 0) → Lasts P → Entire tb h p P → Entire tb h' p P
  entire_up p P lasts e x i = holds_up P lasts (h x) (h' x) (up x) (e x i)

  pub founded_up : (r : Row) → FoundedRow tb h r → FoundedRow tb h' r
  founded_up r f = record {
    named = λ p k. let q = f.named p k in (q.0, entire_up p (For r.ticket) (for_lasts r.ticket) q.1);
    filled = f.filled;
    spread = λ m. let q = f.spread m in (q.0, q.1, entire_up q.0 (ForFilled r.ticket) (filled_lasts r.ticket) q.2);
  }

  pub any_founded_up : (o : Option Row) → IfAny o (FoundedRow tb h) → IfAny o (FoundedRow tb h')
  any_founded_up None f = tt
  any_founded_up (Some r) f = founded_up r f

  pub met_up : (rule : Rule) (t : Writing) → Met tb h rule t → Met tb h' rule t
  met_up rule t (p, i, (k, e)) = (p, i, (k, entire_up p (Needed rule p t) (needed_lasts rule p t) e))

noted_up : (o : Option Row) (r : Row) → Up o (Some (noted o r))
noted_up None r = tt
noted_up (Some o) r = joined_grows o r

-- noting a row takes nothing away
pub heard_up : (g : Grid) (v x : ℕ) (r : Row) (w y : ℕ) → Up (cell g w y) (cell (with_cell g v x (Some (noted (cell g v x) r))) w y)
heard_up g v x r w y =
    elim (cell_cases g v x (Some (noted (cell g v x) r)) w y) [
      | inl e ↦ up_is (cell g w y) _ e
      | inr k ↦
          let same : cell g v x ≡ cell g w y = ap (λ z. cell g z x) k.0.0 ∙ ap (cell g w) k.0.1 in
          subst (λ (o : Option Row). Up (cell g w y) o) (sym k.1)
          (subst (λ (o : Option Row). Up o (Some (noted (cell g v x) r))) same (noted_up (cell g v x) r))
    ]

-- what two rows say that both are said of a third, the note of both says of it
pub noted_least : (o : Option Row) (r : Row) (c : Option Row) → Up o c → Holds c (Grows r) → Holds c (Grows (noted o r))
noted_least None r c k l = l
noted_least (Some o) r None k l = l
noted_least (Some o) r (Some c) k l = joined_least o r c k l
