-- The choice: free with no live ticket, only t with one, torn with more.
use Rattle.std.specs.Prelude.{◌≡◌, ℕ}
use Rattle.sets.specs.Decisions.{pick, not?}
use Rattle.table.specs.Tables.{QuorumTable, Proper, IsQuorum}
use Rattle.ticket.specs.declared.writing.Writing.{Writing}
use Rattle.rows.specs.Rows.{Grid}
use Rattle.rows.specs.Decided.{same?}
use Rattle.choice.specs.Reports.{Live}
use Rattle.choice.specs.Lives.{SomeCandidate, some_candidate?}
pub use Rattle.choice.specs.declared.choice.Choice.{Choice}
use Rattle.choice.specs.declared.choice.Choice.TheVariants.{Free, Only, Torn}

-- what a choice says of the tickets of which L holds
abbrev pub Chosen : (Writing → Type 0) → Choice Writing → Type 0
Chosen L Free = (t : Writing) → ¬ (L t)
Chosen L (Only t) = L t × ((s : Writing) → L s → s ≡ t)
Chosen L Torn = (s t : Writing) × L s × L t × (¬ (s ≡ t))

module _ (tb : QuorumTable) (q : ℕ) (kept : Grid) (w : ℕ) where
  -- one candidate is there: another one tears the choice
  abbrev pub beside : Writing → Choice Writing
  beside t = pick (some_candidate? tb q kept w (λ s. not? (same? s t))) Torn (Only t)

  abbrev pub among : Dec (SomeCandidate tb q kept w (λ _. Unit {0})) → Choice Writing
  among (no _) = Free
  among (yes k) = beside k.0

  -- the choice of view w from the reports of the quorum at place q
  unfoldable pub choice_of : Choice Writing
  choice_of = among (some_candidate? tb q kept w (λ _. yes tt))

-- for a passed table the choice is settled by the live tickets alone
abbrev pub ChoiceIsOfLive : Type 0
ChoiceIsOfLive =
    (tb : QuorumTable) (q : ℕ) (kept : Grid) (w : ℕ) → Proper tb → IsQuorum tb q → Chosen (Live tb q kept w) (choice_of tb q kept w)

-- the three cases exclude each other
abbrev pub ChoiceIsOne : Type 0
ChoiceIsOne =
    (tb : QuorumTable) (q : ℕ) (kept : Grid) (w : ℕ) (c c' : Choice Writing) → Chosen (Live tb q kept w) c → Chosen (Live tb q kept w) c' → c ≡ c'
