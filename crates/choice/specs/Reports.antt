-- What the reports of a quorum say.
use Rattle.std.specs.Prelude.{ℕ, ◌<◌, ◌⊎◌, length}
use Rattle.sets.specs.Sets.{Basic, fault_at}
use Rattle.table.specs.Tables.{QuorumTable, IsQuorum, In, class_of}
use Rattle.ticket.specs.declared.writing.Writing.{Writing}
use Rattle.rows.specs.declared.row.Row.{Row}
use Rattle.rows.specs.declared.rule.Rule.{Rule}
use Rattle.rows.specs.declared.rule.Rule.TheVariants as rules
use Rattle.rows.specs.Rows.{Grid, cell, Holds, For, Against, AgainstFilled}
use Rattle.rows.specs.Rules.{Ranked, Needed}

-- in a view after v and below w, unit x reports another ticket
abbrev pub Later : Grid → ℕ → ℕ → Writing → ℕ → Type 0
Later kept w v t x = (u : ℕ) × (v < u) × (u < w) × Holds (cell kept u x) (Against t)

-- tb: the table; q: the place of the quorum that reported; kept: the reports' rows, by view and sender
module _ (tb : QuorumTable) (q : ℕ) (kept : Grid) where
  -- for some listed fault set, all units of the quorums p and q outside of it report such a row in view v
  abbrev pub AllBut : ℕ → ℕ → (Row → Type 0) → Type 0
  AllBut p v P =
      (g : ℕ) × (g < length tb.faults)
      × ((x : ℕ) → In tb p x → In tb q x → ¬ (fault_at tb.faults g x) → Holds (cell kept v x) P)

  -- some quorum of the rule's class reports the ticket as the rule asks
  abbrev pub BackedBy : Rule → ℕ → Writing → Type 0
  BackedBy rule v t = (p : ℕ) × (IsQuorum tb p × Ranked rule (class_of tb p)) × AllBut p v (Needed rule p t)

  -- backed: by one of the three rules
  abbrev pub Backed : ℕ → Writing → Type 0
  Backed v t = BackedBy rules.First v t ⊎ (BackedBy rules.Second v t ⊎ BackedBy rules.Third v t)

  -- barred: a basic set of the quorum's units reports other tickets in v with sets that are not empty, or other tickets later
  abbrev pub Barred : ℕ → ℕ → Writing → Type 0
  Barred w v t =
      Basic tb.faults (λ x. In tb q x × Holds (cell kept v x) (AgainstFilled t))
      ⊎ Basic tb.faults (λ x. In tb q x × Later kept w v t x)

  abbrev pub LiveIn : ℕ → ℕ → Writing → Type 0
  LiveIn w v t = Backed v t × (¬ (Barred w v t))

  -- live for view w: in some view below it backed and not barred
  abbrev pub Live : ℕ → Writing → Type 0
  Live w t = (v : ℕ) × (v < w) × LiveIn w v t

  -- some unit of the quorum reports the ticket in a view where it is live; for a passed table that is every live ticket
  abbrev pub Candidate : ℕ → Writing → Type 0
  Candidate w t = (v : ℕ) × (v < w) × LiveIn w v t × ((x : ℕ) × In tb q x × Holds (cell kept v x) (For t))
