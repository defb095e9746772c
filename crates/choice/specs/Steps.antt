-- How the choice is found, ticket by ticket.
use Rattle.std.specs.Prelude.{◌≡◌, ℕ, ◌<◌, ◌⊎◌}
use Rattle.table.specs.Tables.{QuorumTable, In}
use Rattle.ticket.specs.declared.writing.Writing.{Writing}
use Rattle.rows.specs.Rows.{Grid, cell, Holds, For}
use Rattle.choice.specs.Reports.{LiveIn}
use Rattle.choice.specs.declared.choice.Choice.{Choice}
use Rattle.choice.specs.declared.choice.Choice.TheVariants.{Free, Only, Torn}

-- one more ticket changes nothing
abbrev pub Settled : Choice Writing → Writing → Type 0
Settled Free t = ⊥
Settled (Only s) t = s ≡ t
Settled Torn t = Unit {0}

-- a choice that is not settled, with one more live ticket
abbrev pub joined_with : Choice Writing → Writing → Choice Writing
joined_with Free t = Only t
joined_with (Only s) t = Torn
joined_with Torn t = Torn

-- the choice with a ticket of which L may hold
abbrev pub WithTicket : Type 0 → Choice Writing → Writing → Choice Writing → Type 0
WithTicket L c t r = (Settled c t × (r ≡ c)) ⊎ ((¬ (Settled c t)) × ((L × (r ≡ joined_with c t)) ⊎ ((¬ L) × (r ≡ c))))

-- the rows before that of unit x in view v, view by view
abbrev pub Before : ℕ → ℕ → ℕ → ℕ → Type 0
Before v x u y = (u < v) ⊎ ((u ≡ v) × (y < x))

-- a row of the quorum before that of unit x in view v has the ticket, which is live there
abbrev pub Seen : QuorumTable → ℕ → Grid → ℕ → ℕ → ℕ → Writing → Type 0
Seen tb q kept w v x t =
    (u : ℕ) × ((y : ℕ) × Before v x u y × (LiveIn tb q kept w u t × In tb q y × Holds (cell kept u y) (For t)))
