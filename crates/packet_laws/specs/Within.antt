-- Messages within the bounds: those that packets say.
-- `views` is the number of views, `quorums` that of the listed quorums, `refuses` the kind of ticket in use.
use Rattle.std.specs.Prelude.{◌≡◌, ℕ, ◌^◌, ◌<◌, ◌≤◌, true, List, [], ◌∷◌, length, Some, None, Option}
use Rattle.packet.specs.Questions.{listed}
use Rattle.packet.specs.Said.{Said, says_put, says_row, says_report}
use Rattle.rows.specs.declared.row.Row.{Row}
use Rattle.ticket.specs.Writings.{Words}
use Rattle.ticket.specs.declared.fault.TicketFault.{TicketFault}
use Rattle.ticket.specs.declared.writing.Writing.{Writing}

-- a ticket of the kind in use
pub record TicketWithin (refuses : Writing → Option TicketFault) (t : Writing) : Type 0 where
  pub fits : Words t
  pub kind : refuses t ≡ None

-- its set names only listed quorums, and a mark comes with a set that is not empty
pub record RowWithin (refuses : Writing → Option TicketFault) (quorums : ℕ) (r : Row) : Type 0 where
  pub ticket : TicketWithin refuses r.ticket
  pub word : r.set < 2 ^ 32
  pub listed_only : listed quorums r.set ≡ true
  pub marked : r.mark ≡ true → 0 < r.set

abbrev pub EntryWithin : (Writing → Option TicketFault) → ℕ → Option Row → Type 0
EntryWithin refuses quorums None = Unit {0}
EntryWithin refuses quorums (Some r) = RowWithin refuses quorums r

unfoldable pub EntriesWithin : (Writing → Option TicketFault) → ℕ → List (Option Row) → Type 0
EntriesWithin refuses quorums [] = Unit {0}
EntriesWithin refuses quorums (e ∷ es) = EntryWithin refuses quorums e × EntriesWithin refuses quorums es

-- a report is for a view above 0 and has an entry for each view below it
abbrev pub Within : ℕ → (Writing → Option TicketFault) → ℕ → Said → Type 0
Within views refuses quorums (says_put v t) = (v < views) × TicketWithin refuses t
Within views refuses quorums (says_row v r) = (v < views) × RowWithin refuses quorums r
Within views refuses quorums (says_report v es) = (1 ≤ v) × (v < views) × (length es ≡ v) × EntriesWithin refuses quorums es
