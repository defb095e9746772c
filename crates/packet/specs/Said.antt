-- What a packet says, and where its words stand.
use Rattle.std.specs.Prelude.{◌≡◌, ℕ, zero, suc, ◌+◌, Bool, cond, ◌&&◌, List, [], ◌∷◌, length, drop, Some, None, Option, ◌==◌, nat_le}
use Rattle.packet.specs.Kinds.{put_kind, row_kind}
use Rattle.packet.specs.declared.message.Message.{Message}
use Rattle.packet.specs.declared.message.Message.TheVariants as messages
use Rattle.packet.specs.declared.message.Report.{Report as Borrowed}
use Rattle.rows.specs.declared.row.Row.{Row}
-- in a packet a report has an entry for each view below its own
pub use Rattle.rows.specs.Said.{Said, says_put, says_row, says_report}
use Rattle.ticket.specs.Words.{word}
use Rattle.ticket.specs.Writings.{writing_at}

-- its first two words
abbrev pub kind_of : List ℕ → ℕ
kind_of bs = word bs 0

abbrev pub view_of : List ℕ → ℕ
view_of bs = word bs 4

-- a ticket, a set and a mark from an offset on
abbrev pub row_at : List ℕ → ℕ → Row
row_at bs i = record { ticket = writing_at bs i; set = word bs (i + 16); mark = (word bs (i + 20) == 1) }

-- a report's entry is a presence word and, after 1, a row
abbrev pub present : List ℕ → ℕ → Bool
present bs i = word bs i == 1 && nat_le (i + 28) (length bs)

abbrev pub entry_at : List ℕ → ℕ → Option Row
entry_at bs i = cond (present bs i) (Some (row_at bs (i + 4))) None

-- where the next entry begins
abbrev pub next : List ℕ → ℕ → ℕ
next bs i = cond (present bs i) (i + 28) (i + 4)

-- so many entries from an offset on
unfoldable pub entries_at : List ℕ → ℕ → ℕ → List (Option Row)
entries_at bs zero i = []
entries_at bs (suc n) i = entry_at bs i ∷ entries_at bs n (next bs i)

-- the entries of a report that was borrowed from a packet
abbrev pub entries_of : Borrowed → List (Option Row)
entries_of r = entries_at r.entries.now r.view 0

-- so many entries, none past those that there are
unfoldable pub padded : ℕ → List (Option Row) → List (Option Row)
padded zero es = []
padded (suc n) [] = None ∷ padded n []
padded (suc n) (e ∷ es) = e ∷ padded n es

-- kind, view and count stand before a report's entries
abbrev pub entries_offset : ℕ
entries_offset = 12

-- what a message says
abbrev pub meaning : Message → Said
meaning (messages.Put v t) = says_put v t
meaning (messages.Row v r) = says_row v r
meaning (messages.Report r) = says_report r.view (entries_of r)

-- what a packet's bytes say, by its kind
unfoldable pub said_by : List ℕ → Said
said_by bs = cond (kind_of bs == put_kind) (says_put (view_of bs) (writing_at bs 8)) (cond (kind_of bs == row_kind) (says_row (view_of bs) (row_at bs 8)) (says_report (view_of bs) (entries_at (drop entries_offset bs) (view_of bs) 0)))

-- a report that is read from a packet borrows all that follows the count, and knows its offset
abbrev pub Borrows : List ℕ → Message → Type 0
Borrows bs (messages.Put v t) = Unit {0}
Borrows bs (messages.Row v r) = Unit {0}
Borrows bs (messages.Report r) = (r.offset ≡ entries_offset) × (r.entries.now ≡ drop entries_offset bs)
