-- How a message is written, and what a write leaves in the caller's bytes.
use Rattle.std.specs.Prelude.{◌≡◌, ℕ, ◌<◌, ◌≤◌, Bool, cond, List, ◌++◌, length, drop, Some, None, Option}
use Rattle.std.proofs.Math.Seq.{paste}
use Rattle.std.specs.List.{flat_map}
use Rattle.packet.specs.Kinds.{put_kind, row_kind, report_kind}
use Rattle.packet.specs.Said.{Said, says_put, says_row, says_report}
use Rattle.packet.specs.declared.message.Message.{Message}
use Rattle.packet.specs.declared.message.Message.TheVariants as messages
use Rattle.rows.specs.declared.row.Row.{Row}
use Rattle.ticket.specs.Words.{be}
use Rattle.ticket.specs.Writings.{bytes_of}

-- a mark is 1, none is 0
abbrev pub mark_word : Bool → ℕ
mark_word mark = cond mark 1 0

-- a ticket, a set and a mark
abbrev pub row_bytes : Row → List ℕ
row_bytes r = bytes_of r.ticket ++ (be r.set ++ be (mark_word r.mark))

-- a presence word and, after 1, a row
abbrev pub entry_bytes : Option Row → List ℕ
entry_bytes None = be 0
entry_bytes (Some r) = be 1 ++ row_bytes r

unfoldable pub entries_bytes : List (Option Row) → List ℕ
entries_bytes es = flat_map entry_bytes es

-- kind and view
abbrev pub head_bytes : ℕ → ℕ → List ℕ
head_bytes kind view = be kind ++ be view

-- kind, view, count and entries of a report
abbrev pub report_bytes : ℕ → List ℕ → List ℕ
report_bytes view entries = (head_bytes report_kind view ++ be view) ++ entries

-- the writing of what is said
unfoldable pub writing : Said → List ℕ
writing (says_put v t) = head_bytes put_kind v ++ bytes_of t
writing (says_row v r) = head_bytes row_kind v ++ row_bytes r
writing (says_report v es) = report_bytes v (entries_bytes es)

-- the writing of a message; a borrowed report has its entries' bytes already
unfoldable pub written : Message → List ℕ
written (messages.Put v t) = writing (says_put v t)
written (messages.Row v r) = writing (says_row v r)
written (messages.Report r) = report_bytes r.view r.entries.now

-- bytes laid over others from an offset on
abbrev pub over : List ℕ → ℕ → List ℕ → List ℕ
over old i bs = paste old i bs (length bs)

-- a write of bytes to the front of a caller's: the length where they fit, else nothing; the rest of the caller's bytes is kept
abbrev pub Wrote : List ℕ → List ℕ → List ℕ → Option ℕ → Type 0
Wrote bs before after None = (length before < length bs) × (after ≡ before)
Wrote bs before after (Some n) = (length bs ≤ length before) × (n ≡ length bs) × (after ≡ bs ++ drop (length bs) before)
