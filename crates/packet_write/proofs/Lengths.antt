-- How long each kind of packet is.
use Rattle.std.proofs.Common.{◌≡◌, ℕ, ◌+◌, ◌*◌, ◌%◌, ◌≤◌, List, [], ◌∷◌, length, Some, None, Option, refl, arith}
use Rattle.packet.specs.Said.{says_put, says_row, says_report}
use Rattle.rows.specs.declared.row.Row.{Row}
use Rattle.packet_write.specs.Writes.{entries_bytes, writing}
use Rattle.ticket.specs.declared.writing.Writing.{Writing}

pub put_length : (v : ℕ) (t : Writing) → length (writing (says_put v t)) ≡ 24
unfolding writing
put_length v t = refl

pub row_length : (v : ℕ) (r : Row) → length (writing (says_row v r)) ≡ 32
unfolding writing
row_length v r = refl

-- entries take at most 28 bytes each, in whole words
pub entries_size : (es : List (Option Row)) → (length (entries_bytes es) ≤ 28 * length es) × (length (entries_bytes es) % 4 ≡ 0)
unfolding entries_bytes
entries_size [] = (omega arith, refl)
entries_size (None ∷ es) = let more = entries_size es in (omega arith, omega arith)
entries_size (Some r ∷ es) = let more = entries_size es in (omega arith, omega arith)

pub report_length : (v : ℕ) (es : List (Option Row)) → length (writing (says_report v es)) ≤ 12 + 28 * length es
unfolding writing
report_length v es = let size = entries_size es in omega arith
