-- The questions asked of a packet, each of the whole packet before the next.
-- `views` is the number of views, `quorums` that of the listed quorums, `refuses` the kind of ticket in use.
use Rattle.std.specs.Prelude.{ℕ, zero, suc, ◌+◌, ◌/◌, ◌%◌, ◌^◌, Bool, true, cond, ◌&&◌, List, length, Some, None, Option, ◌==◌, nat_le, nat_lt}
use Rattle.base.specs.Asked.{first}
use Rattle.base.specs.Limits.{longest_packet}
use Rattle.packet.specs.Kinds.{put_kind, row_kind, report_kind}
use Rattle.packet.specs.Said.{kind_of, view_of, present, next, entries_offset}
use Rattle.packet.specs.declared.fault.PacketFault.{PacketFault}
use Rattle.packet.specs.declared.fault.PacketFault.TheVariants.{Length, Kind, View, Count, Shape, Ticket, Set, Mark}
use Rattle.ticket.specs.Words.{word}
use Rattle.ticket.specs.Writings.{writing_at}
use Rattle.ticket.specs.declared.fault.TicketFault.{TicketFault}
use Rattle.ticket.specs.declared.writing.Writing.{Writing}

-- the answer to a question: nothing where it is met, else the fault
abbrev pub unless : Bool → PacketFault → Option PacketFault
unless met fault = cond met None (Some fault)

-- 40: a multiple of four, from the two words that all have to the longest packet
abbrev pub length_fault : ℕ → ℕ → Option PacketFault
length_fault views n = unless (nat_le 8 n && (nat_le n (longest_packet views) && n % 4 == 0)) (Length n)

-- 41
abbrev pub kind_fault : ℕ → Option PacketFault
kind_fault k = unless (nat_le put_kind k && nat_le k report_kind) Kind

-- 42: a report is for a view above 0
abbrev pub view_fault : ℕ → ℕ → ℕ → Option PacketFault
view_fault views k v = unless (nat_lt v views && nat_le (cond (k == report_kind) 1 0) v) View

-- the questions on the length and the first two words
abbrev pub head_fault : ℕ → List ℕ → Option PacketFault
head_fault views bs = first (length_fault views (length bs)) (first (kind_fault (kind_of bs)) (view_fault views (kind_of bs) (view_of bs)))

-- 43: a report has its count, which is its view
abbrev pub count_fault : ℕ → ℕ → List ℕ → Option PacketFault
count_fault k v bs = cond (k == report_kind) (unless (nat_le entries_offset (length bs) && word bs 8 == v) Count) None

-- the packet ends here
abbrev pub ends_at : List ℕ → ℕ → Option PacketFault
ends_at bs i = cond (nat_lt (length bs) i) (Some (Shape (length bs))) (unless (length bs == i) (Shape i))

-- a presence word that is 0, or 1 with its row
abbrev pub entry_shape : List ℕ → ℕ → Option PacketFault
entry_shape bs i = cond (nat_lt (length bs) (i + 4)) (Some (Shape (length bs))) (cond (word bs i == 0) None (cond (word bs i == 1) (unless (nat_le (i + 28) (length bs)) (Shape (length bs))) (Some (Shape i))))

-- so many entries from an offset on, and then the end
unfoldable pub entries_shape : List ℕ → ℕ → ℕ → Option PacketFault
entries_shape bs zero i = ends_at bs i
entries_shape bs (suc n) i = first (entry_shape bs i) (entries_shape bs n (next bs i))

-- 44
abbrev pub shape_fault : ℕ → ℕ → List ℕ → Option PacketFault
shape_fault k v bs = cond (k == put_kind) (ends_at bs 24) (cond (k == row_kind) (ends_at bs 32) (entries_shape bs v entries_offset))

-- a question asked of the row of an entry that has one
abbrev pub entry_fault : (ℕ → Option PacketFault) → List ℕ → ℕ → Option PacketFault
entry_fault ask bs i = cond (present bs i) (ask (i + 4)) None

-- and of each entry
unfoldable pub entries_fault : (ℕ → Option PacketFault) → List ℕ → ℕ → ℕ → Option PacketFault
entries_fault ask bs zero i = None
entries_fault ask bs (suc n) i = first (entry_fault ask bs i) (entries_fault ask bs n (next bs i))

-- a question asked of each row; a put has only a ticket, at the place of a row's
abbrev pub each_fault : (ℕ → Option PacketFault) → ℕ → ℕ → List ℕ → Option PacketFault
each_fault ask k v bs = cond (k == report_kind) (entries_fault ask bs v entries_offset) (ask 8)

abbrev pub ticket_with : ℕ → Option TicketFault → Option PacketFault
ticket_with i None = None
ticket_with i (Some fault) = Some (Ticket i fault)

-- 45
abbrev pub ticket_fault : (Writing → Option TicketFault) → List ℕ → ℕ → Option PacketFault
ticket_fault refuses bs i = ticket_with i (refuses (writing_at bs i))

-- a set of quorum places that has no bit at or above so many
abbrev pub listed : ℕ → ℕ → Bool
listed quorums s = s / 2 ^ quorums == 0

-- 46
abbrev pub set_fault : ℕ → List ℕ → ℕ → Option PacketFault
set_fault quorums bs i = unless (listed quorums (word bs (i + 16))) (Set (i + 16))

-- a mark is 0, or 1 with a set that is not empty
abbrev pub mark_fits : ℕ → ℕ → Bool
mark_fits s m = cond (m == 0) true (m == 1 && nat_lt 0 s)

-- 47
abbrev pub mark_fault : List ℕ → ℕ → Option PacketFault
mark_fault bs i = unless (mark_fits (word bs (i + 16)) (word bs (i + 20))) (Mark (i + 20))

-- the questions on tickets, sets and marks
abbrev pub rows_fault : (Writing → Option TicketFault) → ℕ → ℕ → ℕ → List ℕ → Option PacketFault
rows_fault refuses quorums k v bs =
    first (each_fault (ticket_fault refuses bs) k v bs)
    (cond (k == put_kind) None (first (each_fault (set_fault quorums bs) k v bs) (each_fault (mark_fault bs) k v bs)))

-- the fault of a packet, if it has one: all the questions, in order
unfoldable pub packet_fault : ℕ → (Writing → Option TicketFault) → ℕ → List ℕ → Option PacketFault
packet_fault views refuses quorums bs =
    first (length_fault views (length bs)) (first (kind_fault (kind_of bs)) (first (view_fault views (kind_of bs) (view_of bs)) (first (count_fault (kind_of bs) (view_of bs) bs)
    (first (shape_fault (kind_of bs) (view_of bs) bs) (rows_fault refuses quorums (kind_of bs) (view_of bs) bs)))))
