-- What each call asks and does, for any kind of ticket and any wire.
use Rattle.std.specs.Prelude.{◌≡◌, ℕ, ◌+◌, List, [], ◌∷◌, length, take, replicate, Some, None, Option, Result, MatchResult, option_map, slice_set}
use Rattle.base.specs.Asked.{first}
use Rattle.base.specs.Limits.{views, packet_bytes}
use Rattle.table.specs.Tables.{QuorumTable}
use Rattle.ticket.specs.declared.fault.TicketFault.{TicketFault}
use Rattle.ticket.specs.declared.writing.Writing.{Writing}
use Rattle.packet.specs.Said.{Said, says_put, says_row, says_report, said_by, padded}
use Rattle.packet.specs.Questions.{packet_fault}
use Rattle.packet_write.specs.Writes.{writing}
use Rattle.choice.specs.declared.choice.Choice.{Choice}
use Rattle.choice.specs.declared.choice.Choice.TheVariants.{Free, Only, Torn}
use Rattle.unit.specs.declared.announcement.Announcement.{Announcement}
use Rattle.unit.specs.Reported.{shown_choice}
use Rattle.unit.specs.Sending.{outgoing}
use Rattle.unit.specs.Acts.{Act, putting, raising, repeating, receiving, act_fault, act_done, act_sends}
use Rattle.wire.specs.Meaning.{Meaning, Rule, posting, dropping, Parcel}
use Rattle.wire.specs.Calls.{post_fault, look_fault, drop_fault, waits_at, Happens}
use Rattle.wire.specs.Sends.{SentAll}
use Rattle.wire.specs.declared.answers.Tally.{Tally}
use Rattle.calls.specs.declared.fault.ShedFault.{ShedFault}
use Rattle.calls.specs.declared.fault.ShedFault.TheVariants as sheds
pub use Rattle.calls.specs.declared.shown.Shown.{Shown}
use Rattle.calls.specs.Worlds.{World, world, unit_at, asked, asked_named, asked_forged}

-- a kind of ticket and a wire, by what they mean
pub record Ways (T : Type 0) : Type 1 where
  pub written : T → Writing
  pub refuses : Writing → Option TicketFault
  pub rule : Rule

abbrev pub ways : {T : Type 0} → (T → Writing) → (Writing → Option TicketFault) → Rule → Ways T
ways w r l = record { written = w; refuses = r; rule = l }

-- u: a unit; k: a place among what waits for it; w: a view; q: a quorum's place
pub data Call (T : Type 0) : Type 0 where
  put : (u : ℕ) (t : T) → Call T
  deliver : (u k : ℕ) → Call T
  announce : (u : ℕ) → Call T
  raise : (u w : ℕ) → Call T
  repeat : (u : ℕ) → Call T
  lose : (u k : ℕ) → Call T
  forge : (from to : ℕ) (bytes : List ℕ) → Call T
  choice : (u q : ℕ) → Call T

-- what the call answers if it is not refused
abbrev pub Answer : {T : Type 0} → Call T → Type 0
Answer (put u t) = Tally
Answer (deliver u k) = Tally
Answer {T} (announce u) = Option (Shown T)
Answer (raise u w) = Tally
Answer (repeat u) = Tally
Answer (lose u k) = Tally
Answer (forge from to bytes) = Tally
Answer {T} (choice u q) = Option (Choice T)

-- the packet of what is said; a report's has the entries of the views below its own
abbrev pub packet_said : Said → List ℕ
packet_said (says_put v t) = writing (says_put v t)
packet_said (says_row v r) = writing (says_row v r)
packet_said (says_report w rows) = writing (says_report w (take w rows))

-- what a unit is handed of what a packet says: a report's entries with none for the other views
abbrev pub heard_as : Said → Said
heard_as (says_put v t) = says_put v t
heard_as (says_row v r) = says_row v r
heard_as (says_report w es) = says_report w (padded views es)

-- the packet that waits for a unit at a place, and what the unit is handed of it
abbrev pub waiting_at : World → ℕ → ℕ → Parcel
waiting_at a u k = waits_at a.wire u k

abbrev pub handed : List ℕ → Said
handed bytes = heard_as (said_by bytes)

-- 73, then 40 to 47: why what waits cannot be read
abbrev pub read_fault : (Writing → Option TicketFault) → QuorumTable → Meaning → ℕ → ℕ → Option ShedFault
read_fault refuses tb m u k =
    first (option_map sheds.Wire (look_fault m u k (replicate packet_bytes 0))) (option_map sheds.Packet (packet_fault views refuses (length tb.quorums) (waits_at m u k).bytes))

-- 45: is what was announced, or chosen, a ticket of the kind?
abbrev pub show_fault : (Writing → Option TicketFault) → Option Announcement → Option ShedFault
show_fault refuses None = None
show_fault refuses (Some x) = option_map sheds.Ticket (refuses x.ticket)

abbrev pub choice_fault : (Writing → Option TicketFault) → Option (Choice Writing) → Option ShedFault
choice_fault refuses None = None
choice_fault refuses (Some Free) = None
choice_fault refuses (Some (Only w)) = option_map sheds.Ticket (refuses w)
choice_fault refuses (Some Torn) = None

-- why the unit may not act so
abbrev pub act_refusal : World → ℕ → Act → Option ShedFault
act_refusal a u act = option_map sheds.Unit (act_fault views a.table u act (unit_at a u))

-- the same after the first questions
abbrev pub acting_fault : World → ℕ → Act → Option ShedFault
acting_fault a u act = first (asked a u) (act_refusal a u act)

-- a delivery hands a unit what waits for it at a place; it is read before
abbrev pub delivering : World → ℕ → ℕ → Act
delivering a u k = receiving (waiting_at a u k).sender (handed (waiting_at a u k).bytes)

abbrev pub delivery_fault : (Writing → Option TicketFault) → World → ℕ → ℕ → Option ShedFault
delivery_fault refuses a u k = first (first (asked a u) (read_fault refuses a.table a.wire u k)) (act_refusal a u (delivering a u k))

-- the questions of each call, in order
abbrev pub fault : {T : Type 0} → Ways T → World → Call T → Option ShedFault
fault y a (put u t) = acting_fault a u (putting (y.written t))
fault y a (deliver u k) = delivery_fault y.refuses a u k
fault y a (announce u) = first (asked a u) (show_fault y.refuses (unit_at a u).announced)
fault y a (raise u w) = acting_fault a u (raising w)
fault y a (repeat u) = acting_fault a u repeating
fault y a (lose u k) = first (asked_named a u) (option_map sheds.Wire (drop_fault a.wire u k))
fault y a (forge from to bytes) = first (asked_forged a from to) (option_map sheds.Wire (post_fault a.wire from to bytes))
fault y a (choice u q) = first (asked a u) (choice_fault y.refuses (shown_choice a.table (unit_at a u) q))

-- messages go out in order, each to the units 0 to n - 1: so many posts are laid and so many lost in all.
-- A unit that is handed a message's packet is handed the message.
pub data GoesOut (rule : Rule) (n from : ℕ) : List Said → Meaning → Meaning → ℕ → ℕ → Type 0 where
  nothing : {a : Meaning} → GoesOut rule n from [] a a 0 0
  next : {m : Said} {ms : List Said} {a b c : Meaning} {tally : Tally} {laid lost : ℕ}
      → handed (packet_said m) ≡ m
      → SentAll rule a from n (packet_said m) tally b
      → GoesOut rule n from ms b c laid lost
      → GoesOut rule n from (m ∷ ms) a c (tally.laid + laid) (tally.lost + lost)

-- unit u does one act, and what it sends goes out
pub record Acts (rule : Rule) (a : World) (u : ℕ) (act : Act) (tally : Tally) (b : World) : Type 0 where
  pub units : b ≡ world a.table a.falses (slice_set a.units u (act_done views a.table u act (unit_at a u))) b.wire
  pub out : GoesOut rule a.table.units u (outgoing (act_sends views a.table u act (unit_at a u)) (act_done views a.table u act (unit_at a u))) a.wire b.wire tally.laid tally.lost

-- the ticket that is shown is the writing that was announced, with its view and rule
abbrev pub Shows : {T : Type 0} → (T → Writing) → Option Announcement → Option (Shown T) → Type 0
Shows w None None = Unit {0}
Shows w None (Some t) = ⊥
Shows w (Some x) None = ⊥
Shows w (Some x) (Some t) = (w t.ticket ≡ x.ticket) × (t.view ≡ x.view) × (t.rule ≡ x.rule)

-- the choice is shown as it is, over tickets
abbrev pub SameChoice : {T : Type 0} → (T → Writing) → Choice Writing → Choice T → Type 0
SameChoice w Free Free = Unit {0}
SameChoice w Free (Only t) = ⊥
SameChoice w Free Torn = ⊥
SameChoice w (Only x) Free = ⊥
SameChoice w (Only x) (Only t) = w t ≡ x
SameChoice w (Only x) Torn = ⊥
SameChoice w Torn Free = ⊥
SameChoice w Torn (Only t) = ⊥
SameChoice w Torn Torn = Unit {0}

abbrev pub ShowsChoice : {T : Type 0} → (T → Writing) → Option (Choice Writing) → Option (Choice T) → Type 0
ShowsChoice w None None = Unit {0}
ShowsChoice w None (Some c) = ⊥
ShowsChoice w (Some x) None = ⊥
ShowsChoice w (Some x) (Some c) = SameChoice w x c

abbrev pub tallied : ℕ → ℕ → Tally
tallied laid lost = record { laid = laid; lost = lost }

-- only the wire changed
abbrev pub OnWire : World → World → Type 0
OnWire a b = b ≡ world a.table a.falses a.units b.wire

-- what a call that is not refused has done
abbrev pub Effect : {T : Type 0} → Ways T → World → (c : Call T) → Answer c → World → Type 0
Effect y a (put u t) v b = Acts y.rule a u (putting (y.written t)) v b
Effect y a (deliver u k) v b = Acts y.rule a u (delivering a u k) v b
Effect y a (announce u) v b = (b ≡ a) × Shows y.written (unit_at a u).announced v
Effect y a (raise u w) v b = Acts y.rule a u (raising w) v b
Effect y a (repeat u) v b = Acts y.rule a u repeating v b
Effect y a (lose u k) v b = OnWire a b × Happens y.rule a.wire (dropping u k) b.wire × (v ≡ tallied 0 0)
Effect y a (forge from to bytes) v b = OnWire a b × Happens y.rule a.wire (posting from to bytes) b.wire × (v ≡ tallied 1 0)
Effect y a (choice u q) v b = (b ≡ a) × ShowsChoice y.written (shown_choice a.table (unit_at a u) q) v

-- a call is refused where there is a fault, and has left all as it was; else it has done what it says
abbrev pub Answered : {V : Type 0} → Option ShedFault → (V → World → Type 0) → World → Result V ShedFault → World → Type 0
Answered fault effect a r b = MatchResult r (λ v. (fault ≡ None) × effect v b) (λ e. (fault ≡ Some e) × (b ≡ a))

-- one call, refused or not
abbrev pub Did : {T : Type 0} → Ways T → World → (c : Call T) → Result (Answer c) ShedFault → World → Type 0
Did y a c r b = Answered (fault y a c) (Effect y a c) a r b
