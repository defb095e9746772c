-- What one unit of a world does, as what the world does.
use Rattle.std.proofs.Common.{◌≡◌, ℕ, ◌<◌, List, length, get_or, set, take, replicate, Some, None, Option, sym, ap, ◌∙◌, ap₂, refl}
use Rattle.std.proofs.lemmas.List.{map-set, set-get_or, take_at}
use Rattle.std.specs.Option.{option_map}
use Rattle.base.specs.Asked.{first}
use Rattle.base.specs.Limits.{views, packet_bytes}
use Rattle.table.specs.Tables.{QuorumTable}
use Rattle.ticket.specs.declared.fault.TicketFault.{TicketFault}
use Rattle.ticket.specs.declared.writing.Writing.{Writing}
use Rattle.packet.specs.Questions.{packet_fault}
use Rattle.packet.specs.Said.{meaning, said_by}
use Rattle.packet.specs.declared.message.Message.{Message}
use Rattle.unit.specs.States.{State, means, fresh}
use Rattle.unit.specs.Acts.{Act, receiving, act_fault, act_done, act_sends}
use Rattle.unit.specs.Sending.{outgoing}
use Rattle.unit.specs.declared.state.ControlUnit.{ControlUnit}
use Rattle.unit.specs.declared.fault.UnitFault.{UnitFault}
use Rattle.unit.specs.declared.letter.Sends.{Sends}
use Rattle.unit.specs.Letters.{said_of, letter_fault, letter_done, letter_sends}
use Rattle.unit.specs.declared.letter.Letter.{Letter}
use Rattle.unit.specs.declared.letter.Letter.TheVariants as letters
use Rattle.wire.specs.Calls.{Looked, look_fault, waits_at}
use Rattle.wire.specs.declared.answers.Found.{Found}
use Rattle.wire.specs.Meaning.{Meaning, Rule}
use Rattle.wire.specs.declared.answers.Tally.{Tally}
use Rattle.calls.specs.declared.fault.ShedFault.{ShedFault}
use Rattle.calls.specs.declared.fault.ShedFault.TheVariants as sheds
use Rattle.calls.specs.Calls.{Acts, GoesOut, heard_as, handed, act_refusal, read_fault}
use Rattle.calls.specs.Worlds.{world, states_of, state_at}
use Rattle.calls.proofs.Lent.{state_at_lem}

-- a question that is met leaves the next
pub next_asked : {a b c : Option ShedFault} → a ≡ None → b ≡ c → first a b ≡ c
next_asked e h = rw (e, h)

module _ (tb : QuorumTable) (falses : ℕ) (us : List ControlUnit) (m : Meaning) (u : ℕ) (d new : ControlUnit) (act : Act) (there : u < length us) where
  stands : state_at (states_of us) u ≡ means (get_or us u d)
  stands = state_at_lem us u d there

  pub act_refused : {o : Option UnitFault} → act_fault views tb u act (means (get_or us u d)) ≡ o → act_refusal (world tb falses (states_of us) m) u act ≡ option_map sheds.Unit o
  act_refused e = ap (λ (s : State). option_map sheds.Unit (act_fault views tb u act s)) stands ∙ ap (option_map sheds.Unit) e

  -- asks: what was asked before its rules
  module _ (asks : Option ShedFault) (met : asks ≡ None) where
    -- its rules refuse it, and it stays as it is
    pub refused : (f : UnitFault) → act_fault views tb u act (means (get_or us u d)) ≡ Some f → means new ≡ means (get_or us u d)
        → (first asks (act_refusal (world tb falses (states_of us) m) u act) ≡ Some (sheds.Unit f)) × (world tb falses (states_of (set us u new)) m ≡ world tb falses (states_of us) m)
    refused f e same = (
      next_asked met (act_refused e),
      ap (λ (l : List State). world tb falses l m) (map-set means us u new ∙ ap (set (states_of us) u) (same ∙ sym stands) ∙ set-get_or (states_of us) u fresh),
    )

    -- it acts, and what it sends goes out
    pub acted : (rule : Rule) (m' : Meaning) (n : ℕ) (sends : Sends) (tally : Tally) → act_fault views tb u act (means (get_or us u d)) ≡ None → means new ≡ act_done views tb u act (means (get_or us u d))
        → sends ≡ act_sends views tb u act (means (get_or us u d)) → n ≡ tb.units → GoesOut rule n u (outgoing sends (means new)) m m' tally.laid tally.lost
        → (first asks (act_refusal (world tb falses (states_of us) m) u act) ≡ None) × Acts rule (world tb falses (states_of us) m) u act tally (world tb falses (states_of (set us u new)) m')
    acted rule m' n sends tally e done is serves out =
        let done' = done ∙ sym (ap (act_done views tb u act) stands) in
        let is' = is ∙ sym (ap (act_sends views tb u act) stands) in (
          next_asked met (act_refused e),
          record {
            units = ap (λ (l : List State). world tb falses l m') (map-set means us u new ∙ ap (set (states_of us) u) done');
            out = rw (← done', ← is', ← serves) out;
          },
        )

-- what a unit does with a letter is what it does with what the letter says
module _ (tb : QuorumTable) (u x : ℕ) (act : Act) where
  pub letter_fault_is : (letter : Letter) (s : State) → receiving x (said_of letter) ≡ act → act_fault views tb u act s ≡ letter_fault tb x letter s
  letter_fault_is (letters.Put v t) s e = rw (← e)
  letter_fault_is (letters.Row v r) s e = rw (← e)
  letter_fault_is (letters.Report w rows) s e = rw (← e)

  pub letter_done_is : (letter : Letter) (s : State) → receiving x (said_of letter) ≡ act → letter_done tb x letter s ≡ act_done views tb u act s
  letter_done_is (letters.Put v t) s e = rw (← e)
  letter_done_is (letters.Row v r) s e = rw (← e)
  letter_done_is (letters.Report w rows) s e = rw (← e)

  pub letter_sends_is : (letter : Letter) (s : State) → receiving x (said_of letter) ≡ act → letter_sends tb x letter s ≡ act_sends views tb u act s
  letter_sends_is (letters.Put v t) s e = rw (← e)
  letter_sends_is (letters.Row v r) s e = rw (← e)
  letter_sends_is (letters.Report w rows) s e = rw (← e)

-- what is seen is what waits, and it is read
module _ (m : Meaning) (u k : ℕ) (before after : List ℕ) (found : Found) (looked : Looked m u k before after found) where
  pub seen : take found.length after ≡ (waits_at m u k).bytes
  seen = rw (looked.bytes, looked.size) (take_at (waits_at m u k).bytes _ _ refl)

  -- the act is that of the packet's letter
  pub handed_act : (message : Message) (letter : Letter) → meaning message ≡ said_by (take found.length after) → said_of letter ≡ heard_as (meaning message)
      → receiving found.sender (said_of letter) ≡ receiving (waits_at m u k).sender (handed (waits_at m u k).bytes)
  handed_act message letter reads lays = ap₂ receiving looked.sender (lays ∙ ap heard_as (reads ∙ ap said_by seen))

  pub can_be_read : (refuses : Writing → Option TicketFault) (tb : QuorumTable) (asks : Option ShedFault) (n : ℕ) → asks ≡ None → look_fault m u k (replicate packet_bytes 0) ≡ None → n ≡ length tb.quorums
      → packet_fault views refuses n (take found.length after) ≡ None → first asks (read_fault refuses tb m u k) ≡ None
  can_be_read refuses tb asks n met looks count reads =
      next_asked met (next_asked (ap (option_map sheds.Wire) looks) (ap (option_map sheds.Packet) (ap₂ (packet_fault views refuses) (sym count) (sym seen) ∙ reads)))
