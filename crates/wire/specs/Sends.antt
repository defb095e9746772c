-- What comes of posting one packet to the units 0 to n - 1 in order.
use Rattle.std.specs.Prelude.{◌≡◌, ℕ, suc, ◌+◌, cond, List, length, Some, None, Option, nat_le, nat_lt}
use Rattle.base.specs.Limits.{packet_bytes}
use Rattle.wire.specs.declared.answers.Tally.{Tally}
use Rattle.wire.specs.declared.fault.WireFault.{WireFault}
use Rattle.wire.specs.declared.fault.WireFault.TheVariants.{NotServed, TooLong, Full}
use Rattle.wire.specs.Calls.{post_fault, Happens}
use Rattle.wire.specs.Meaning.{Meaning, Rule, posting}

-- asked before the first post: are the sender and every addressee served, is the packet short enough; the place is the first addressee that fails
abbrev pub send_fault : Meaning → ℕ → ℕ → List ℕ → Option WireFault
send_fault m from n packet =
    cond (nat_lt from m.served) (cond (nat_le n m.served) (cond (nat_le (length packet) packet_bytes) None (Some (TooLong 0))) (Some (NotServed m.served))) (Some (NotServed 0))

-- a chain of posts to 0, 1, .. n - 1 from wire a to wire b: so many were laid, so many lost for want of a place
pub data Sent (rule : Rule) (from : ℕ) (packet : List ℕ) (a : Meaning) : ℕ → Meaning → ℕ → ℕ → Type 0 where
  none : Sent rule from packet a 0 a 0 0
  laid : {n : ℕ} {b c : Meaning} {x y : ℕ} → Sent rule from packet a n b x y → Happens rule b (posting from n packet) c → Sent rule from packet a (suc n) c (suc x) y
  lost : {n : ℕ} {b : Meaning} {x y : ℕ} → Sent rule from packet a n b x y → post_fault b from n packet ≡ Some (Full n) → Sent rule from packet a (suc n) b x (suc y)

-- an accepted send to all, and its answer
pub record SentAll (rule : Rule) (a : Meaning) (from n : ℕ) (packet : List ℕ) (tally : Tally) (b : Meaning) : Type 0 where
  pub asked : send_fault a from n packet ≡ None
  pub chain : Sent rule from packet a n b tally.laid tally.lost
  pub every : tally.laid + tally.lost ≡ n
