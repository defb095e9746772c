-- One step of a chain of posts, as a loop takes it, and what a chain leaves.
use Rattle.std.proofs.Common.{◌≡◌, ℕ, ◌+◌, ◌<◌, ◌≤◌, List, length, IfOk, Some, Ok, Err, Result, add-one, arith, MatchResult}
use Rattle.std.proofs.lemmas.Bool.Decides.{nat_tests}
use Rattle.base.specs.Limits.{packet_bytes}
use Rattle.wire.specs.declared.answers.Tally.{Tally}
use Rattle.wire.specs.declared.fault.WireFault.{WireFault}
use Rattle.wire.specs.declared.fault.WireFault.TheVariants.{Full}
use Rattle.wire.specs.Calls.{Happens, Refused, post_fault}
use Rattle.wire.specs.Meaning.{Meaning, Rule, posting}
use Rattle.wire.specs.Sends.{Sent, laid, lost, SentAll, send_fault}

module _ (rule : Rule) (from : ℕ) (packet : List ℕ) (a b : Meaning) (n x y : ℕ) (so_far : Sent rule from packet a n b x y) where
  pub laid_more : (c : Meaning) → Happens rule b (posting from n packet) c → Sent rule from packet a (n + 1) c (x + 1) y
  laid_more c did = rw (add-one n, add-one x) (laid so_far did)

  -- a post that is refused although its questions of unit and length are met is refused for want of a place
  pub only_full : (e : WireFault) → from < b.served → n < b.served → length packet ≤ packet_bytes → post_fault b from n packet ≡ Some e → post_fault b from n packet ≡ Some (Full n)
  only_full e hs ht hp bad = grind (arith, nat_tests)

  pub lost_more : (c : Meaning) → c ≡ b → post_fault b from n packet ≡ Some (Full n) → Sent rule from packet a (n + 1) c x (y + 1)
  lost_more c same bad = rw (add-one n, add-one y, same) (lost so_far bad)

-- what follows of the answer of a send to all, where the rule says more of the chain
pub sent_made : (rule : Rule) (a b : Meaning) (from n : ℕ) (packet : List ℕ) (r : Result Tally WireFault) (S : Tally → Type 0) → MatchResult r (λ tally. SentAll rule a from n packet tally b) (λ e. Refused (send_fault a from n packet) e a b) → ((tally : Tally) → SentAll rule a from n packet tally b → S tally) → IfOk r S
sent_made rule a b from n packet (Ok tally) S h f = f tally h
sent_made rule a b from n packet (Err e) S h f = tt
