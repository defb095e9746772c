-- On the bus each packet laid takes one of the free places, for every unit.
use Rattle.std.proofs.Common.{◌≡◌, ℕ, ◌+◌, ◌<◌, ◌≤◌, min, List, length, None, ap, ◌∙◌, arith}
use Rattle.std.proofs.lemmas.List.{length_push}
use Rattle.std.proofs.lemmas.Bool.Decides.{nat_tests}
use Rattle.wire.specs.Calls.{Posted}
use Rattle.wire.specs.Meaning.{Meaning, parcel}
use Rattle.wire.specs.Sends.{Sent, none, laid, lost, send_fault}
use Rattle.wire.proofs.Effects.{sent_served, post_asked, post_full}
use Rattle.bus.specs.Shared.{bus_rule, all_waiting, sum_below}
use Rattle.bus.proofs.Sums.{sum_more}

-- a post adds one to what waits for all units together
pub one_more : (a b : Meaning) (from to : ℕ) (packet : List ℕ) → to < a.served → Posted a from to packet b → all_waiting b ≡ all_waiting a + 1
one_more a b from to packet h did =
    ap (sum_below (λ u. length (b.waiting u))) did.served
    ∙ sum_more (λ u. length (a.waiting u)) (λ u. length (b.waiting u)) to a.served h (ap length did.laid ∙ length_push (a.waiting to) (parcel from packet)) (λ u ne. ap length (did.others u ne))

module _ (from : ℕ) (packet : List ℕ) (a : Meaning) (even : (u : ℕ) → u < a.served → a.free u ≡ a.free 0) where
  -- every unit's free places fell by the packets laid
  fell : (n : ℕ) (b : Meaning) (x y : ℕ) → Sent bus_rule from packet a n b x y → (u : ℕ) → u < a.served → b.free u + x ≡ a.free u
  fell _ _ _ _ none u h = omega arith
  fell _ c _ _ (laid {n = n} {b = b} {x = x} {y = y} before did) u h =
      let s = sent_served bus_rule from packet a n b x y before in
      let was = did.2.1 u (omega arith) in
      let is = did.2.2 u (let t = did.1.served in omega arith) in
      let more = one_more b c from n packet (post_asked b from n packet did.0).1 did.1 in
      let rest = fell n b x y before u h in
      omega arith
  fell _ b _ _ (lost {n = n} {x = x} {y = y} before full) u h = fell n b x y before u h

  counted : (n : ℕ) (b : Meaning) (x y : ℕ) → Sent bus_rule from packet a n b x y → n ≤ a.served → x ≡ min n (a.free 0)
  counted _ _ _ _ none h = omega arith
  counted _ c _ _ (laid {n = n} {b = b} {x = x} {y = y} before did) h =
      let room = (post_asked b from n packet did.0).3 in
      let left = fell n b x y before n (omega arith) in
      let same = even n (omega arith) in
      let rest = counted n b x y before (omega arith) in
      omega arith
  counted _ b _ _ (lost {n = n} {x = x} {y = y} before full) h =
      let none_free = post_full b from n packet full in
      let left = fell n b x y before n (omega arith) in
      let same = even n (omega arith) in
      let rest = counted n b x y before (omega arith) in
      omega arith

  pub laid_while_free : (n : ℕ) (b : Meaning) (x y : ℕ) → send_fault a from n packet ≡ None → Sent bus_rule from packet a n b x y → x ≡ min n (a.free 0)
  laid_while_free n b x y ok sent = counted n b x y sent (grind (arith, nat_tests))
