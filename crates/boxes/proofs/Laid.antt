-- In boxes a send to all lays one packet in each box that has room.
use Rattle.std.proofs.Common.{◌≡◌, ℕ, suc, ◌+◌, ◌<◌, ◌≤◌, cond, ltb, List, length, None, refl, ap, ◌∙◌, arith}
use Rattle.std.proofs.lemmas.Bool.Decides.{nat_tests}
use Rattle.wire.specs.Meaning.{Meaning}
use Rattle.wire.specs.Sends.{Sent, none, laid, lost, send_fault}
use Rattle.wire.proofs.Effects.{sent_served, post_asked, post_full}
use Rattle.boxes.specs.Rooms.{boxes_rule, with_room}

room_more : (m : Meaning) (n x : ℕ) → 0 < m.free n → x ≡ with_room m n → suc x ≡ with_room m n + cond (ltb 0 (m.free n)) 1 0
room_more m n x h e = grind (arith, nat_tests)

room_same : (m : Meaning) (n x : ℕ) → m.free n ≡ 0 → x ≡ with_room m n → x ≡ with_room m n + cond (ltb 0 (m.free n)) 1 0
room_same m n x h e = grind (arith, nat_tests)

module _ (from : ℕ) (packet : List ℕ) (a : Meaning) where
  -- the boxes from n on are as they were
  later : (n : ℕ) (b : Meaning) (x y : ℕ) → Sent boxes_rule from packet a n b x y → (u : ℕ) → n ≤ u → u < a.served → b.free u ≡ a.free u
  later _ _ _ _ none u h l = refl
  later _ c _ _ (laid {n = n} {b = b} {x = x} {y = y} before did) u h l =
      let s = sent_served boxes_rule from packet a n b x y before in
      let same = ap length (did.1.others u (λ e. omega arith)) in
      let was = did.2.1 u (omega arith) in
      let is = did.2.2 u (let t = did.1.served in omega arith) in
      let step : c.free u ≡ b.free u = omega arith in
      step ∙ later n b x y before u (omega arith) l
  later _ b _ _ (lost {n = n} {x = x} {y = y} before full) u h l = later n b x y before u (omega arith) l

  counted : (n : ℕ) (b : Meaning) (x y : ℕ) → Sent boxes_rule from packet a n b x y → n ≤ a.served → x ≡ with_room a n
  counted _ _ _ _ none h = refl
  counted _ c _ _ (laid {n = n} {b = b} {x = x} {y = y} before did) h =
      let room = (post_asked b from n packet did.0).3 in
      let same = later n b x y before n (omega arith) (omega arith) in
      room_more a n x (omega arith) (counted n b x y before (omega arith))
  counted _ b _ _ (lost {n = n} {x = x} {y = y} before full) h =
      let same = later n b x y before n (omega arith) (omega arith) in
      let zero-free = post_full b from n packet full in
      room_same a n x (omega arith) (counted n b x y before (omega arith))

  pub laid_with_room : (n : ℕ) (b : Meaning) (x y : ℕ) → send_fault a from n packet ≡ None → Sent boxes_rule from packet a n b x y → x ≡ with_room a n
  laid_with_room n b x y ok sent = counted n b x y sent (grind (arith, nat_tests))
