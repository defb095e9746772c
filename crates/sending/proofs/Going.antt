-- Sends in a row.
use Rattle.std.proofs.Common.{◌≡◌, ℕ, ◌+◌, ◌<◌, ◌≤◌, Bool, true, false, List, [], ◌∷◌, ◌++◌, length, Some, None, Option, IsSome, IfSome, sym, refl, ◌∙◌, subst, add-zero, add_assoc, zero-add, arith}
use Rattle.std.proofs.lemmas.Bool.Decides.{nat_tests}
use Rattle.base.specs.Limits.{packet_bytes}
use Rattle.packet.specs.Said.{Said}
use Rattle.packet_write.specs.Writes.{Wrote}
use Rattle.unit.specs.Letters.{said_of}
use Rattle.unit.specs.Sending.{only_if}
use Rattle.unit.specs.declared.letter.Letter.{Letter}
use Rattle.std.specs.Bool.{then_some}
use Rattle.wire.specs.Meaning.{Meaning, Rule}
use Rattle.wire.specs.Sends.{SentAll, send_fault}
use Rattle.wire.proofs.Effects.{sent_served}
use Rattle.wire.specs.declared.answers.Tally.{Tally}
use Rattle.wire.specs.declared.fault.WireFault.{WireFault}
use Rattle.calls.specs.Calls.{packet_said, handed, tallied, GoesOut, nothing, next}
use Rattle.sending.specs.Letters.{said_in, IsOwn}
use Rattle.sending.specs.Went.{Went}

-- the questions of a send to all are met
pub send_met : (a : Meaning) (from n : ℕ) (packet : List ℕ) (e : WireFault) → a.served ≡ n → from < n → length packet ≤ packet_bytes → send_fault a from n packet ≡ Some e → ⊥
send_met a from n packet e s f l bad =
    let none_found : send_fault a from n packet ≡ None = grind (arith, nat_tests) in
    let z : ◌≡◌ {A = ℕ} 0 1 = cc in
    omega arith

module _ (rule : Rule) where
  module _ (n from : ℕ) where
    -- one message
    pub went_one : (m : Said) (packet : List ℕ) (a b : Meaning) (tally : Tally) → handed (packet_said m) ≡ m → packet ≡ packet_said m → SentAll rule a from n packet tally b → Went rule n from (m ∷ []) a b tally
    went_one m packet a b tally back is sent =
        let s : SentAll rule a from n (packet_said m) tally b = subst (λ (p : List ℕ). SentAll rule a from n p tally b) is sent in
        let one : GoesOut rule n from (m ∷ []) a b (tally.laid + 0) (tally.lost + 0) = next back s nothing in
        record {
          out = subst (λ x. GoesOut rule n from (m ∷ []) a b x tally.lost) (add-zero tally.laid) (subst (λ y. GoesOut rule n from (m ∷ []) a b (tally.laid + 0) y) (add-zero tally.lost) one);
          served = sent_served rule from (packet_said m) a n b tally.laid tally.lost s.chain;
          few = omega (arith, s.every);
        }

    -- nothing goes out
    pub went_none : (ms : List Said) (a : Meaning) → ms ≡ [] → Went rule n from ms a a (tallied 0 0)
    went_none ms a e = record { out = subst (λ (l : List Said). GoesOut rule n from l a a 0 0) (sym e) nothing; served = refl; few = omega arith }

    -- one list after another
    pub goes_on : (ms ns : List Said) (a b c : Meaning) (x y x' y' : ℕ) → GoesOut rule n from ms a b x y → GoesOut rule n from ns b c x' y' → GoesOut rule n from (ms ++ ns) a c (x + x') (y + y')
    goes_on _ ns a _ c _ _ x' y' nothing more = subst (λ k. GoesOut rule n from ns a c k (0 + y')) (sym (zero-add x')) (subst (λ k. GoesOut rule n from ns a c x' k) (sym (zero-add y')) more)
    goes_on _ ns a b c _ _ x' y' (next {m = m} {ms = ms} {b = d} {tally = t} {laid = p} {lost = q} back sent rest) more =
        let tail = goes_on ms ns d b c p q x' y' rest more in
        subst (λ k. GoesOut rule n from (m ∷ (ms ++ ns)) a c k (t.lost + q + y')) (sym (add_assoc t.laid p x'))
        (subst (λ k. GoesOut rule n from (m ∷ (ms ++ ns)) a c (t.laid + (p + x')) k) (sym (add_assoc t.lost q y')) (next back sent tail))

    -- three letters in a row, each over the wire that the one before left
    pub went_on : (ms ns os : List Said) (a b c d : Meaning) (put row report : Tally) → n ≡ a.served → Went rule a.served from ms a b put → Went rule b.served from ns b c row → Went rule c.served from os c d report
        → GoesOut rule n from (ms ++ (ns ++ os)) a d (put.laid + (row.laid + report.laid)) (put.lost + (row.lost + report.lost))
    went_on ms ns os a b c d put row report e p q r =
        let to_b : n ≡ b.served = e ∙ sym p.served in
        let to_c : n ≡ c.served = to_b ∙ sym q.served in
        goes_on ms (ns ++ os) a b d put.laid put.lost (row.laid + report.laid) (row.lost + report.lost) (rw e p.out)
        (goes_on ns os b c d row.laid row.lost report.laid report.lost (rw to_b q.out) (rw to_c r.out))

-- bytes that are short enough are written
pub wrote_some : (bs before after : List ℕ) (r : Option ℕ) → Wrote bs before after r → length bs ≤ length before → IsSome r
wrote_some bs before after None w h = absurd (omega (arith, w.0))
wrote_some bs before after (Some n) w h = refl

-- a letter that is wanted or not
pub wanted_own : (letter : Letter) (wanted : Bool) → IsOwn letter → IfSome (then_some wanted letter) IsOwn
wanted_own letter true own = own
wanted_own letter false own = tt

pub wanted_said : (letter : Letter) (wanted : Bool) → said_in (then_some wanted letter) ≡ only_if wanted (said_of letter ∷ [])
wanted_said letter true = refl
wanted_said letter false = refl
