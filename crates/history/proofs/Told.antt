-- A run of a shed's calls is a run of the rules: what waits was sent, and what a unit is handed was said.
use Rattle.std.proofs.Common.{◌≡◌, ℕ, ◌<◌, ◌≤◌, ◌⊎◌, List, [], ◌∷◌, ◌++◌, map, length, set, replicate, None, Ok, Err, Result, sym, refl, ap, ◌∙◌, subst, inl, inr, append-nil, arith, length-set, get_or-set_other, get_or-set_same}
use mathlib.Core.List.Memᴰ
use mathlib.Core.List.{Memᴰ}
use native.Mathlib.Decide.{ℕ_discrete}
use Rattle.base.specs.Limits.{views, packet_bytes}
use Rattle.sets.specs.Sets.{Has, Bearable}
use Rattle.sets.specs.Decisions.{has?}
use Rattle.table.specs.Tables.{QuorumTable, Proper}
use Rattle.ticket.specs.declared.writing.Writing.{Writing}
use Rattle.rows.specs.Said.{Said}
use Rattle.unit.specs.States.{State, fresh}
use Rattle.unit.specs.Sending.{outgoing}
use Rattle.unit.specs.Acts.{Act, putting, raising, repeating, receiving, act_fault, act_done, act_sends}
use Rattle.wire.specs.Meaning.{Meaning, Rule, Parcel, parcel, no_parcel}
use Rattle.wire.proofs.Effects.{get_or_in, look_asked, post_in, drop_in, sent_in, sent_served}
use Rattle.agreement.specs.Runs.{sent_by, Course, Came, MayHappen, handed_to, replaced, said_after, after, start, begin, acts, Deed, deed, worked_from, worked}
use Rattle.agreement.specs.Runs as rules
use Rattle.agreement.proofs.Keeping.{replaced_same, replaced_other}
use Rattle.calls.specs.declared.fault.ShedFault.{ShedFault}
use Rattle.calls.specs.Worlds.{World, world, unit_at, Sound, Made}
use Rattle.calls.specs.Calls as call
use Rattle.calls.specs.Calls.{Ways, Call, Answer, packet_said, handed, waiting_at, GoesOut, nothing, next, Acts, fault, Effect, Did}
use Rattle.history.specs.Runs.{Run, made, deeds, tickets, if_ok, deeds_of, tickets_of}
use Rattle.history.specs.Runs.{next as after_call}
use Rattle.history.proofs.Asked.{both_none, mapped_none, asked_sound, forged_false}

-- a waiting packet was sent by its sender, and says what that said
abbrev WasSent : Course → Parcel → Type 0
WasSent c p = (m : Said) × Memᴰ (sent_by p.sender m) c.sent × (p.bytes ≡ packet_said m) × (handed (packet_said m) ≡ m)

-- the shed's world is the moment c of a run of the rules; ts: the tickets handed to accepted puts
pub record Told {T : Type 0} (y : Ways T) (w : World) (c : Course) (ts : List T) : Type 0 where
  pub proper : ∥ Proper w.table ∥₁
  pub bearable : Bearable w.table.faults (Has w.falses)
  pub roomy : w.table.units ≤ length w.units
  pub serves : w.wire.served ≡ w.table.units
  pub running : rules.Run views w.table w.falses c
  pub states : (u : ℕ) → u < w.table.units → unit_at w u ≡ c.units u
  pub waits : (u : ℕ) (p : Parcel) → u < w.wire.served → Memᴰ p (w.wire.waiting u) → (Has w.falses p.sender → ⊥) → WasSent c p
  pub handed_in : (x : Writing) → Memᴰ x c.handed → (t : T) × Memᴰ t ts × (y.written t ≡ x)

-- what goes out waits, and nothing else is new
goes_in : (rule : Rule) (n from : ℕ) (ms : List Said) (a b : Meaning) (laid lost : ℕ) → GoesOut rule n from ms a b laid lost
    → (u : ℕ) (p : Parcel) → Memᴰ p (b.waiting u)
    → Memᴰ p (a.waiting u) ⊎ ((m : Said) × Memᴰ m ms × (p ≡ parcel from (packet_said m)) × (handed (packet_said m) ≡ m))
goes_in rule n from ms a b laid lost nothing u p h = inl h
goes_in rule n from ms a b laid lost (next {m = m} {ms = rest} {b = mid} {tally = tally} {laid = x} {lost = z} says sent more) u p h =
    elim (goes_in rule n from rest mid b x z more u p h) [
      | inl k ↦ elim (sent_in rule from (packet_said m) a n mid tally.laid tally.lost sent.chain u p k) [
        | inl i ↦ inl i
        | inr i ↦ inr (m, Memᴰ.head refl, i.1, says)
      ]
      | inr k ↦ inr (k.0, Memᴰ.tail k.1, k.2, k.3)
    ]

goes_served : (rule : Rule) (n from : ℕ) (ms : List Said) (a b : Meaning) (laid lost : ℕ) → GoesOut rule n from ms a b laid lost → b.served ≡ a.served
goes_served rule n from ms a b laid lost nothing = refl
goes_served rule n from ms a b laid lost (next {m = m} {ms = rest} {b = mid} {tally = tally} {laid = x} {lost = z} says sent more) =
    goes_served rule n from rest mid b x z more ∙ sent_served rule from (packet_said m) a n mid tally.laid tally.lost sent.chain

module _ {T : Type 0} (y : Ways T) where
  -- a sound unit acts, and what it sends goes out
  module _ (a : World) (c : Course) (ts ts' : List T) (told : Told y a c ts) (u : ℕ) (act : Act) (sound : Sound a u) (may : MayHappen a.falses c act)
      (ok : act_fault views a.table u act (unit_at a u) ≡ None) (m : Meaning) (laid lost : ℕ)
      (out : GoesOut y.rule a.table.units u (outgoing (act_sends views a.table u act (unit_at a u)) (act_done views a.table u act (unit_at a u))) a.wire m laid lost)
      (more : (t : T) → Memᴰ t ts → Memᴰ t ts') (hand : (x : Writing) → Memᴰ x (handed_to act) → (t : T) × Memᴰ t ts' × (y.written t ≡ x)) where
    same : unit_at a u ≡ c.units u
    same = told.states u sound.0

    abbrev then : Course
    then = after views a.table c u act

    abbrev new : World
    new = world a.table a.falses (set a.units u (act_done views a.table u act (unit_at a u))) m

    new_state : (x : ℕ) → x < a.table.units → unit_at new x ≡ then.units x
    new_state x lt = elim (ℕ_discrete u x) [
      | yes e ↦
          subst (λ z. unit_at new z ≡ then.units z) e
          (get_or-set_same a.units u (act_done views a.table u act (unit_at a u)) fresh (let r = told.roomy in let l = sound.0 in omega arith)
          ∙ ap (act_done views a.table u act) same
          ∙ sym (replaced_same c.units u (act_done views a.table u act (c.units u))))
      | no ne ↦
          get_or-set_other a.units u x (act_done views a.table u act (unit_at a u)) fresh (λ e. ne (sym e))
          ∙ told.states x lt
          ∙ sym (replaced_other c.units u x (act_done views a.table u act (c.units u)) ne)
    ]

    old_sent : (p : Parcel) → WasSent c p → WasSent then p
    old_sent p (said, k, e, h) = (said, Memᴰ.append_right (map (sent_by u) (said_after views a.table c u act)) k, e, h)

    now_sent : (p : Parcel) (said : Said) → Memᴰ said (outgoing (act_sends views a.table u act (unit_at a u)) (act_done views a.table u act (unit_at a u)))
        → p ≡ parcel u (packet_said said) → handed (packet_said said) ≡ said → WasSent then p
    now_sent p said k e h =
        let k' : Memᴰ said (said_after views a.table c u act) =
        subst (λ (z : State). Memᴰ said (outgoing (act_sends views a.table u act z) (act_done views a.table u act z))) same k in
        let by : p.sender ≡ u = ap (λ (z : Parcel). z.sender) e in (
          said,
          subst (λ z. Memᴰ (sent_by z said) then.sent) (sym by) (Memᴰ.append_left c.sent (Memᴰ.map (sent_by u) k')),
          ap (λ (z : Parcel). z.bytes) e,
          h,
        )

    acted : Told y new then ts'
    acted = record {
      proper = told.proper;
      bearable = told.bearable;
      roomy = subst (λ z. a.table.units ≤ z) (sym (length-set a.units u (act_done views a.table u act (unit_at a u)))) told.roomy;
      serves = goes_served y.rule a.table.units u _ a.wire m laid lost out ∙ told.serves;
      running = acts u act told.running sound may (subst (λ (z : State). act_fault views a.table u act z ≡ None) same ok);
      states = new_state;
      waits = λ x p lt k not_false.
          let lt' : x < a.wire.served = subst (λ z. x < z) (goes_served y.rule a.table.units u _ a.wire m laid lost out) lt in
          elim (goes_in y.rule a.table.units u _ a.wire m laid lost out x p k) [
            | inl i ↦ old_sent p (told.waits x p lt' i not_false)
            | inr i ↦ now_sent p i.0 i.1 i.2 i.3
          ];
      handed_in = λ x k. elim (Memᴰ.append_cases (handed_to act) k) [
        | inl i ↦ hand x i
        | inr i ↦ let (t, j, e) = told.handed_in x i in (t, more t j, e)
      ];
    }

  -- only the wire changes: what waits after it waited before, or is under a false unit's number
  module _ (a : World) (c : Course) (ts : List T) (told : Told y a c ts) (m : Meaning) (serves : m.served ≡ a.wire.served)
      (old : (u : ℕ) (p : Parcel) → Memᴰ p (m.waiting u) → Memᴰ p (a.wire.waiting u) ⊎ Has a.falses p.sender) where
    on_wire : Told y (world a.table a.falses a.units m) c ts
    on_wire = record {
      proper = told.proper;
      bearable = told.bearable;
      roomy = told.roomy;
      serves = serves ∙ told.serves;
      running = told.running;
      states = told.states;
      waits = λ u p lt k not_false. elim (old u p k) [
        | inl i ↦ told.waits u p (subst (λ z. u < z) serves lt) i not_false
        | inr i ↦ absurd (not_false i)
      ];
      handed_in = told.handed_in;
    }

  -- a delivery hands over what its sender sent, or what is under a false unit's number
  module _ (a : World) (c : Course) (ts : List T) (told : Told y a c ts) (u k : ℕ) where
    delivered : (ok : u < a.wire.served) → k < length (a.wire.waiting u) → Came a.falses c (waiting_at a u k).sender (handed (waiting_at a u k).bytes)
    delivered lt lk = elim (has? a.falses (waiting_at a u k).sender) [
      | yes h ↦ inl h
      | no n ↦
          let (said, i, e, h) = told.waits u (waiting_at a u k) lt (get_or_in (a.wire.waiting u) k no_parcel lk) n in
          inr (subst (λ (z : Said). Memᴰ (sent_by (waiting_at a u k).sender z) c.sent) (sym (ap handed e ∙ h)) i)
    ]

  no_hand : {X : Type 0} (x : Writing) → Memᴰ x [] → X
  no_hand x k = absurd (Memᴰ.not-nil k)

  -- what an accepted call leads to, with its deeds and its tickets
  abbrev Leads : World → Call T → Course → List T → World → Type 0
  Leads a c now ts b = Told y b (worked_from views a.table now (deeds y a c)) (ts ++ tickets c)

  unchanged : (a b : World) (now : Course) (ts : List T) → b ≡ a → Told y a now ts → Told y b now (ts ++ [])
  unchanged a b now ts e told = subst (λ (z : World). Told y z now (ts ++ [])) (sym e) (subst (λ (l : List T). Told y a now l) (sym (append-nil ts)) told)

  pub led : (a b : World) (c : Call T) (v : Answer c) (now : Course) (ts : List T) → Told y a now ts → fault y a c ≡ None → Effect y a c v b → Leads a c now ts b
  led a b (call.put u t) v now ts told ok e =
      let (asks, f) = both_none _ _ ok in
      subst (λ (z : World). Told y z (after views a.table now u (putting (y.written t))) (ts ++ (t ∷ []))) (sym e.units)
      (acted a now ts (ts ++ (t ∷ [])) told u (putting (y.written t)) (asked_sound a u asks) tt (mapped_none _ _ f) b.wire _ _ e.out
      (λ z k. Memᴰ.append_left (t ∷ []) k)
      (λ x k. (t, Memᴰ.append_right ts (Memᴰ.head refl), elim (Memᴰ.cases_cons k) [ inl i ↦ sym i | inr i ↦ no_hand x i ])))
  led a b (call.deliver u k) v now ts told ok e =
      let (first, g) = both_none _ _ ok in
      let (asks, reads) = both_none _ _ first in
      let (looks, h) = both_none _ _ reads in
      let (lt, lk, long) = look_asked a.wire u k (replicate packet_bytes 0) (mapped_none _ _ looks) in
      let act = receiving (waiting_at a u k).sender (handed (waiting_at a u k).bytes) in
      subst (λ (z : World). Told y z (after views a.table now u act) (ts ++ [])) (sym e.units)
      (acted a now ts (ts ++ []) told u act (asked_sound a u asks) (delivered a now ts told u k lt lk) (mapped_none _ _ g) b.wire _ _ e.out
      (λ z i. Memᴰ.append_left [] i) (λ x i. no_hand x i))
  led a b (call.announce u) v now ts told ok e = unchanged a b now ts e.0 told
  led a b (call.raise u w) v now ts told ok e =
      let (asks, f) = both_none _ _ ok in
      subst (λ (z : World). Told y z (after views a.table now u (raising w)) (ts ++ [])) (sym e.units)
      (acted a now ts (ts ++ []) told u (raising w) (asked_sound a u asks) tt (mapped_none _ _ f) b.wire _ _ e.out (λ z i. Memᴰ.append_left [] i) (λ x i. no_hand x i))
  led a b (call.repeat u) v now ts told ok e =
      let (asks, f) = both_none _ _ ok in
      subst (λ (z : World). Told y z (after views a.table now u repeating) (ts ++ [])) (sym e.units)
      (acted a now ts (ts ++ []) told u repeating (asked_sound a u asks) tt refl b.wire _ _ e.out (λ z i. Memᴰ.append_left [] i) (λ x i. no_hand x i))
  led a b (call.lose u k) v now ts told ok e =
      unchanged (world a.table a.falses a.units b.wire) b now ts e.0
      (on_wire a now ts told b.wire e.1.1.served (λ x p i. inl (drop_in a.wire b.wire u k e.1.1 x p i)))
  led a b (call.forge from to bytes) v now ts told ok e =
      let (asks, f) = both_none _ _ ok in
      unchanged (world a.table a.falses a.units b.wire) b now ts e.0
      (on_wire a now ts told b.wire e.1.1.served
      (λ x p i. elim (post_in a.wire b.wire from to bytes e.1.1 x p i) [
        | inl j ↦ inl j
        | inr j ↦ inr (subst (Has a.falses) (sym (ap (λ (z : Parcel). z.sender) j.1)) (forged_false a from to asks))
      ]))
  led a b (call.choice u q) v now ts told ok e = unchanged a b now ts e.0 told

-- the rules worked through one list of deeds and then another
worked_then : (n : ℕ) (tb : QuorumTable) (c : Course) (ds es : List Deed) → worked_from n tb c (ds ++ es) ≡ worked_from n tb (worked_from n tb c ds) es
worked_then n tb c [] es = refl
worked_then n tb c (d ∷ ds) es = worked_then n tb (after n tb c d.unit d.act) ds es

-- no call changes the table
module _ {T : Type 0} (y : Ways T) where
  table_stays : (a b : World) (c : Call T) (v : Answer c) → Effect y a c v b → b.table ≡ a.table
  table_stays a b (call.put u t) v e = ap (λ (z : World). z.table) e.units
  table_stays a b (call.deliver u k) v e = ap (λ (z : World). z.table) e.units
  table_stays a b (call.announce u) v e = ap (λ (z : World). z.table) e.0
  table_stays a b (call.raise u w) v e = ap (λ (z : World). z.table) e.units
  table_stays a b (call.repeat u) v e = ap (λ (z : World). z.table) e.units
  table_stays a b (call.lose u k) v e = ap (λ (z : World). z.table) e.0
  table_stays a b (call.forge from to bytes) v e = ap (λ (z : World). z.table) e.0
  table_stays a b (call.choice u q) v e = ap (λ (z : World). z.table) e.0

  -- the moment of the rules that a shed's world is after a run
  abbrev Tells : (w : World) → List Deed → List T → Type 0
  Tells w ds ts = Told y w (worked views w.table ds) ts

  did_tells : (a b : World) (c : Call T) (r : Result (Answer c) ShedFault) (ds : List Deed) (ts : List T) → Tells a ds ts → Did y a c r b
      → Tells b (ds ++ if_ok r (deeds y a c)) (ts ++ if_ok r (tickets c))
  did_tells a b c (Err f) ds ts told (e, same) =
      subst (λ (z : World). Tells z (ds ++ []) (ts ++ [])) (sym same)
      (subst (λ (l : List Deed). Tells a l (ts ++ [])) (sym (append-nil ds)) (subst (λ (l : List T). Tells a ds l) (sym (append-nil ts)) told))
  did_tells a b c (Ok v) ds ts told (ok, e) =
      let k = led y a b c v (worked views a.table ds) ts told ok e in
      let k' : Told y b (worked views a.table (ds ++ deeds y a c)) (ts ++ tickets c) =
      subst (λ (z : Course). Told y b z (ts ++ tickets c)) (sym (worked_then views a.table (start views a.table) ds (deeds y a c))) k in
      subst (λ (tb : QuorumTable). Told y b (worked views tb (ds ++ deeds y a c)) (ts ++ tickets c)) (sym (table_stays a b c v e)) k'

  made_tells : (a : World) → Made a → Tells a [] []
  made_tells a m = record {
    proper = m.proper;
    bearable = m.bearable;
    roomy = m.roomy;
    serves = m.served;
    running = begin;
    states = m.new;
    waits = λ u p lt k not_false. absurd (Memᴰ.not-nil (subst (λ (l : List Parcel). Memᴰ p l) (m.quiet u lt) k));
    handed_in = λ x k. absurd (Memᴰ.not-nil k);
  }

  pub run_tells : (w : World) (run : Run y w) → Tells w (deeds_of run) (tickets_of run)
  run_tells w (made m) = made_tells w m
  run_tells w (after_call {a = a} c r run did) = did_tells a w c r (deeds_of run) (tickets_of run) (run_tells a run) did
