-- What holds of every run of a wire.
use Rattle.std.proofs.Common.{◌≡◌, ℕ, ◌<◌, ◌⊎◌, List, [], ◌∷◌, ◌++◌, length, get_or, Ok, Err, Result, sym, refl, ap, ◌∙◌, subst, inl, inr, ⊎_elim, MatchResult}
use mathlib.Core.List.Memᴰ
use mathlib.Core.List.{Memᴰ}
use Rattle.std.specs.List.{remove}
use Rattle.std.specs.List.Sorted.{IsPermutation}
use Rattle.std.proofs.lemmas.List.{append_assoc, get_or_default}
use Rattle.std.proofs.lemmas.List.Sorted.{IsPermutation-refl, IsPermutation-sym, IsPermutation-trans, IsPermutation-append_left, IsPermutation-push_more, IsPermutation-middle, IsPermutation-remove}
use Rattle.std.proofs.lemmas.Bool.{eq-eqb, ne_eqb}
use Rattle.wire.specs.declared.fault.WireFault.{WireFault}
use Rattle.wire.specs.Calls.{Happens, Refused, post_fault, drop_fault}
use Rattle.wire.specs.Meaning.{Meaning, Rule, Event, posting, dropping, resting, Parcel, parcel, no_parcel}
use Rattle.wire.specs.Runs.{Run, start, next, posted_to, dropped_of, Account, Accounted, Honest, RunsOfSends}
use Rattle.wire.specs.Sends.{none, laid, lost}
use Rattle.wire.proofs.Effects.{post_lists, drop_lists, post_in, drop_in, drop_asked}

-- one more on both sides
pushed : {X : Type 0} (before posted after gone : List X) (x : X) → IsPermutation (before ++ posted) (after ++ gone) → IsPermutation (before ++ (posted ++ (x ∷ []))) ((after ++ (x ∷ [])) ++ gone)
pushed before posted after gone x h =
    rw (append_assoc after (x ∷ []) gone, ← append_assoc before posted (x ∷ [])) (IsPermutation-push_more _ _ _ x h (IsPermutation-sym _ _ (IsPermutation-middle after x gone)))

-- one taken out of what is left goes to what is gone
taken : {X : Type 0} (all xs gone : List X) (i : ℕ) (d : X) → i < length xs → IsPermutation all (xs ++ gone) → IsPermutation all (remove xs i ++ (get_or xs i d ∷ gone))
taken all xs gone i d h s =
    let out = IsPermutation-append_left gone _ _ (IsPermutation-remove xs i (get_or xs i d) h (get_or_default xs i d _ h)) in
    IsPermutation-trans _ _ _ s (IsPermutation-trans _ _ _ out (IsPermutation-sym _ _ (IsPermutation-middle (remove xs i) (get_or xs i d) gone)))

pub happens_served : (rule : Rule) (a b : Meaning) (e : Event) → Happens rule a e b → b.served ≡ a.served
happens_served rule a b (posting from to packet) did = did.1.served
happens_served rule a b (dropping unit place) did = did.1.served
happens_served rule a b resting did = ap (λ m. m.served) did

pub run_served : (rule : Rule) (a b : Meaning) (es : List Event) → Run rule a es b → b.served ≡ a.served
run_served rule a _ _ start = refl
run_served rule a c _ (next {es = es} {e = e} {b = b} r did) = happens_served rule b c e did ∙ run_served rule a b es r

-- one unit's account, one event on
step : (rule : Rule) (a b c : Meaning) (es : List Event) (e : Event) (u : ℕ) → Happens rule b e c → Account a b es u → Account a c (e ∷ es) u
step rule a b c es (posting from to packet) u did acc =
    ⊎_elim
    (λ (p : (u ≡ to) × (c.waiting u ≡ b.waiting u ++ (parcel from packet ∷ []))).
    let t = eq-eqb to u (sym p.0) in
    record {
      exact = simp t (p.1 ∙ ap (λ l. l ++ (parcel from packet ∷ [])) acc.exact);
      balance = simp (t, p.1) (pushed (a.waiting u) (posted_to u es) (b.waiting u) (dropped_of (a.waiting u) u es) (parcel from packet) acc.balance);
    })
    (λ (p : (u ≡ to → ⊥) × (c.waiting u ≡ b.waiting u)).
    let t = ne_eqb to u (λ q. p.0 (sym q)) in
    record { exact = simp t (p.1 ∙ acc.exact); balance = simp (t, p.1) acc.balance })
    (post_lists b c from to packet did.1 u)
step rule a b c es (dropping unit place) u did acc =
    ⊎_elim
    (λ (p : (u ≡ unit) × (c.waiting u ≡ remove (b.waiting u) place)).
    let t = eq-eqb unit u (sym p.0) in
    let within : place < length (b.waiting u) = subst (λ (v : ℕ). place < length (b.waiting v)) (sym p.0) (drop_asked b unit place did.0).1 in
    let out = taken (a.waiting u ++ posted_to u es) (b.waiting u) (dropped_of (a.waiting u) u es) place no_parcel within acc.balance in
    let named = subst (λ (l : List Parcel). IsPermutation (a.waiting u ++ posted_to u es) (remove (b.waiting u) place ++ (get_or l place no_parcel ∷ dropped_of (a.waiting u) u es))) acc.exact out in
    record {
      exact = simp t (p.1 ∙ ap (λ l. remove l place) acc.exact);
      balance = simp (t, p.1) named;
    })
    (λ (p : (u ≡ unit → ⊥) × (c.waiting u ≡ b.waiting u)).
    let t = ne_eqb unit u (λ q. p.0 (sym q)) in
    record { exact = simp t (p.1 ∙ acc.exact); balance = simp (t, p.1) acc.balance })
    (drop_lists b c unit place did.1 u)
step rule a b c es resting u did acc =
    let same : c.waiting u ≡ b.waiting u = ap (λ m. m.waiting u) did in
    record { exact = same ∙ acc.exact; balance = rw same acc.balance }

account : (rule : Rule) (a b : Meaning) (es : List Event) → Run rule a es b → (u : ℕ) → Account a b es u
account rule a _ _ start u = record { exact = refl; balance = IsPermutation-refl (a.waiting u ++ []) }
account rule a c _ (next {es = es} {e = e} {b = b} r did) u = step rule a b c es e u did (account rule a b es r u)

pub accounted : (rule : Rule) → Accounted rule
accounted rule a b es r = (run_served rule a b es r, account rule a b es r)

-- what waits one event on waited before, or the event posted it
waits_on : (rule : Rule) (b c : Meaning) (e : Event) → Happens rule b e c → (u : ℕ) (x : Parcel) → Memᴰ x (c.waiting u) → Memᴰ x (b.waiting u) ⊎ (posting x.sender u x.bytes ≡ e)
waits_on rule b c (posting from to packet) did u x m =
    ⊎_elim inl (λ (p : (u ≡ to) × (x ≡ parcel from packet)). inr (ap (λ (y : Parcel). posting y.sender u y.bytes) p.1 ∙ ap (λ v. posting from v packet) p.0)) (post_in b c from to packet did.1 u x m)
waits_on rule b c (dropping unit place) did u x m = inl (drop_in b c unit place did.1 u x m)
waits_on rule b c resting did u x m = inl (subst (λ (w : Meaning). Memᴰ x (w.waiting u)) did m)

pub honest : (rule : Rule) → Honest rule
honest rule a _ _ quiet start u h x m = absurd (Memᴰ.not-nil (subst (λ (l : List Parcel). Memᴰ x l) (quiet u h) m))
honest rule a c _ quiet (next {es = es} {e = e} {b = b} r did) u h x m =
    let below : u < b.served = rw (happens_served rule b c e did) at h in
    ⊎_elim
    (λ (w : Memᴰ x (b.waiting u)). Memᴰ.tail (honest rule a b es quiet r u below x w))
    (λ (q : posting x.sender u x.bytes ≡ e). Memᴰ.head q)
    (waits_on rule b c e did u x m)

-- runs join
pub run_join : (rule : Rule) (a b c : Meaning) (es fs : List Event) → Run rule a es b → Run rule b fs c → Run rule a (fs ++ es) c
run_join rule a b _ es _ r start = r
run_join rule a b c es _ r (next {es = fs} {e = e} {b = d} q did) = next (run_join rule a b d es fs r q) did

-- a call is a step of a run, by what it promises
pub post_happens : {T : Type 0} (rule : Rule) (r : Result T WireFault) (a b : Meaning) (from to : ℕ) (packet : List ℕ) → MatchResult r (λ _. Happens rule a (posting from to packet) b) (λ e. Refused (post_fault a from to packet) e a b) → (e : Event) × Happens rule a e b
post_happens rule (Ok v) a b from to packet h = (posting from to packet, h)
post_happens rule (Err e) a b from to packet h = (resting, h.1)

pub drop_happens : {T : Type 0} (rule : Rule) (r : Result T WireFault) (a b : Meaning) (unit place : ℕ) → MatchResult r (λ _. Happens rule a (dropping unit place) b) (λ e. Refused (drop_fault a unit place) e a b) → (e : Event) × Happens rule a e b
drop_happens rule (Ok v) a b unit place h = (dropping unit place, h)
drop_happens rule (Err e) a b unit place h = (resting, h.1)

-- a chain of posts is a run
pub sent_run : (rule : Rule) → RunsOfSends rule
sent_run rule from packet a _ _ _ _ none = ([], start)
sent_run rule from packet a _ c _ _ (laid {n = n} {b = b} {x = x} {y = y} before did) =
    let r = sent_run rule from packet a n b x y before in
    (posting from n packet ∷ r.0, next r.1 did)
sent_run rule from packet a _ b _ _ (lost {n = n} {x = x} {y = y} before full) = sent_run rule from packet a n b x y before
