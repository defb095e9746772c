-- What the used slots hold for each unit.
use Rattle.std.proofs.Common.{◌≡◌, ℕ, suc, ◌+◌, ◌-◌, ◌<◌, ◌≤◌, cond, eqb, List, [], ◌∷◌, ◌++◌, map, length, get_or, take, set, filter as kept_by, sym, refl, ap, ◌∙◌, subst, ap₂, ⊎_elim, zero-add, arith}
use Rattle.std.specs.List.{copy_within, remove}
use Rattle.std.proofs.lemmas.List.Elements.{filter-append}
use Rattle.std.proofs.lemmas.List.{append-nil, length-append, length-map, length-take-le, take_more_set, get_or-take, get_or_at, get_or-map, map_push}
use Rattle.std.proofs.lemmas.Bool.{eq-eqb, ne_eqb, cases_eq}
use Rattle.wire.specs.Meaning.{parcel, no_parcel}
use Rattle.wire.proofs.Rows.{row_less, removed_map}
use Rattle.wire.specs.Calls.{Posted, Dropped, waits_at}
use Rattle.wire.specs.Stores.{Waits}
use Rattle.bus.specs.declared.bus.Bus.{Bus}
use Rattle.bus.specs.declared.entry.BusSlot.{BusSlot}
use Rattle.bus.specs.Shared.{SharedPlaces, sum_below}
use Rattle.bus.specs.Store.{packet_of, is_for, waits, kept_in, means_of, Stands}
use Rattle.bus.proofs.Sums.{sum_none, sum_add, sum_one}

-- one more slot
module _ (b : Bus) (x : BusSlot) (room : b.used < length b.slots.now) where
  more : (u : ℕ) → waits (set b.slots.now b.used x) (b.used + 1) u ≡ map packet_of (kept_by (is_for u) (take b.used b.slots.now) ++ cond (is_for u x) (x ∷ []) [])
  more u = ap (λ l. map packet_of (kept_by (is_for u) l)) (take_more_set b.slots.now b.used x room) ∙ ap (map packet_of) (filter-append (is_for u) (take b.used b.slots.now) (x ∷ []))

  pub posted : (from u : ℕ) (bytes : List ℕ) → x.to ≡ u → packet_of x ≡ parcel from bytes → Posted (means_of b) from u bytes (kept_in (set b.slots.now b.used x) (b.used + 1) b.units b.places)
  posted from u bytes to is =
      record {
        served = refl;
        laid = simp (eq-eqb x.to u to) at (more u) ∙ map_push packet_of (kept_by (is_for u) (take b.used b.slots.now)) x ∙ ap (λ p. (means_of b).waiting u ++ (p ∷ [])) is;
        others = λ v ne. simp (ne_eqb x.to v (λ e. ne (sym e ∙ to))) at (more v) ∙ ap (map packet_of) (append-nil (kept_by (is_for v) (take b.used b.slots.now)));
      }

removed_at : {X : Type 0} (xs : List X) (x : X) (ys : List X) → remove (xs ++ (x ∷ ys)) (length xs) ≡ xs ++ ys
removed_at [] x ys = refl
removed_at (w ∷ xs) x ys = ap (λ l. w ∷ l) (removed_at xs x ys)

-- the slot that stands at a place of a unit's list
module _ (b : Bus) (u place i : ℕ) (at : Stands b.slots.now b.used u place i) where
  around : kept_by (is_for u) (take b.used b.slots.now) ≡ kept_by (is_for u) at.before ++ (at.slot ∷ kept_by (is_for u) at.after)
  around = simp (eq-eqb at.slot.to u at.own) at (ap (kept_by (is_for u)) at.whole ∙ filter-append (is_for u) at.before (at.slot ∷ at.after))

  room : b.used ≤ length b.slots.now
  room = omega (arith, b.memory, b.within)

  pub inside : i < b.used
  inside = omega (arith, length-take-le b.used b.slots.now room, ap length at.whole, length-append at.before (at.slot ∷ at.after), at.index)

  here : (d : BusSlot) → get_or b.slots.now i d ≡ at.slot
  here d = sym (get_or-take b.used b.slots.now i d inside) ∙ ap (λ l. get_or l i d) at.whole ∙ get_or_at at.before at.slot at.after d i at.index

  pub stands_waits : Waits (means_of b) u place
  stands_waits = (
    rw at.own at (rw (here at.slot) at (b.addressed i at.slot inside)),
    omega (arith, length-map (kept_by (is_for u) (take b.used b.slots.now)) packet_of, ap length around, length-append (kept_by (is_for u) at.before) (at.slot ∷ kept_by (is_for u) at.after), at.earlier),
  )

  pub slot_at : (d : BusSlot) → waits_at (means_of b) u place ≡ packet_of (get_or b.slots.now i d)
  slot_at d =
      get_or-map packet_of (kept_by (is_for u) (take b.used b.slots.now)) place d no_parcel (omega (arith, length-map (kept_by (is_for u) (take b.used b.slots.now)) packet_of, stands_waits))
      ∙ ap packet_of (ap (λ l. get_or l place d) around ∙ get_or_at (kept_by (is_for u) at.before) at.slot _ d place at.earlier ∙ sym (here d))

  -- the later ones moved down over it
  module _ (t : List BusSlot) (end : ℕ) (all : end ≡ b.used) (moved : t ≡ copy_within b.slots.now (i + 1) end i) where
    rest : take (b.used - 1) t ≡ at.before ++ at.after
    rest =
        row_less b.slots.now t 0 i b.used i end inside (rw zero-add room) (sym (zero-add i)) (all ∙ sym (zero-add b.used)) moved
        ∙ ap₂ remove at.whole (sym at.index)
        ∙ removed_at at.before at.slot at.after

    left : (v : ℕ) → waits t (b.used - 1) v ≡ map packet_of (kept_by (is_for v) at.before ++ kept_by (is_for v) at.after)
    left v = ap (λ l. map packet_of (kept_by (is_for v) l)) rest ∙ ap (map packet_of) (filter-append (is_for v) at.before at.after)

    pub dropped : Dropped (means_of b) u place (kept_in t (b.used - 1) b.units b.places)
    dropped =
        record {
          served = refl;
          gone = left u
              ∙ ap (map packet_of) (sym (removed_at (kept_by (is_for u) at.before) at.slot (kept_by (is_for u) at.after)) ∙ ap₂ remove (sym around) at.earlier)
              ∙ sym (removed_map packet_of (kept_by (is_for u) (take b.used b.slots.now)) place);
          others = λ v ne.
              let other = simp (ne_eqb at.slot.to v (λ e. ne (sym e ∙ at.own))) at (ap (kept_by (is_for v)) at.whole ∙ filter-append (is_for v) at.before (at.slot ∷ at.after)) in
              left v ∙ ap (map packet_of) (sym other);
        }

-- each used slot is counted for just one unit
every : (xs : List BusSlot) (n : ℕ) → ((k : ℕ) (d : BusSlot) → k < length xs → (get_or xs k d).to < n) → sum_below (λ u. length (map packet_of (kept_by (is_for u) xs))) n ≡ length xs
every [] n within = sum_none (λ u. 0) n (λ u h. refl)
every (x ∷ xs) n within =
    let one = sum_one x.to n (within 0 x (omega arith)) in
    let rest = every xs n (λ k d h. within (suc k) d (omega arith)) in
    let split : (u : ℕ) → length (map packet_of (kept_by (is_for u) (x ∷ xs))) ≡ cond (eqb x.to u) 1 0 + length (map packet_of (kept_by (is_for u) xs)) =
    λ u.
    ⊎_elim
    (λ (e : x.to ≡ u). simp (eq-eqb x.to u e) (omega arith))
    (λ ne. simp (ne_eqb x.to u ne) (omega arith))
    (cases_eq x.to u) in
    let both = sum_add (λ u. length (map packet_of (kept_by (is_for u) (x ∷ xs)))) (λ u. cond (eqb x.to u) 1 0) (λ u. length (map packet_of (kept_by (is_for u) xs))) n split in
    omega arith

pub all_used : (slots : List BusSlot) (used n : ℕ) → used ≤ length slots → ((k : ℕ) (d : BusSlot) → k < used → (get_or slots k d).to < n) → sum_below (λ u. length (waits slots used u)) n ≡ used
all_used slots used n room within =
    let l = length-take-le used slots room in
    every (take used slots) n (λ k d h. let k-used : k < used = omega arith in subst (λ (s : BusSlot). s.to < n) (sym (get_or-take used slots k d k-used)) (within k d k-used)) ∙ l

-- the places are those free and those used
pub shared : (slots : List BusSlot) (used n places : ℕ) → places ≤ length slots → used ≤ places → ((k : ℕ) (d : BusSlot) → k < used → (get_or slots k d).to < n) → places - used + sum_below (λ u. length (waits slots used u)) n ≡ places
shared slots used n places memory under within = let s = all_used slots used n (omega arith) within in omega arith

-- the places are those free and those used
pub shared_places : (slots : List BusSlot) (used units places : ℕ) → places ≤ length slots → used ≤ places → ((k : ℕ) (d : BusSlot) → k < used → (get_or slots k d).to < units) → SharedPlaces places (kept_in slots used units places)
shared_places slots used units places memory under within u served =
    let l = length-take-le used slots (omega arith) in
    let all = every (take used slots) units (λ k d h. let k-used : k < used = omega arith in subst (λ (s : BusSlot). s.to < units) (sym (get_or-take used slots k d k-used)) (within k d k-used)) in
    omega arith
