-- Where a unit's places lie, and what its slots hold before and after a call.
use Rattle.std.proofs.Common.{◌≡◌, ℕ, ◌+◌, ◌-◌, ◌*◌, ◌<◌, ◌≤◌, ◌≢◌, ◌⊎◌, List, [], ◌∷◌, ◌++◌, map, length, get_or, set, take, drop, sym, refl, ap, ◌∙◌, ap₂, inl, inr, ⊎_elim, mul-le-mul_right, suc-mul, arith}
use Rattle.std.specs.List.{copy_within, remove}
use Rattle.std.proofs.lemmas.List.{length-take, length-drop, length-map, get_or-set_same, get_or-set_other, map_push, drop-set-add, drop-set-lt, take_more_set, take-set-le}
use Rattle.std.proofs.lemmas.Bool.{cases_lt}
use Rattle.wire.specs.Calls.{Posted, Dropped}
use Rattle.wire.specs.Meaning.{parcel}
use Rattle.wire.specs.declared.slot.Slot.{Slot}
use Rattle.wire.specs.Slots.{parcel_of}
use Rattle.wire.proofs.Rows.{row, Between, set_between, row_stays, row_more, less_between, row_less, removed_map}
use Rattle.boxes.specs.declared.boxes.Boxes.{Boxes}
use Rattle.boxes.specs.Rooms.{OwnPlaces}
use Rattle.boxes.specs.Store.{waits, kept_in, means_of}

-- a lower unit's places end before a higher unit's begin
pub apart : (u v places : ℕ) → u < v → u * places + places ≤ v * places
apart u v places h = rw suc-mul at (mul-le-mul_right places h)

-- a write and a count, of any slots
module _ (slots : List Slot) (counts : List ℕ) (places : ℕ) where
  -- a packet laid at the unit's first free place, and one more counted
  pub laid_here : (u : ℕ) (s : Slot) → u < length counts → u * places + get_or counts u 0 < length slots → waits (set slots (u * places + get_or counts u 0) s) (set counts u (get_or counts u 0 + 1)) places u ≡ waits slots counts places u ++ (parcel_of s ∷ [])
  laid_here u s hu h =
      let n = get_or counts u 0 in
      let b = u * places in
      let room : n < length (drop b slots) = simp length-drop (omega arith) in
      ap₂ (λ m xs. map parcel_of (take m xs)) (get_or-set_same counts u (n + 1) 0 hu) (drop-set-add b slots n s)
      ∙ ap (map parcel_of) (take_more_set (drop b slots) n s room)
      ∙ map_push parcel_of (take n (drop b slots)) s

  -- a write within one unit's places leaves the packets of another
  pub left_there : (u k m v : ℕ) (s : Slot) → k < places → get_or counts v 0 ≤ places → v ≢ u → waits (set slots (u * places + k) s) (set counts u m) places v ≡ waits slots counts places v
  left_there u k m v s hk hv ne =
      let i = u * places + k in
      let n = get_or counts v 0 in
      let below : u < v → take n (drop (v * places) (set slots i s)) ≡ take n (drop (v * places) slots) =
      λ h. ap (take n) (drop-set-lt (v * places) slots i s (omega (arith, apart u v places h))) in
      let above : v < u → take n (drop (v * places) (set slots i s)) ≡ take n (drop (v * places) slots) =
      λ h.
      let far : n ≤ i - v * places = omega (arith, apart v u places h) in
      let there : v * places + (i - v * places) ≡ i = omega (arith, apart v u places h) in
      ap (λ j. take n (drop (v * places) (set slots j s))) (sym there) ∙ ap (take n) (drop-set-add (v * places) slots (i - v * places) s) ∙ take-set-le n (drop (v * places) slots) (i - v * places) s far in
      let sides : (u < v) ⊎ (v < u) = ⊎_elim inl (λ h. inr (omega arith)) (cases_lt u v) in
      ap (λ m. map parcel_of (take m (drop (v * places) (set slots i s)))) (get_or-set_other counts u v m 0 ne) ∙ ap (map parcel_of) (⊎_elim below above sides)

-- a unit's packets and free places are together its places
pub own_places : (slots : List Slot) (counts : List ℕ) (units places : ℕ) → units * places ≤ length slots → ((u : ℕ) → get_or counts u 0 ≤ places) → OwnPlaces places (kept_in slots counts units places)
own_places slots counts units places memory counted u served =
    simp (length-map, length-take, length-drop) (omega (arith, counted u, apart u units places served, memory))

fits : (b : Boxes) (u : ℕ) → u < b.units → u * b.places + b.places ≤ length b.slots.now
fits b u served = omega (arith, apart u b.units b.places served, b.memory)

-- what a change of one unit's slots and count leaves of another unit's packets
left : (b : Boxes) (t : List Slot) (u v n lo hi : ℕ) → Between b.slots.now t lo hi → u * b.places ≤ lo → hi ≤ u * b.places + b.places → v ≢ u → waits t (set b.counts u n) b.places v ≡ (means_of b).waiting v
left b t u v n lo hi same from to ne =
    let m = get_or b.counts v 0 in
    let side : (v * b.places + m ≤ lo) ⊎ (hi ≤ v * b.places) =
    ⊎_elim
    (λ (h : v < u). inl (omega (arith, apart v u b.places h, b.counted v)))
    (λ (h : u ≤ v). inr (omega (arith, apart u v b.places (omega arith))))
    (cases_lt v u) in
    ap (λ j. map parcel_of (row t (v * b.places) j)) (get_or-set_other b.counts u v n 0 ne)
    ∙ ap (map parcel_of) (row_stays b.slots.now t lo hi (v * b.places) m same side)

-- what a packet laid in a unit's next slot, and one taken out, leaves
module _ (b : Boxes) (u n : ℕ) (served : u < b.units) (few : u < length b.counts) (count : n ≡ get_or b.counts u 0) where
  pub posted : (from : ℕ) (bytes : List ℕ) (s : Slot) → parcel_of s ≡ parcel from bytes → n < b.places → Posted (means_of b) from u bytes (kept_in (set b.slots.now (u * b.places + n) s) (set b.counts u (n + 1)) b.units b.places)
  posted from bytes s is room =
      let at = u * b.places in
      record {
        served = refl;
        laid = ap (λ j. map parcel_of (row (set b.slots.now (at + n) s) at j)) (get_or-set_same b.counts u (n + 1) 0 few)
            ∙ ap (map parcel_of) (row_more b.slots.now at n s (omega (arith, fits b u served)))
            ∙ map_push parcel_of (row b.slots.now at n) s
            ∙ ap₂ (λ j p. map parcel_of (row b.slots.now at j) ++ (p ∷ [])) count is;
        others = λ v ne. left b _ u v _ _ _ (set_between b.slots.now (at + n) s) (omega arith) (omega arith) ne;
      }

  pub dropped : (t : List Slot) (k at end : ℕ) → k < n → at ≡ u * b.places + k → end ≡ u * b.places + n → t ≡ copy_within b.slots.now (at + 1) end at → Dropped (means_of b) u k (kept_in t (set b.counts u (n - 1)) b.units b.places)
  dropped t k at end inside here there moved =
      let base = u * b.places in
      let room : base + n ≤ length b.slots.now = omega (arith, fits b u served, b.counted u) in
      record {
        served = refl;
        gone = ap (λ j. map parcel_of (row t base j)) (get_or-set_same b.counts u (n - 1) 0 few)
            ∙ ap (map parcel_of) (row_less b.slots.now t base k n at end inside room here there moved)
            ∙ sym (removed_map parcel_of (row b.slots.now base n) k)
            ∙ ap (λ j. remove (map parcel_of (row b.slots.now base j)) k) count;
        others = λ v ne. left b t u v _ at (end - 1) (less_between b.slots.now t base k n at end inside room here there moved) (omega arith) (omega (arith, b.counted u)) ne;
      }
