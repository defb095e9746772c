-- One step of a walk over a report's entries.
use Rattle.std.proofs.Common.{set, append_assoc, ◌++◌, take, ◌≡◌, ℕ, zero, suc, ◌+◌, ◌-◌, ◌<◌, ◌≤◌, cond, List, [], ◌∷◌, length, get_or, Some, None, Option, sym, refl, ap, ◌∙◌, ap₂, arith}
use Rattle.std.proofs.lemmas.List.{take_more_set, append-nil, take_all, get_or_past, ext_get_or}
use Rattle.packet.specs.declared.fault.PacketFault.{PacketFault}
use Rattle.rows.specs.declared.row.Row.{Row}
use Rattle.packet.specs.Said.{next, row_at, entry_at, entries_at, padded}
use Rattle.packet.specs.declared.entries.Entries.{Entries}
use Rattle.packet.specs.declared.place.Place.{Place}
use Rattle.packet.specs.Entries.{NextEntry, HasRowAt}
use Rattle.std.specs.Option.{option_map, option_flatten}
use Rattle.std.specs.List.{slice_get}
use Rattle.base.specs.Asked.{first}
use Rattle.packet.specs.Questions.{entry_shape, entries_shape, ends_at, entry_fault, entries_fault}

-- the entries that are left, one fewer each time
pub left : (n k : ℕ) → k < n → n - k ≡ suc (n - (k + 1))
left n k h = omega arith

pub none_left : (n k : ℕ) → n ≤ k → n - k ≡ 0
none_left n k h = omega arith

-- what a question answers of an entry
abbrev pub ask_of : (ℕ → Option PacketFault) → Option Place → Option PacketFault
ask_of ask None = None
ask_of ask (Some p) = ask p.at

asked_there : (ask : ℕ → Option PacketFault) (s : Entries) (row : Option Place) → HasRowAt row s → entry_fault ask s.bytes.now s.at ≡ ask_of ask row
asked_there ask s None h = ap (λ b. cond b (ask (s.at + 4)) None) h
asked_there ask s (Some p) h = ap (λ b. cond b (ask (s.at + 4)) None) h.0 ∙ sym (ap ask h.2)

pub faults_more : (ask : ℕ → Option PacketFault) (bs : List ℕ) (s t : Entries) (row : Option Place) → s.bytes.now ≡ bs → NextEntry s (Some row) t → entries_fault ask bs s.left s.at ≡ first (ask_of ask row) (entries_fault ask bs t.left t.at)
unfolding entries_fault
faults_more ask bs s t row e h =
    ap₂ (λ (l : List ℕ) n. entries_fault ask l n s.at) (sym e) h.0
    ∙ ap₂ first (asked_there ask s row h.3) (ap₂ (λ (l : List ℕ) n. entries_fault ask l t.left n) e (sym h.2))

-- where it answers nothing it is asked of the next, and else its fault is the first
pub faults_go :
    (ask : ℕ → Option PacketFault) (bs : List ℕ) (s t : Entries) (row : Option Place) (whole : Option PacketFault) → s.bytes.now ≡ bs → NextEntry s (Some row) t
    → ask_of ask row ≡ None → entries_fault ask bs s.left s.at ≡ whole → entries_fault ask bs t.left t.at ≡ whole
faults_go ask bs s t row whole e h none inv = sym (ap (λ o. first o (entries_fault ask bs t.left t.at)) none) ∙ sym (faults_more ask bs s t row e h) ∙ inv

pub faults_stop :
    (ask : ℕ → Option PacketFault) (bs : List ℕ) (s t : Entries) (row : Option Place) (whole : Option PacketFault) (fault : PacketFault) → s.bytes.now ≡ bs → NextEntry s (Some row) t
    → ask_of ask row ≡ Some fault → entries_fault ask bs s.left s.at ≡ whole → whole ≡ Some fault
faults_stop ask bs s t row whole fault e h some inv = sym inv ∙ faults_more ask bs s t row e h ∙ ap (λ o. first o (entries_fault ask bs t.left t.at)) some

pub faults_end : (ask : ℕ → Option PacketFault) (bs : List ℕ) (n i : ℕ) → n ≡ 0 → entries_fault ask bs n i ≡ None
unfolding entries_fault
faults_end ask bs n i e = ap (λ n. entries_fault ask bs n i) e

-- one entry's shape after another
pub shape_more : (bs : List ℕ) (n k i : ℕ) → k < n → entries_shape bs (n - k) i ≡ first (entry_shape bs i) (entries_shape bs (n - (k + 1)) (next bs i))
unfolding entries_shape
shape_more bs n k i h = rw (left n k h)

pub shape_end : (bs : List ℕ) (n k i : ℕ) → n ≤ k → entries_shape bs (n - k) i ≡ ends_at bs i
unfolding entries_shape
shape_end bs n k i h = rw (none_left n k h)

pub entries_length : (bs : List ℕ) (n i : ℕ) → length (entries_at bs n i) ≡ n
unfolding entries_at
entries_length bs zero i = refl
entries_length bs (suc n) i = ap suc (entries_length bs n (next bs i))

pub entry_past : (bs : List ℕ) (n v i : ℕ) → n ≤ v → get_or (entries_at bs n i) v None ≡ None
entry_past bs n v i h = get_or_past (entries_at bs n i) v None (omega (arith, entries_length bs n i))

-- what an iterator of entries has left
abbrev pub entries_left : Entries → List (Option Row)
entries_left s = entries_at s.bytes.now s.left s.at

abbrev pub row_of : Option Place → Option Row
row_of = option_map (λ p. row_at p.bytes.now p.at)

pub no_entries : (s : Entries) → s.left ≡ 0 → entries_left s ≡ []
unfolding entries_at
no_entries s e = ap (λ n. entries_at s.bytes.now n s.at) e

row_there : (s : Entries) (row : Option Place) → HasRowAt row s → entry_at s.bytes.now s.at ≡ row_of row
row_there s None h = ap (λ b. cond b (Some (row_at s.bytes.now (s.at + 4))) None) h
row_there s (Some p) h = ap (λ b. cond b (Some (row_at s.bytes.now (s.at + 4))) None) h.0 ∙ sym (ap₂ (λ (l : List ℕ) n. Some (row_at l n)) h.1 h.2)

pub entry_after : (s : Entries) (row : Option Place) (t : Entries) → NextEntry s (Some row) t → entries_left s ≡ row_of row ∷ entries_left t
unfolding entries_at
entry_after s row t h =
    ap (λ n. entries_at s.bytes.now n s.at) h.0
    ∙ ap₂ (λ e (es : List (Option Row)). e ∷ es) (row_there s row h.3) (sym (ap₂ (λ (l : List ℕ) n. entries_at l t.left n) h.1 h.2))

flat_get : (es : List (Option Row)) (k : ℕ) → option_flatten (slice_get es k) ≡ get_or es k None
flat_get [] k = refl
flat_get (e ∷ es) zero = refl
flat_get (e ∷ es) (suc k) = flat_get es k

flat_row : (e : Option (Option Place)) → row_of (option_flatten e) ≡ option_flatten (option_map row_of e)
flat_row None = refl
flat_row (Some row) = refl

-- the entry of a view is that many after the first
pub entry_nth : (es : List (Option Row)) (k : ℕ) (e : Option (Option Place)) → option_map row_of e ≡ slice_get es k → row_of (option_flatten e) ≡ get_or es k None
entry_nth es k e h = flat_row e ∙ ap option_flatten h ∙ flat_get es k

-- padded has as many entries as asked, each that of the list, and is the one list with them
pub length_padded : (n : ℕ) (es : List (Option Row)) → length (padded n es) ≡ n
unfolding padded
length_padded zero es = refl
length_padded (suc n) [] = ap suc (length_padded n [])
length_padded (suc n) (e ∷ es) = ap suc (length_padded n es)

pub get_or_padded : (n : ℕ) (es : List (Option Row)) (k : ℕ) → k < n → get_or (padded n es) k None ≡ get_or es k None
unfolding padded
get_or_padded zero es k h = absurd (omega arith)
get_or_padded (suc n) [] zero h = refl
get_or_padded (suc n) [] (suc k) h = get_or_padded n [] k (omega arith)
get_or_padded (suc n) (e ∷ es) zero h = refl
get_or_padded (suc n) (e ∷ es) (suc k) h = get_or_padded n es k (omega arith)

pub is_padded : (rows : List (Option Row)) (n : ℕ) (es : List (Option Row)) → length rows ≡ n → ((k : ℕ) → k < n → get_or rows k None ≡ get_or es k None) → rows ≡ padded n es
is_padded rows n es l f = ext_get_or None rows (padded n es) (l ∙ sym (length_padded n es)) (λ k h. f k (omega arith) ∙ sym (get_or_padded n es k (omega arith)))

-- the next entry is the first of the padded ones
pub padded_next : (n : ℕ) (s t : Entries) (e : Option (Option Place)) → NextEntry s e t → padded (suc n) (entries_left s) ≡ row_of (option_flatten e) ∷ padded n (entries_left t)
unfolding padded
padded_next n s t None h = ap (padded (suc n)) (no_entries s h.0) ∙ ap (λ (es : List (Option Row)). None ∷ padded n es) (sym (no_entries t h.1))
padded_next n s t (Some row) h = ap (padded (suc n)) (entry_after s row t h)

-- rows that are filled up to a place, and one more
pub filled_more :
    (rows whole es fs : List (Option Row)) (n i : ℕ) (row : Option Row) → i < length rows → i < n → ((n : ℕ) → padded (suc n) es ≡ row ∷ padded n fs)
    → take i rows ++ padded (n - i) es ≡ whole → take (i + 1) (set rows i row) ++ padded (n - (i + 1)) fs ≡ whole
filled_more rows whole es fs n i row h k next inv =
    ap (λ (xs : List (Option Row)). xs ++ padded (n - (i + 1)) fs) (take_more_set rows i row h)
    ∙ append_assoc (take i rows) (row ∷ []) (padded (n - (i + 1)) fs)
    ∙ ap (λ (xs : List (Option Row)). take i rows ++ xs) (sym (next (n - (i + 1))) ∙ ap (λ n. padded n es) (sym (left n i k))) ∙ inv

pub filled_all : (rows whole es : List (Option Row)) (n i : ℕ) → length rows ≤ i → n ≤ i → take i rows ++ padded (n - i) es ≡ whole → rows ≡ whole
unfolding padded
filled_all rows whole es n i h k inv =
    sym (append-nil rows) ∙ ap₂ (λ (xs ys : List (Option Row)). xs ++ ys) (sym (take_all i rows h)) (sym (ap (λ n. padded n es) (none_left n i k))) ∙ inv
