-- A packet that is written says what was written, where each number fits its word.
use Rattle.std.proofs.Common.{◌≡◌, ℕ, zero, suc, ◌^◌, ◌<◌, ◌≤◌, List, [], ◌∷◌, length, get_or, get_or-take, take, drop, Some, None, Option, sym, refl, ap, ◌∙◌, ap₂, arith}
use Rattle.base.specs.Limits.{views, packet_bytes}
use Rattle.rows.specs.declared.row.Row.{Row}
use Rattle.ticket.specs.Writings.{Words}
use Rattle.ticket.specs.declared.writing.Writing.{Writing}
use Rattle.ticket.specs.InBytes.{word_of}
use Rattle.packet.specs.Said.{says_put, says_row, says_report, said_by, entries_at, next, padded}
use Rattle.packet_write.specs.Writes.{entries_bytes, writing}
use Rattle.packet_write.proofs.Lengths.{report_length}
use Rattle.packet_laws.proofs.Parts.{ticket_here, row_here}
use Rattle.packet_laws.proofs.Entries.{stands_none, stands_row}
use Rattle.unit.specs.States.{below}
use Rattle.unit.specs.Letters.{said_of}
use Rattle.unit.specs.declared.letter.Letter.{Letter}
use Rattle.unit.specs.declared.letter.Letter.TheVariants as letters
use Rattle.sending.specs.Letters.{RowFits, EntryFits, RowsFit, IsOwn}
use Rattle.calls.specs.Calls.{packet_said, heard_as, handed}

-- each entry fits
unfoldable pub AllFit : List (Option Row) → Type 0
AllFit [] = Unit {0}
AllFit (e ∷ es) = EntryFits e × AllFit es

pub put_back : (v : ℕ) (t : Writing) → v < 2 ^ 32 → Words t → handed (packet_said (says_put v t)) ≡ says_put v t
unfolding said_by writing
put_back v t h f =
    let bs = writing (says_put v t) in
    ap heard_as (ap₂ says_put (word_of v h) (ticket_here bs [] 8 t f refl))

pub row_back : (v : ℕ) (r : Row) → v < 2 ^ 32 → RowFits r → handed (packet_said (says_row v r)) ≡ says_row v r
unfolding said_by writing
row_back v r h f =
    let bs = writing (says_row v r) in
    ap heard_as (ap₂ says_row (word_of v h) (row_here bs [] 8 r f.ticket f.word refl))

entries_back : (bs : List ℕ) (es : List (Option Row)) (i : ℕ) → AllFit es → drop i bs ≡ entries_bytes es → entries_at bs (length es) i ≡ es
unfolding entries_at entries_bytes AllFit
entries_back bs [] i f e = refl
entries_back bs (None ∷ es) i f e =
    let s = stands_none bs (entries_bytes es) i e in
    ap₂ (λ (x : Option Row) (xs : List (Option Row)). x ∷ xs) s.is (entries_back bs es (next bs i) f.1 s.after)
entries_back bs (Some r ∷ es) i f e =
    let s = stands_row bs (entries_bytes es) i r f.0.ticket f.0.word e in
    ap₂ (λ (x : Option Row) (xs : List (Option Row)). x ∷ xs) s.is (entries_back bs es (next bs i) f.1 s.after)

report_of_lem : (v : ℕ) (es : List (Option Row)) → length es ≡ v → v < 2 ^ 32 → AllFit es → said_by (writing (says_report v es)) ≡ says_report v es
unfolding said_by writing
report_of_lem v es n h f =
    let ev = word_of v h in
    ap₂ (λ n (l : List (Option Row)). says_report n l) ev
    (ap (λ n. entries_at (entries_bytes es) n 0) ev ∙ ap (λ n. entries_at (entries_bytes es) n 0) (sym n) ∙ entries_back (entries_bytes es) es 0 f refl)

-- the rows below a view, and none for the others
padded_none : (rows : List (Option Row)) → below 0 rows ≡ rows → padded (length rows) [] ≡ rows
unfolding below padded
padded_none [] e = refl
padded_none (r ∷ rows) e =
    let head : None ≡ r = ap (λ (l : List (Option Row)). get_or l 0 None) e in
    let tail : below 0 rows ≡ rows = ap (drop 1) e in
    ap₂ (λ (x : Option Row) (xs : List (Option Row)). x ∷ xs) head (padded_none rows tail)

padded_back : (w : ℕ) (rows : List (Option Row)) → below w rows ≡ rows → padded (length rows) (take w rows) ≡ rows
unfolding below padded
padded_back zero rows e = padded_none rows e
padded_back (suc w) [] e = refl
padded_back (suc w) (r ∷ rows) e = ap (λ (xs : List (Option Row)). r ∷ xs) (padded_back w rows (ap (drop 1) e))

pub below_twice : (w : ℕ) (rows : List (Option Row)) → below w (below w rows) ≡ below w rows
unfolding below
below_twice w [] = refl
below_twice zero (r ∷ rows) = ap (λ (xs : List (Option Row)). None ∷ xs) (below_twice zero rows)
below_twice (suc w) (r ∷ rows) = ap (λ (xs : List (Option Row)). r ∷ xs) (below_twice w rows)

taken_length : (w : ℕ) (rows : List (Option Row)) → w ≤ length rows → length (take w rows) ≡ w
taken_length zero rows h = refl
taken_length (suc w) [] h = omega arith
taken_length (suc w) (r ∷ rows) h = ap suc (taken_length w rows (omega arith))

all_fit : (es : List (Option Row)) → ((k : ℕ) → k < length es → EntryFits (get_or es k None)) → AllFit es
unfolding AllFit
all_fit [] f = tt
all_fit (e ∷ es) f = (f 0 (omega arith), all_fit es (λ k h. f (suc k) (omega arith)))

report_back : (w : ℕ) (rows : List (Option Row)) → w < views → RowsFit rows → below w rows ≡ rows → handed (packet_said (says_report w rows)) ≡ says_report w rows
report_back w rows low fit only =
    ap heard_as (report_of_lem w (take w rows) (taken_length w rows (omega (arith, fit.whole))) (omega arith) (all_fit (take w rows) (λ k h. let t : k < w = omega (arith, taken_length w rows (omega (arith, fit.whole))) in rw (get_or-take) (fit.each k (omega (arith, fit.whole))))))
    ∙ ap (says_report w) (ap (λ n. padded n (take w rows)) (sym fit.whole) ∙ padded_back w rows only)

pub report_short : (w : ℕ) (rows : List (Option Row)) → w < views → length rows ≡ views → length (packet_said (says_report w rows)) ≤ packet_bytes
report_short w rows low long = omega (arith, report_length w (take w rows), taken_length w rows (omega arith))

-- what a unit's own letter is written as says the letter
pub own_back : (letter : Letter) → IsOwn letter → handed (packet_said (said_of letter)) ≡ said_of letter
own_back (letters.Put v t) own = put_back v t (omega (arith, own.0)) own.1
own_back (letters.Row v r) own = row_back v r (omega (arith, own.0)) own.1
own_back (letters.Report w rows) own = report_back w rows.now own.0 own.1 own.2
