-- Reports as lists: kept rows, and rows filed under a sender.
use Rattle.std.proofs.Common.{◌≡◌, ℕ, zero, suc, ◌+◌, ◌<◌, ◌≤◌, List, [], ◌∷◌, ◌++◌, take, drop, replicate, length, get_or, set, None, Option, refl, ap, ◌∙◌, not-suc-le-zero, arith}
use Rattle.unit.specs.States.{below}
use Rattle.rows.specs.declared.row.Row.{Row}
use Rattle.rows.specs.Rows.{Grid, row_in, cell}
use Rattle.unit.specs.Reported.{head_row, rest_rows, filed, report_of}

-- what is filed under a sender, by view
pub length_report : (x : ℕ) (grid : Grid) → length (report_of x grid) ≡ length grid
length_report x [] = refl
length_report x (c ∷ grid) = ap suc (length_report x grid)

pub report_at : (x : ℕ) (grid : Grid) (k : ℕ) → row_in (report_of x grid) k ≡ cell grid k x
report_at x [] k = refl
report_at x (c ∷ grid) zero = refl
report_at x (c ∷ grid) (suc k) = report_at x grid k

pub length_filed : (x : ℕ) (rows : List (Option Row)) (grid : Grid) → length (filed x rows grid) ≡ length grid
unfolding filed
length_filed x rows [] = refl
length_filed x rows (c ∷ grid) = ap suc (length_filed x (rest_rows rows) grid)

rest_at : (rows : List (Option Row)) (k : ℕ) → row_in (rest_rows rows) k ≡ row_in rows (suc k)
rest_at [] k = refl
rest_at (r ∷ rows) k = refl

head_at : (rows : List (Option Row)) → head_row rows ≡ row_in rows 0
head_at [] = refl
head_at (r ∷ rows) = refl

pub filed_at : (x : ℕ) (rows : List (Option Row)) (grid : Grid) (k : ℕ) → k < length grid → get_or (filed x rows grid) k [] ≡ set (get_or grid k []) x (row_in rows k)
unfolding filed
filed_at x rows [] k lt = absurd (not-suc-le-zero lt)
filed_at x rows (c ∷ grid) zero lt = ap (set c x) (head_at rows)
filed_at x rows (c ∷ grid) (suc k) lt =
    filed_at x (rest_rows rows) grid k (omega arith) ∙ ap (set (get_or grid k []) x) (rest_at rows k)

-- the rows below a view: a front of the rows, and none behind it
pub below_front : (w n : ℕ) (rows : List (Option Row)) → w + n ≡ length rows → take w rows ++ (replicate n None ++ drop n (drop w rows)) ≡ below w rows
unfolding below
below_front zero zero [] e = refl
below_front zero (suc n) [] e = absurd (omega arith)
below_front (suc w) n [] e = absurd (omega arith)
below_front zero zero (r ∷ rows) e = absurd (omega arith)
below_front zero (suc n) (r ∷ rows) e = ap (λ (z : List (Option Row)). None ∷ z) (below_front zero n rows (omega arith))
below_front (suc w) n (r ∷ rows) e = ap (λ (z : List (Option Row)). r ∷ z) (below_front w n rows (omega arith))

pub length_below : (w : ℕ) (rows : List (Option Row)) → length (below w rows) ≡ length rows
unfolding below
length_below w [] = refl
length_below zero (r ∷ rows) = ap suc (length_below zero rows)
length_below (suc w) (r ∷ rows) = ap suc (length_below w rows)

pub below_none : (w : ℕ) (rows : List (Option Row)) (k : ℕ) → w ≤ k → row_in (below w rows) k ≡ None
unfolding below
below_none w [] k le = refl
below_none zero (r ∷ rows) zero le = refl
below_none zero (r ∷ rows) (suc k) le = below_none zero rows k (omega arith)
below_none (suc w) (r ∷ rows) zero le = absurd (omega arith)
below_none (suc w) (r ∷ rows) (suc k) le = below_none w rows k (omega arith)

pub below_kept : (w : ℕ) (rows : List (Option Row)) (k : ℕ) → k < w → row_in (below w rows) k ≡ row_in rows k
unfolding below
below_kept w [] k lt = refl
below_kept zero (r ∷ rows) k lt = absurd (not-suc-le-zero lt)
below_kept (suc w) (r ∷ rows) zero lt = refl
below_kept (suc w) (r ∷ rows) (suc k) lt = below_kept w rows k (omega arith)
