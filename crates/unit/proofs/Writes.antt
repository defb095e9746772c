-- Lists and grids after a write.
use Rattle.std.proofs.Common.{◌≡◌, ℕ, zero, suc, ◌⊎◌, List, [], ◌∷◌, get_or, set, None, Option, refl, ap, ◌∙◌, inl, inr}
use Rattle.rows.specs.declared.row.Row.{Row}
use Rattle.rows.specs.Rows.{Grid, row_in, cell}
use Rattle.unit.specs.Rules.{with_cell}

-- an element of a list after a write is the old one or the one written
pub set_cases : {A : Type 0} (l : List A) (i j : ℕ) (y d : A) → (get_or (set l i y) j d ≡ get_or l j d) ⊎ ((i ≡ j) × (get_or (set l i y) j d ≡ y))
set_cases [] i j y d = inl refl
set_cases (x ∷ l) zero zero y d = inr (refl, refl)
set_cases (x ∷ l) zero (suc j) y d = inl refl
set_cases (x ∷ l) (suc i) zero y d = inl refl
set_cases (x ∷ l) (suc i) (suc j) y d = elim (set_cases l i j y d) [ inl e ↦ inl e | inr k ↦ inr (ap suc k.0, k.1) ]

-- a cell after a write is the old one or the one written
pub cell_cases : (g : Grid) (v x : ℕ) (o : Option Row) (w y : ℕ)
    → (cell (with_cell g v x o) w y ≡ cell g w y) ⊎ (((v ≡ w) × (x ≡ y)) × (cell (with_cell g v x o) w y ≡ o))
cell_cases g v x o w y =
    elim (set_cases g v w (set (get_or g v []) x o) []) [
      | inl e ↦ inl (ap (λ (rows : List (Option Row)). row_in rows y) e)
      | inr k ↦
          let e = ap (λ (rows : List (Option Row)). row_in rows y) k.1 in
          elim (set_cases (get_or g v []) x y o None) [
            | inl e' ↦ inl (e ∙ e' ∙ ap (λ z. cell g z y) k.0)
            | inr k' ↦ inr ((k.0, k'.0), e ∙ k'.1)
          ]
    ]
