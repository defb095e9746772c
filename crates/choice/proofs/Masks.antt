-- What masks of reporters say of backed and barred tickets.
use Rattle.std.proofs.Common.{◌≡◌, ℕ, ◌+◌, ◌<◌, Bool, ◌⊎◌, List, [], length, get_or, take, drop, Decides, Option, subst, inl, inr, arith, length-take, get_or-take, get_or-drop}
use native.Mathlib.Decide.{ℕ_discrete}
use Rattle.std.proofs.lemmas.Bool.Decides.{Decides-like}
use Rattle.sets.specs.Sets.{Has, Set, Is, Bearable, Basic, fault_at}
use Rattle.sets.proofs.Bits.{has?, none_has}
use Rattle.sets.proofs.Sides.{basic_more}
use Rattle.ticket.specs.declared.writing.Writing.{Writing}
use Rattle.rows.specs.declared.row.Row.{Row}
use Rattle.rows.specs.Rows.{Grid, row_in, cell, Holds, Against}
use Rattle.choice.specs.Reports.{Later}

-- a and b share the mask m; of it the mask n is what is not in s
module _ (faults : List ℕ) (a b m n o : ℕ) (s : Set)
    (is : Is m (λ x. Has a x × Has b x)) (js : Is o s) (ks : Is n (λ x. Has m x × (Has o x → ⊥))) where
  abbrev pub Outside : Type 0
  Outside = (g : ℕ) × (g < length faults) × ((x : ℕ) → Has a x → Has b x → ¬ (fault_at faults g x) → s x)

  pub outside_tells : (r : Bool) → Decides r (Bearable faults (Has n)) → Decides r Outside
  outside_tells r =
      Decides-like r
      (λ k. (k.0, k.1, λ x i j out. elim (has? o x) [ yes h ↦ (js x).0 h | no no-o ↦ absurd (out (k.2 x ((ks x).1 ((is x).1 (i, j), no-o)))) ]))
      (λ k. (
        k.0,
        k.1,
        λ x h.
            let (i, no-o) = (ks x).0 h in
            let (ia, ib) = (is x).0 i in
            elim (has? (get_or faults k.0 0) x) [ yes y ↦ y | no out ↦ absurd (no-o ((js x).1 (k.2 x ia ib out))) ],
      ))

-- the units of p that are in the mask m of a set are basic just if those of the set are
pub part_tells : (faults : List ℕ) (p s : Set) (m : ℕ) → Is m s → (r : Bool)
    → Decides r (Basic faults (λ x. p x × Has m x)) → Decides r (Basic faults (λ x. p x × s x))
part_tells faults p s m is r =
    Decides-like r (basic_more faults (λ x. p x × Has m x) (λ x. p x × s x) (λ x k. (k.0, (is x).0 k.1)))
    (basic_more faults (λ x. p x × s x) (λ x. p x × Has m x) (λ x k. (k.0, (is x).1 k.1)))

-- later views, one by one: the rows of view v + 1 + i stand at place i of those after view v
module _ (kept : Grid) (v : ℕ) (t : Writing) where
  pub later_none : Is 0 (Later kept (v + 1) v t)
  later_none x = (λ h. absurd (none_has x h), λ k. let a = k.1 in let b = k.2 in absurd (omega arith))

  after : (d i : ℕ) → i < length (take d (drop (v + 1) kept)) → get_or (take d (drop (v + 1) kept)) i [] ≡ get_or kept (v + 1 + i) []
  after d i lt = let h : i < d = omega (arith, length-take d (drop (v + 1) kept)) in rw (get_or-take, get_or-drop)

  pub later_more : (d i m n k : ℕ) → i < length (take d (drop (v + 1) kept)) → Is m (Later kept (v + 1 + i) v t)
      → Is n (λ x. Holds (row_in (get_or (take d (drop (v + 1) kept)) i []) x) (Against t)) → Is k (λ x. Has m x ⊎ Has n x) → Is k (Later kept (v + 1 + (i + 1)) v t)
  later_more d i m n k lt is js ks x =
      let ls = subst (λ (rows : List (Option Row)). Is n (λ y. Holds (row_in rows y) (Against t))) (after d i lt) js in (
        λ h. elim ((ks x).0 h) [
          | inl a ↦ let l = (is x).0 a in let b = l.2 in (l.0, l.1, omega arith, l.3)
          | inr a ↦ (v + 1 + i, omega arith, omega arith, (ls x).0 a)
        ],
        λ l. (ks x).1 (elim (ℕ_discrete l.0 (v + 1 + i)) [
          | yes e ↦ inr ((ls x).1 (subst (λ z. Holds (cell kept z x) (Against t)) e l.3))
          | no ne ↦ let b = l.2 in inl ((is x).1 (l.0, l.1, omega arith, l.3))
        ]),
      )
