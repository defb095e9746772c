-- Rows only grow: what an own row's set names was heard entire, and what was heard is never lost.
use Rattle.std.proofs.Common.{◌≡◌, ℕ, zero, suc, ◌%◌, Bool, true, false, Some, None, Option, replicate, sym, refl, ap, ◌∙◌, subst, inl, inr}
use native.Mathlib.Decide.{ℕ_discrete, dec_lt}
use Rattle.base.specs.Limits.{views}
use Rattle.sets.specs.Sets.{Has}
use Rattle.sets.specs.Decisions.{pick, if?}
use Rattle.sets.proofs.Bits.{none_has}
use Rattle.table.specs.Tables.{QuorumTable, IsQuorum}
use Rattle.ticket.specs.declared.writing.Writing.{Writing}
use Rattle.rows.specs.declared.row.Row.{Row}
use Rattle.rows.specs.Rows.{Grid, row_in, cell, Holds, For}
use Rattle.growth.specs.Growth.{Entire, mark?, grown, least_rule}
use Rattle.growth.proofs.Grown.{set_is}
use Rattle.unit.specs.States.{State, own_at}
use Rattle.unit.specs.Reported.{some_allows?}
use Rattle.unit.specs.Rules.{noted, with_cell, hear, with_own, grown_own, grow_own, grow_at, ruled, announced_or, with_announced, announce, on_row, no_row_there, put_fault, on_put}
use Rattle.unit.specs.Letters.{Letter, letter_fault, letter_done}
use Rattle.unit.specs.declared.letter.Letter.TheVariants as letters
use Rattle.unit.specs.declared.fault.UnitFault.TheVariants as faults
use Rattle.unit.specs.Laws.{Grows, Life, starts, receives, puts, raises, RowsOnlyGrow}
use Rattle.unit.proofs.Writes.{set_cases, cell_cases}

-- a fresh unit has no row
pub none_fresh : (m v : ℕ) → row_in (replicate m None) v ≡ None
none_fresh zero v = refl
none_fresh (suc m) zero = refl
none_fresh (suc m) (suc v) = none_fresh m v

noted_for : (o : Option Row) (r : Row) (t : Writing) → Holds o (For t) → For t (noted o r)
noted_for None r t h = absurd h
noted_for (Some o) r t h = h

-- what was heard with a ticket stays heard with it
heard_stays : (g : Grid) (v x : ℕ) (r : Row) (t : Writing) (w y : ℕ) → Holds (cell g w y) (For t)
    → Holds (cell (with_cell g v x (Some (noted (cell g v x) r))) w y) (For t)
heard_stays g v x r t w y h =
    elim (cell_cases g v x (Some (noted (cell g v x) r)) w y) [
      | inl e ↦ subst (λ (o : Option Row). Holds o (For t)) (sym e) h
      | inr k ↦
          let h' : Holds (cell g v x) (For t) = subst (λ z. Holds (cell g z x) (For t)) (sym k.0.0) (subst (λ z. Holds (cell g w z) (For t)) (sym k.0.1) h) in
          subst (λ (o : Option Row). Holds o (For t)) (sym k.1) (noted_for (cell g v x) r t h')
    ]

pub grows_same : (r : Row) → Grows r r
grows_same r = record { ticket = refl; set = λ p h. h; mark = λ e. e }

pub grows_then : (a b c : Row) → Grows a b → Grows b c → Grows a c
grows_then a b c k l = record {
  ticket = l.ticket ∙ k.ticket;
  set = λ p h. l.set p (k.set p h);
  mark = λ e. l.mark (k.mark e);
}

module _ (tb : QuorumTable) where
  -- the row's set names only quorums that were heard entire with its ticket
  abbrev FoundedRow : (ℕ → Option Row) → Row → Type 0
  FoundedRow h r = (p : ℕ) → Has r.set p → IsQuorum tb p × Entire tb h p (For r.ticket)

  marked_stays : {A : Type 0} (d : Dec A) (m : Bool) → m ≡ true → pick d true m ≡ true
  marked_stays (yes a) m e = refl
  marked_stays (no n) m e = e

  grown_grows : (h : ℕ → Option Row) (r : Row) → FoundedRow h r → Grows r (grown tb h r)
  grown_grows h r f = record {
    ticket = refl;
    set = λ p k. (set_is tb h r.ticket p).1 (f p k);
    mark = λ e. marked_stays (mark? tb h r.ticket) r.mark e;
  }

  grown_founded : (h : ℕ → Option Row) (r : Row) → FoundedRow h (grown tb h r)
  grown_founded h r p k = (set_is tb h r.ticket p).0 k

  -- every own row is founded
  abbrev Founded : State → Type 0
  Founded s = (v : ℕ) (r : Row) → own_at s v ≡ Some r → FoundedRow (cell s.heard v) r

  -- what a part of a rule does: own rows stay founded, and grow
  abbrev Better : State → State → Type 0
  Better s s' = Founded s → Founded s' × ((v : ℕ) (r : Row) → own_at s v ≡ Some r → (r' : Row) × (own_at s' v ≡ Some r') × Grows r r')

  same_better : (s : State) → Better s s
  same_better s f = (f, λ v r e. (r, e, grows_same r))

  better_then : (a b c : State) → Better a b → Better b c → Better a c
  better_then a b c k l f =
      let (g, up) = k f in
      let (h, up') = l g in
      (h, λ v r e. let (r1, e1, g1) = up v r e in let (r2, e2, g2) = up' v r1 e1 in (r2, e2, grows_then r r1 r2 g1 g2))

  pick_better : {A : Type 0} (d : Dec A) (s a : State) → Better s a → Better s (pick d a s)
  pick_better (yes p) s a k = k
  pick_better (no n) s a k = same_better s

  hear_better : (x v : ℕ) (r : Row) (s : State) → Better s (hear x v r s)
  hear_better x v r s f = (
    λ w o e p k. let q = f w o e p k in (q.0, λ y i. heard_stays s.heard v x r o.ticket w y (q.1 y i)),
    λ w o e. (o, e, grows_same o),
  )

  -- the own row of the unit's view is written
  own_better : (s : State) (new : Row) → FoundedRow (cell s.heard s.view) new → ((r : Row) → own_at s s.view ≡ Some r → Grows r new) → Better s (with_own (Some new) s)
  own_better s new fn up f = (
    λ v r e. elim (set_cases s.own s.view v (Some new) None) [
      | inl k ↦ f v r (sym k ∙ e)
      | inr k ↦ let same : new ≡ r = cc in subst (λ (z : Row). FoundedRow (cell s.heard v) z) same (subst (λ z. FoundedRow (cell s.heard z) new) k.0 fn)
    ],
    λ v r e. elim (set_cases s.own s.view v (Some new) None) [
      | inl k ↦ (r, k ∙ e, grows_same r)
      | inr k ↦ (new, k.1, up r (ap (own_at s) k.0 ∙ e))
    ],
  )

  grow_better : (s : State) → Better s (grow_own tb s)
  grow_better s f = pick_better (dec_lt s.view views) s (grown_own tb (own_at s s.view) s) (go (own_at s s.view) refl) f
    where
      go : (o : Option Row) → own_at s s.view ≡ o → Better s (grown_own tb o s)
      go None e g = same_better s g
      go (Some r) e g =
          let fr = g s.view r e in
          own_better s (grown tb (cell s.heard s.view) r) (grown_founded (cell s.heard s.view) r)
          (λ r' e'. let same : r ≡ r' = cc in subst (λ (z : Row). Grows z (grown tb (cell s.heard s.view) r)) same (grown_grows (cell s.heard s.view) r fr)) g

  row_better : (x v : ℕ) (r : Row) (s : State) → Better s (on_row tb x v r s)
  row_better x v r s =
      let h = hear x v r s in
      let g = grow_at tb v h in
      better_then s h (announce tb v r.ticket g) (hear_better x v r s)
      (better_then h g (announce tb v r.ticket g) (pick_better (ℕ_discrete v h.view) h (grow_own tb h) (grow_better h))
      (pick_better (dec_lt v views) g (with_announced (announced_or g.announced (ruled v r.ticket (least_rule tb (cell g.heard v) r.ticket))) g) (λ f. (f, λ w o e. (o, e, grows_same o)))))

  -- an accepted put finds no own row
  no_row : (x v : ℕ) (t : Writing) (s : State) → put_fault tb x v t s ≡ None → own_at s s.view ≡ None
  no_row x v t s e = go (ℕ_discrete (v % tb.units) x) (ℕ_discrete v s.view) (own_at s s.view) e
    where
      go : (d : Dec (v % tb.units ≡ x)) (d' : Dec (v ≡ s.view)) (o : Option Row)
          → pick d (pick d' (no_row_there tb x o (pick (if? (dec_lt 0 s.view) (some_allows? tb s t)) None (Some (faults.NotChosen x)))) (Some (faults.PutForOther x))) (Some (faults.PutByOther x)) ≡ None
          → o ≡ None
      go d d' None e = refl
      go (no n) d' (Some r) e = cc
      go (yes l) (no n) (Some r) e = cc
      go (yes l) (yes k) (Some r) e = cc

  put_better : (t : Writing) (s : State) → own_at s s.view ≡ None → Better s (on_put tb t s)
  put_better t s none =
      let row : Row = record { ticket = t; set = 0; mark = false } in
      let a = with_own (Some row) s in
      better_then s a (grow_own tb a) (own_better s row (λ p k. absurd (none_has p k)) (λ r e. absurd (cc))) (grow_better a)

  letter_better : (x : ℕ) (letter : Letter) (s : State) → letter_fault tb x letter s ≡ None → Better s (letter_done tb x letter s)
  letter_better x (letters.Put v t) s e = put_better t s (no_row x v t s e)
  letter_better x (letters.Row v r) s e = row_better x v r s
  letter_better x (letters.Report w rows) s e = λ f. (f, λ v r e. (r, e, grows_same r))

  life_founded : (s : State) → Life tb s → Founded s
  life_founded s starts = λ v r e. absurd (let z = none_fresh views v in cc)
  life_founded s (receives {s = a} x letter l e) = (letter_better x letter a e (life_founded a l)).0
  life_founded s (puts u t l e) = life_founded _ l
  life_founded s (raises u w l e) = life_founded _ l

pub rows_only_grow : RowsOnlyGrow
rows_only_grow tb s l x letter e = (letter_better tb x letter s e (life_founded tb s l)).1
