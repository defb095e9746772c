-- Every accepted act keeps what a unit's state rests on, and goes on.
use Rattle.std.proofs.Common.{◌≡◌, ℕ, zero, suc, ◌%◌, ◌<◌, true, false, List, [], length, get_or, replicate, Some, None, Option, sym, refl, ap, ◌∙◌, subst, inl, inr, arith, length-set}
use native.Mathlib.Decide.{ℕ_discrete, dec_lt}
use lib.ListN.{length-replicate}
use Rattle.base.specs.Limits.{units_most}
use Rattle.sets.specs.Decisions.{pick, if?}
use Rattle.sets.proofs.Bits.{none_has, has_some}
use Rattle.table.specs.Tables.{QuorumTable}
use Rattle.ticket.specs.declared.writing.Writing.{Writing}
use Rattle.rows.specs.declared.row.Row.{Row}
use Rattle.rows.specs.declared.rule.Rule.{Rule}
use Rattle.rows.specs.declared.rule.Rule.TheVariants as rules
use Rattle.rows.specs.Rows.{Grid, row_in, cell, Filled}
use Rattle.growth.specs.Growth.{grown_set, mark?, Spread, grown, least_rule}
use Rattle.growth.specs.Laws.{Least}
use Rattle.growth.proofs.Grown.{set_is, rule_least}
use Rattle.unit.specs.declared.announcement.Announcement.{Announcement}
use Rattle.unit.specs.States.{State, own_at, fresh_of, blank_of}
use Rattle.unit.specs.Reported.{some_allows?, SomeAllows, filed}
use Rattle.unit.specs.Rules.{hear, with_own, grown_own, grow_own_in, grow_at_in, ruled, announced_or, with_announced, announce_in, on_row_in, no_row_there, put_fault, on_put_in, raise_fault_in, on_raise_in, on_report}
use Rattle.rows.specs.Said.{Said, says_put, says_row, says_report}
use Rattle.unit.specs.Letters.{said_fault, said_done_in}
use Rattle.unit.specs.Acts.{Act, putting, raising, repeating, receiving, act_fault, act_done}
use Rattle.unit.specs.declared.fault.UnitFault.TheVariants as faults
use Rattle.unit.proofs.Filing.{length_filed, filed_at}
use Rattle.life.specs.Lives.{Grows, Up, IfAny, Onward, FoundedRow, Grounded, Shaped, Founded, begins, goes}
use Rattle.life.specs.Laws.{LivesAreFounded, RowsOnlyGrow}
use Rattle.life.proofs.Ups.{set_cases, up_same, up_is, up_then, any_founded_up, met_up, heard_up}
use Rattle.unit.proofs.Kept.{raised}
pub use Rattle.unit.proofs.Growing.{none_fresh}

-- a fresh unit has heard no row
pub none_heard : (m v x : ℕ) → cell (blank_of m) v x ≡ None
none_heard zero v x = refl
none_heard (suc m) zero x = none_fresh units_most x
none_heard (suc m) (suc v) x = none_heard m v x

onward_same : (a b : State) → b.view ≡ a.view → b.own ≡ a.own → Onward a b
onward_same a b ev eo = record {
  later = omega arith;
  frozen = λ v lt. ap (λ (l : List (Option Row)). row_in l v) eo;
  grows = λ v. up_is (own_at a v) (own_at b v) (ap (λ (l : List (Option Row)). row_in l v) eo);
}

pub onward_then : (a b c : State) → Onward a b → Onward b c → Onward a c
onward_then a b c k l = record {
  later = let x = k.later in let y = l.later in omega arith;
  frozen = λ v lt. l.frozen v (let x = k.later in omega arith) ∙ k.frozen v lt;
  grows = λ v. up_then (own_at a v) (own_at b v) (own_at c v) (k.grows v) (l.grows v);
}

-- what one part of a rule does: it keeps what the state rests on, and goes on
abbrev pub Goes : ℕ → QuorumTable → State → State → Type 0
Goes n tb a b = Founded n tb a → Founded n tb b × Onward a b

goes_then : (n : ℕ) (tb : QuorumTable) (a b c : State) → Goes n tb a b → Goes n tb b c → Goes n tb a c
goes_then n tb a b c k l f = let (g, o) = k f in let (g', o') = l g in (g', onward_then a b c o o')

goes_same : (n : ℕ) (tb : QuorumTable) (a : State) → Goes n tb a a
goes_same n tb a f = (f, onward_same a a refl refl)

pick_goes : (n : ℕ) (tb : QuorumTable) {A : Type 0} (d : Dec A) (a b : State) → Goes n tb a b → Goes n tb a (pick d b a)
pick_goes n tb (yes p) a b k = k
pick_goes n tb (no p) a b k = goes_same n tb a

-- growth keeps what a row rests on
module _ (tb : QuorumTable) (h : ℕ → Option Row) (r : Row) (f : FoundedRow tb h r) where
  set_filled : ¬ (grown_set tb h r.ticket ≡ 0) → Filled (grown tb h r)
  set_filled ne = has_some (grown_set tb h r.ticket) ne

  still_filled : Filled r → Filled (grown tb h r)
  still_filled (p, k) = (p, (set_is tb h r.ticket p).1 (f.named p k))

  grown_mark : (d : Dec ((¬ (grown_set tb h r.ticket ≡ 0)) × Spread tb h r.ticket)) → pick d true r.mark ≡ true → Filled (grown tb h r) × Spread tb h r.ticket
  grown_mark (yes (ne, s)) e = (set_filled ne, s)
  grown_mark (no k) e = (still_filled (f.filled e), f.spread e)

  marked_stays : {A : Type 0} (d : Dec A) → r.mark ≡ true → pick d true r.mark ≡ true
  marked_stays (yes a) e = refl
  marked_stays (no k) e = e

  grown_founded : FoundedRow tb h (grown tb h r)
  grown_founded = record {
    named = λ p k. (set_is tb h r.ticket p).0 k;
    filled = λ e. (grown_mark (mark? tb h r.ticket) e).0;
    spread = λ e. (grown_mark (mark? tb h r.ticket) e).1;
  }

  grown_grows : Grows r (grown tb h r)
  grown_grows = record {
    ticket = refl;
    set = λ p k. (set_is tb h r.ticket p).1 (f.named p k);
    mark = λ e. marked_stays (mark? tb h r.ticket) e;
  }

module _ (n : ℕ) (tb : QuorumTable) where
  -- a row is noted
  pub hear_goes : (x v : ℕ) (r : Row) (s : State) → Goes n tb s (hear x v r s)
  hear_goes x v r s f = (
    record {
      above = f.above;
      rows = λ w. any_founded_up tb (cell s.heard w) (cell (hear x v r s).heard w) (heard_up s.heard v x r w) (own_at s w) (f.rows w);
      grounds = grounds_up s.announced f.grounds;
      within = f.within;
      inside = f.inside;
      shape = f.shape;
    },
    onward_same s (hear x v r s) refl refl,
  )
    where
      grounds_up : (o : Option Announcement) → Grounded tb s.heard o → Grounded tb (hear x v r s).heard o
      grounds_up None g = tt
      grounds_up (Some a) g = met_up tb (cell s.heard a.view) (cell (hear x v r s).heard a.view) (heard_up s.heard v x r a.view) a.rule a.ticket g

  -- the own row of the unit's view is written: it rests on what was heard, and says what the old one said
  own_goes : (s : State) (r : Row) → FoundedRow tb (cell s.heard s.view) r → Up (own_at s s.view) (Some r) → Goes n tb s (with_own (Some r) s)
  own_goes s r fr up f = (
    record {
      above = λ v lt. elim (set_cases s.own s.view v (Some r) None) [
        | inl e ↦ e ∙ f.above v lt
        | inr k ↦ absurd (let e = k.0 in omega arith)
      ];
      rows = λ v. elim (set_cases s.own s.view v (Some r) None) [
        | inl e ↦ subst (λ (o : Option Row). IfAny o (FoundedRow tb (cell s.heard v))) (sym e) (f.rows v)
        | inr k ↦
            subst (λ (o : Option Row). IfAny o (FoundedRow tb (cell s.heard v))) (sym k.1)
            (subst (λ z. FoundedRow tb (cell s.heard z) r) k.0 fr)
      ];
      grounds = f.grounds;
      within = f.within;
      inside = f.inside;
      shape = f.shape;
    },
    record {
      later = omega arith;
      frozen = λ v lt. elim (set_cases s.own s.view v (Some r) None) [
        | inl e ↦ e
        | inr k ↦ absurd (let e = k.0 in omega arith)
      ];
      grows = λ v. elim (set_cases s.own s.view v (Some r) None) [
        | inl e ↦ up_is (own_at s v) (own_at (with_own (Some r) s) v) e
        | inr k ↦
            subst (λ (o : Option Row). Up (own_at s v) o) (sym k.1)
            (subst (λ z. Up (own_at s z) (Some r)) k.0 up)
      ];
    },
  )

  grown_goes : (s : State) → Goes n tb s (grow_own_in n tb s)
  grown_goes s = pick_goes n tb (dec_lt s.view n) s (grown_own tb (own_at s s.view) s) (go (own_at s s.view) refl)
    where
      go : (o : Option Row) → own_at s s.view ≡ o → Goes n tb s (grown_own tb o s)
      go None e f = goes_same n tb s f
      go (Some r) e f =
          let fr : FoundedRow tb (cell s.heard s.view) r = subst (λ (o : Option Row). IfAny o (FoundedRow tb (cell s.heard s.view))) e (f.rows s.view) in
          own_goes s (grown tb (cell s.heard s.view) r) (grown_founded tb (cell s.heard s.view) r fr)
          (subst (λ (o : Option Row). Up o (Some (grown tb (cell s.heard s.view) r))) (sym e) (grown_grows tb (cell s.heard s.view) r fr)) f

  -- the least rule that is met grounds what is announced by it
  ruled_grounded : (heard : Grid) (v : ℕ) (t : Writing) (o : Option Rule) → Least tb (cell heard v) t o → Grounded tb heard (ruled v t o)
  ruled_grounded heard v t None l = tt
  ruled_grounded heard v t (Some rules.First) l = l
  ruled_grounded heard v t (Some rules.Second) l = l.1
  ruled_grounded heard v t (Some rules.Third) l = l.2

  announce_goes : (v : ℕ) (t : Writing) (s : State) → Goes n tb s (announce_in n tb v t s)
  announce_goes v t s =
      pick_goes n tb (dec_lt v n) s (with_announced (announced_or s.announced (ruled v t (least_rule tb (cell s.heard v) t))) s)
      (λ f. (
        record {
          above = f.above;
          rows = f.rows;
          grounds = either s.announced f.grounds;
          within = f.within;
          inside = f.inside;
          shape = f.shape;
        },
        onward_same s _ refl refl,
      ))
    where
      either : (o : Option Announcement) → Grounded tb s.heard o → Grounded tb s.heard (announced_or o (ruled v t (least_rule tb (cell s.heard v) t)))
      either None g = ruled_grounded s.heard v t (least_rule tb (cell s.heard v) t) (rule_least tb (cell s.heard v) t)
      either (Some a) g = g

  row_goes : (x v : ℕ) (r : Row) (s : State) → Goes n tb s (on_row_in n tb x v r s)
  row_goes x v r s =
      let h = hear x v r s in
      let g = grow_at_in n tb v h in
      goes_then n tb s g (announce_in n tb v r.ticket g)
      (goes_then n tb s h g (hear_goes x v r s) (pick_goes n tb (ℕ_discrete v h.view) h (grow_own_in n tb h) (grown_goes h)))
      (announce_goes v r.ticket g)

  -- an accepted put is for the unit's view, finds no own row there, and above view 0 some fully reported quorum allows its ticket
  pub record PutTaken (x v : ℕ) (t : Writing) (s : State) : Type 0 where
    pub leads : v % tb.units ≡ x
    pub now_view : v ≡ s.view
    pub no_row : own_at s s.view ≡ None
    pub allowed : 0 < s.view → SomeAllows tb s t

  pub put_taken : (x v : ℕ) (t : Writing) (s : State) → put_fault tb x v t s ≡ None → PutTaken x v t s
  put_taken x v t s e = go (ℕ_discrete (v % tb.units) x) (ℕ_discrete v s.view) (own_at s s.view) refl (if? (dec_lt 0 s.view) (some_allows? tb s t)) e
    where
      go : (d : Dec (v % tb.units ≡ x)) (d' : Dec (v ≡ s.view)) (o : Option Row) → own_at s s.view ≡ o → (d'' : Dec (0 < s.view → SomeAllows tb s t))
          → pick d (pick d' (no_row_there tb x o (pick d'' None (Some (faults.NotChosen x)))) (Some (faults.PutForOther x))) (Some (faults.PutByOther x)) ≡ None
          → PutTaken x v t s
      go (no k) d' o eo d'' e = cc
      go (yes l) (no k) o eo d'' e = cc
      go (yes l) (yes k) (Some r) eo d'' e = cc
      go (yes l) (yes k) None eo (no m) e = cc
      go (yes l) (yes k) None eo (yes a) e = record { leads = l; now_view = k; no_row = eo; allowed = a }

  -- the ticket of a put becomes the own row where there is none
  pub taken_goes : (t : Writing) (s : State) → own_at s s.view ≡ None → Goes n tb s (with_own (Some (record { ticket = t; set = 0; mark = false })) s)
  taken_goes t s none =
      let row : Row = record { ticket = t; set = 0; mark = false } in
      own_goes s row
      (record {
        named = λ p k. absurd (none_has p k);
        filled = λ e. absurd (cc);
        spread = λ e. absurd (cc);
      })
      (subst (λ (o : Option Row). Up o (Some row)) (sym none) tt)

  put_goes : (t : Writing) (s : State) → own_at s s.view ≡ None → Goes n tb s (on_put_in n tb t s)
  put_goes t s none =
      let a = with_own (Some (record { ticket = t; set = 0; mark = false })) s in
      goes_then n tb s a (grow_own_in n tb a) (taken_goes t s none) (grown_goes a)

  -- a report is filed
  filed_shape : (x : ℕ) (rows : List (Option Row)) (g : Grid) → Shaped n g → Shaped n (filed x rows g)
  filed_shape x rows g (long, wide) = (
    length_filed x rows g ∙ long,
    λ v lt. ap length (filed_at x rows g v (omega arith)) ∙ length-set (get_or g v []) x (row_in rows v) ∙ wide v lt,
  )

  report_goes : (x : ℕ) (rows : List (Option Row)) (s : State) → Goes n tb s (on_report x rows s)
  report_goes x rows s f = (
    record {
      above = f.above;
      rows = f.rows;
      grounds = f.grounds;
      within = f.within;
      inside = f.inside;
      shape = filed_shape x rows s.reports f.shape;
    },
    onward_same s (on_report x rows s) refl refl,
  )

  said_goes : (x : ℕ) (said : Said) (s : State) → said_fault tb x said s ≡ None → Goes n tb s (said_done_in n tb x said s)
  said_goes x (says_put v t) s e = put_goes t s (put_taken x v t s e).no_row
  said_goes x (says_row v r) s e = row_goes x v r s
  said_goes x (says_report w rows) s e = report_goes x rows s

  get_d_rows : (m v : ℕ) (l : List (Option Row)) → v < m → get_or (replicate m l) v [] ≡ l
  get_d_rows zero v l lt = absurd (omega arith)
  get_d_rows (suc m) zero l lt = refl
  get_d_rows (suc m) (suc v) l lt = get_d_rows m v l (omega arith)

  blank_shape : Shaped n (blank_of n)
  blank_shape = (
    length-replicate {A = List (Option Row)} n (replicate units_most None),
    λ v lt. ap length (get_d_rows n v (replicate units_most None) lt) ∙ length-replicate {A = Option Row} units_most None,
  )

  raise_goes : (u w : ℕ) (s : State) → raise_fault_in n u w s ≡ None → Goes n tb s (on_raise_in n w s)
  raise_goes u w s e f =
      let (up, lt) = raised n u w s e in (
        record {
          above = λ v k. f.above v (omega arith);
          rows = f.rows;
          grounds = f.grounds;
          within = omega arith;
          inside = λ _. lt;
          shape = blank_shape;
        },
        record {
          later = omega arith;
          frozen = λ v k. refl;
          grows = λ v. up_same (own_at s v);
        },
      )

  pub act_goes : (u : ℕ) (act : Act) (s : State) → act_fault n tb u act s ≡ None → Goes n tb s (act_done n tb u act s)
  act_goes u (putting t) s e f = (
    record { above = f.above; rows = f.rows; grounds = f.grounds; within = f.within; inside = f.inside; shape = f.shape },
    onward_same s _ refl refl,
  )
  act_goes u (raising w) s e f = raise_goes u w s e f
  act_goes u repeating s e f = goes_same n tb s f
  act_goes u (receiving x said) s e f = said_goes x said s e f

  pub fresh_founded : Founded n tb (fresh_of n)
  fresh_founded = record {
    above = λ v lt. none_fresh n v;
    rows = λ v. subst (λ (o : Option Row). IfAny o (FoundedRow tb (cell (blank_of n) v))) (sym (none_fresh n v)) tt;
    grounds = tt;
    within = omega arith;
    inside = λ lt. lt;
    shape = blank_shape;
  }

pub lives_founded : LivesAreFounded
lives_founded n tb u s begins = fresh_founded n tb
lives_founded n tb u s (goes {s = a} act l e) = (act_goes n tb u act a e (lives_founded n tb u a l)).0

pub only_grow : RowsOnlyGrow
only_grow n tb u s l act e = (act_goes n tb u act s e (lives_founded n tb u s l)).1
