-- Every accepted act keeps the invariant.
use Rattle.std.proofs.Common.{◌≡◌, ℕ, zero, suc, ◌%◌, ◌<◌, ◌≤◌, Bool, true, false, List, [], ◌∷◌, ◌++◌, map, length, get_or, set, replicate, Some, None, Option, sym, refl, ap, ◌∙◌, subst, inl, inr, mod-lt, arith, get_or-set_other, get_or-set_same}
use mathlib.Core.List.Memᴰ
use mathlib.Core.List.{Memᴰ}
use native.Mathlib.Decide.{ℕ_discrete, dec_lt}
use Rattle.base.specs.Limits.{units_most}
use Rattle.sets.specs.Sets.{Has}
use Rattle.sets.specs.Decisions.{pick, both?, not?, if?, has?}
use Rattle.sets.proofs.Bits.{none_has}
use Rattle.table.specs.Tables.{QuorumTable, Proper, IsQuorum}
use Rattle.ticket.specs.declared.writing.Writing.{Writing}
use Rattle.rows.specs.declared.row.Row.{Row}
use Rattle.rows.specs.Rows.{Grid, row_in, cell, Holds, For}
use Rattle.rows.specs.Said.{Said, says_put, says_row, says_report}
use Rattle.choice.specs.Chosen.{Chosen}
use Rattle.choice.specs.Reports.{Live}
use Rattle.choice.specs.declared.choice.Choice.{Choice}
use Rattle.choice.specs.declared.choice.Choice.TheVariants.{Free, Only, Torn}
use Rattle.choice.proofs.Settles.{choice_of_live, reports}
use Rattle.growth.specs.Growth.{grown, least_rule}
use Rattle.unit.specs.declared.fault.UnitFault.TheVariants as faults
use Rattle.unit.specs.States.{State, own_at, heard_at}
use Rattle.unit.specs.Reported.{torn?, ticket_by, or_else, least?, FullyReported, fully?, choice_at, SomeAllows, deciding, by_deciding, put_ticket, filed, report_of, same_rows?}
use Rattle.unit.specs.Rules.{noted, hear, with_own, grown_own, grow_own_in, grow_at_in, ruled, announced_or, with_announced, announce_in, on_row_in, on_put_in, on_raise_in, report_fault, on_report}
use Rattle.unit.specs.Letters.{said_fault, said_done_in}
use Rattle.unit.specs.declared.letter.Sends.{Sends}
use Rattle.unit.specs.Sending.{only_if, put_said, row_said, report_said, outgoing}
use Rattle.unit.specs.Acts.{Act, putting, raising, repeating, receiving, act_fault, act_done, act_sends}
use Rattle.unit.proofs.Filing.{filed_at, below_kept}
use Rattle.unit.proofs.Steps.{with_unit_is}
use Rattle.life.specs.Lives.{Grows, Up, IfAny, Onward, Founded}
use Rattle.life.proofs.Ups.{some_none, set_cases, cell_cases, grows_same, up_same, up_then, holds_up, noted_least}
use Rattle.life.proofs.Founding.{none_fresh, none_heard, act_goes, hear_goes, taken_goes, fresh_founded, put_taken}
use Rattle.agreement.specs.Runs.{Sent, sent_by, Course, Sound, Came, MayHappen, handed_to, replaced, said_after, after, start, begin, acts}
use Rattle.agreement.specs.Invariant.{NoneFalse, IfPut, TrueRows, ChosenFrom, IsSaid, Fit, Invariant}
use Rattle.agreement.specs.Agreed.{RunsKeepTheInvariant}

any_map : (o : Option Row) (P Q : Row → Type 0) → ((r : Row) → P r → Q r) → IfAny o P → IfAny o Q
any_map None P Q f k = tt
any_map (Some r) P Q f k = f r k

put_map : (o : Option Writing) (P Q : Writing → Type 0) → ((t : Writing) → P t → Q t) → IfPut o P → IfPut o Q
put_map None P Q f k = tt
put_map (Some t) P Q f k = f t k

-- the sound units go on, and what was handed in stays handed in: what holds of a state, and of what was said, lasts
module _ (n : ℕ) (tb : QuorumTable) (falses : ℕ) (c d : Course)
    (on : (x : ℕ) → Sound tb falses x → Onward (c.units x) (d.units x))
    (more : (t : Writing) → Memᴰ t c.handed → Memᴰ t d.handed) where
  true_rows_last : (rows : ℕ → Option Row) (w x : ℕ) → Sound tb falses x → TrueRows n tb falses c rows w x → TrueRows n tb falses d rows w x
  true_rows_last rows w x sx (same, le) =
      let up = (on x sx).later in
      (λ v lt. same v lt ∙ sym ((on x sx).frozen v (omega arith)), omega arith)

  chosen_lasts : (w : ℕ) (t : Writing) → ChosenFrom n tb falses c w t → ChosenFrom n tb falses d w t
  chosen_lasts w t k = record {
    quorum = k.quorum;
    listed = k.listed;
    reports = k.reports;
    true_rows = λ x ix sx. true_rows_last (λ v. cell k.reports v x) w x sx (k.true_rows x ix sx);
    allowed = k.allowed;
  }

  fit_lasts : (s : State) → Fit n tb falses c s → Fit n tb falses d s
  fit_lasts s f = record {
    founded = f.founded;
    heard_is_said = λ x v sx. up_then (heard_at s v x) (own_at (c.units x) v) (own_at (d.units x) v) (f.heard_is_said x v sx) ((on x sx).grows v);
    kept_is_said = λ x sx h. true_rows_last (λ v. cell s.reports v x) s.view x sx (f.kept_is_said x sx h);
    chosen = λ w lt. any_map (own_at s w) _ _ (λ r k. chosen_lasts w r.ticket k) (f.chosen w lt);
    rows_handed = λ none v. any_map (own_at s v) _ _ (λ r k. more r.ticket k) (f.rows_handed none v);
    put_handed = λ none. put_map s.put _ _ more (f.put_handed none);
  }

  said_lasts : (x : ℕ) (said : Said) → Sound tb falses x → IsSaid n tb falses c x said → IsSaid n tb falses d x said
  said_lasts x (says_put v t) sx k = λ none. more t (k none)
  said_lasts x (says_row v r) sx k = holds_up (Grows r) (λ a b g h. record {
    ticket = g.ticket ∙ h.ticket;
    set = λ p i. g.set p (h.set p i);
    mark = λ e. g.mark (h.mark e);
  }) (own_at (c.units x) v) (own_at (d.units x) v) ((on x sx).grows v) k
  said_lasts x (says_report w rows) sx k = true_rows_last (row_in rows) w x sx k

-- a state that holds the same tickets in the same views, and heard, keeps and has put the same
record Alike (a b : State) : Type 1 where
  view : b.view ≡ a.view
  put : b.put ≡ a.put
  heard : b.heard ≡ a.heard
  reported : b.reported ≡ a.reported
  reports : b.reports ≡ a.reports
  tickets : (P : Writing → Type 0) (v : ℕ) → IfAny (own_at a v) (λ r. P r.ticket) → IfAny (own_at b v) (λ r. P r.ticket)

alike_same : (a : State) → Alike a a
alike_same a = record { view = refl; put = refl; heard = refl; reported = refl; reports = refl; tickets = λ P v k. k }

alike_then : (a b d : State) → Alike a b → Alike b d → Alike a d
alike_then a b d k l = record {
  view = l.view ∙ k.view;
  put = l.put ∙ k.put;
  heard = l.heard ∙ k.heard;
  reported = l.reported ∙ k.reported;
  reports = l.reports ∙ k.reports;
  tickets = λ P v h. l.tickets P v (k.tickets P v h);
}

pick_alike : {A : Type 0} (d : Dec A) (a b : State) → Alike a b → Alike a (pick d b a)
pick_alike (yes p) a b k = k
pick_alike (no p) a b k = alike_same a

own_alike : (s : State) (r r' : Row) → own_at s s.view ≡ Some r → r'.ticket ≡ r.ticket → Alike s (with_own (Some r') s)
own_alike s r r' e et = record {
  view = refl;
  put = refl;
  heard = refl;
  reported = refl;
  reports = refl;
  tickets = λ P v k. elim (set_cases s.own s.view v (Some r') None) [
    | inl same ↦ subst (λ (o : Option Row). IfAny o (λ z. P z.ticket)) (sym same) k
    | inr here ↦
        let k' : P r.ticket = subst (λ (o : Option Row). IfAny o (λ z. P z.ticket)) e (subst (λ z. IfAny (own_at s z) (λ z. P z.ticket)) (sym here.0) k) in
        subst (λ (o : Option Row). IfAny o (λ z. P z.ticket)) (sym here.1) (subst P (sym et) k')
  ];
}

module _ (n : ℕ) (tb : QuorumTable) where
  grown_alike : (s : State) → Alike s (grow_own_in n tb s)
  grown_alike s = pick_alike (dec_lt s.view n) s (grown_own tb (own_at s s.view) s) (go (own_at s s.view) refl)
    where
      go : (o : Option Row) → own_at s s.view ≡ o → Alike s (grown_own tb o s)
      go None e = alike_same s
      go (Some r) e = own_alike s r (grown tb (cell s.heard s.view) r) e refl

  announce_alike : (v : ℕ) (t : Writing) (s : State) → Alike s (announce_in n tb v t s)
  announce_alike v t s =
      pick_alike (dec_lt v n) s (with_announced (announced_or s.announced (ruled v t (least_rule tb (cell s.heard v) t))) s)
      (record { view = refl; put = refl; heard = refl; reported = refl; reports = refl; tickets = λ P v k. k })

  row_alike : (x v : ℕ) (r : Row) (s : State) → Alike (hear x v r s) (on_row_in n tb x v r s)
  row_alike x v r s =
      let h = hear x v r s in
      let g = grow_at_in n tb v h in
      alike_then h g (announce_in n tb v r.ticket g)
      (pick_alike (ℕ_discrete v h.view) h (grow_own_in n tb h) (grown_alike h)) (announce_alike v r.ticket g)

-- the least number that is found: it is below the bound, and P holds of it
least_step : {P : ℕ → Type 0} (n q : ℕ) (o : Option ℕ) → ((p : ℕ) → o ≡ Some p → (p < n) × P p) → (k : Dec (P n)) → or_else o (pick k (Some n) None) ≡ Some q
    → (q < suc n) × P q
least_step {P} n q (Some p) up k e =
    let same : p ≡ q = cc in
    let (lt, h) = up p refl in
    (omega arith, subst P same h)
least_step {P} n q None up (yes h) e = let same : n ≡ q = cc in (omega arith, subst P same h)
least_step n q None up (no h) e = absurd (some_none q (sym e))

least_has : {P : ℕ → Type 0} (d : (p : ℕ) → Dec (P p)) (n q : ℕ) → least? d n ≡ Some q → (q < n) × P q
unfolding least?
least_has d zero q e = absurd (some_none q (sym e))
least_has d (suc n) q e = least_step n q (least? d n) (λ p k. least_has d n p k) (d n) e

-- what each act makes of a fit state; d: the moment after it
module _ (n : ℕ) (tb : QuorumTable) (falses : ℕ) (d : Course) (proper : Proper tb) where
  alike_fit : (a b : State) → Alike a b → Founded n tb b → Fit n tb falses d a → Fit n tb falses d b
  alike_fit a b k fb f = record {
    founded = fb;
    heard_is_said = λ x v sx. subst (λ (g : Grid). Up (cell g v x) (own_at (d.units x) v)) (sym k.heard) (f.heard_is_said x v sx);
    kept_is_said = λ x sx h.
        let h' : Has a.reported x = subst (λ m. Has m x) k.reported h in
        subst (λ w. TrueRows n tb falses d (λ v. cell b.reports v x) w x) (sym k.view)
        (subst (λ (g : Grid). TrueRows n tb falses d (λ v. cell g v x) a.view x) (sym k.reports) (f.kept_is_said x sx h'));
    chosen = λ w lt. k.tickets (ChosenFrom n tb falses d w) w (f.chosen w lt);
    rows_handed = λ none v. k.tickets (λ t. Memᴰ t d.handed) v (f.rows_handed none v);
    put_handed = λ none. subst (λ (o : Option Writing). IfPut o (λ t. Memᴰ t d.handed)) (sym k.put) (f.put_handed none);
  }

  -- a row is noted that its sender, if sound, says
  hear_fit : (x v : ℕ) (r : Row) (s : State) → (Sound tb falses x → Holds (own_at (d.units x) v) (Grows r)) → Founded n tb (hear x v r s) → Fit n tb falses d s → Fit n tb falses d (hear x v r s)
  hear_fit x v r s said fh f = record {
    founded = fh;
    heard_is_said = λ y w sy. elim (cell_cases s.heard v x (Some (noted (heard_at s v x) r)) w y) [
      | inl e ↦ subst (λ (o : Option Row). Up o (own_at (d.units y) w)) (sym e) (f.heard_is_said y w sy)
      | inr k ↦
          let sx : Sound tb falses x = subst (Sound tb falses) (sym k.0.1) sy in
          let here : Holds (own_at (d.units x) v) (Grows (noted (heard_at s v x) r)) =
          noted_least (heard_at s v x) r (own_at (d.units x) v) (f.heard_is_said x v sx) (said sx) in
          let there : Holds (own_at (d.units y) w) (Grows (noted (heard_at s v x) r)) =
          subst (λ z. Holds (own_at (d.units y) z) (Grows (noted (heard_at s v x) r))) k.0.0
          (subst (λ z. Holds (own_at (d.units z) v) (Grows (noted (heard_at s v x) r))) k.0.1 here) in
          subst (λ (o : Option Row). Up o (own_at (d.units y) w)) (sym k.1) there
    ];
    kept_is_said = f.kept_is_said;
    chosen = f.chosen;
    rows_handed = f.rows_handed;
    put_handed = f.put_handed;
  }

  -- a put's ticket becomes the own row
  taken_fit : (t : Writing) (s : State) → (0 < s.view → SomeAllows tb s t) → (NoneFalse falses → Memᴰ t d.handed)
      → Founded n tb (with_own (Some (record { ticket = t; set = 0; mark = false })) s)
      → Fit n tb falses d s → Fit n tb falses d (with_own (Some (record { ticket = t; set = 0; mark = false })) s)
  taken_fit t s allowed handed fh f = record {
    founded = fh;
    heard_is_said = f.heard_is_said;
    kept_is_said = f.kept_is_said;
    chosen = λ w lt. apply (own_at (with_own (Some (record { ticket = t; set = 0; mark = false })) s) w) w (written_any (λ v r. 0 < v → ChosenFrom n tb falses d v r.ticket) chose w (any_map (own_at s w) _ _ (λ r k _. k) (f.chosen w lt))) lt;
    rows_handed = λ none v. written_any (λ v r. Memᴰ r.ticket d.handed) (handed none) v (f.rows_handed none v);
    put_handed = f.put_handed;
  }
    where
      -- what holds of the new row and of the old ones
      written_any : (P : ℕ → Row → Type 0) → P s.view (record { ticket = t; set = 0; mark = false }) → (v : ℕ) → IfAny (own_at s v) (P v)
          → IfAny (own_at (with_own (Some (record { ticket = t; set = 0; mark = false })) s) v) (P v)
      written_any P here v k = elim (set_cases s.own s.view v (Some (record { ticket = t; set = 0; mark = false })) None) [
        | inl e ↦ subst (λ (o : Option Row). IfAny o (P v)) (sym e) k
        | inr e ↦ subst (λ (o : Option Row). IfAny o (P v)) (sym e.1) (subst (λ z. P z (record { ticket = t; set = 0; mark = false })) e.0 here)
      ]

      apply : (o : Option Row) (w : ℕ) → IfAny o (λ r. 0 < w → ChosenFrom n tb falses d w r.ticket) → 0 < w → IfAny o (λ r. ChosenFrom n tb falses d w r.ticket)
      apply None w k lt = tt
      apply (Some r) w k lt = k lt

      chose : 0 < s.view → ChosenFrom n tb falses d s.view t
      chose lt =
          let (q, iq, (full, allows)) = allowed lt in
          record {
            quorum = q;
            listed = iq;
            reports = s.reports;
            true_rows = λ x ix sx. f.kept_is_said x sx (full x ix);
            allowed = allows;
          }

  -- an accepted report is for the unit's view
  report_now : (x w : ℕ) (rows : List (Option Row)) (s : State) → report_fault x w rows s ≡ None → w ≡ s.view
  report_now x w rows s e = go (ℕ_discrete w s.view) e
    where
      go : (k : Dec (w ≡ s.view)) → pick k (pick (if? (has? s.reported x) (same_rows? (report_of x s.reports) rows)) None (Some (faults.OtherReport x))) (Some (faults.ReportForOther x)) ≡ None → w ≡ s.view
      go (yes k) e = k
      go (no k) e = absurd (some_none _ e)

  -- a report is kept that its sender, if sound, says
  report_fit : (x : ℕ) (rows : List (Option Row)) (s : State) → (Sound tb falses x → TrueRows n tb falses d (row_in rows) s.view x)
      → Founded n tb (on_report x rows s) → Fit n tb falses d s → Fit n tb falses d (on_report x rows s)
  report_fit x rows s said fh f = record {
    founded = fh;
    heard_is_said = f.heard_is_said;
    kept_is_said = λ y sy h. elim (ℕ_discrete x y) [
      | yes e ↦
          let (same, le) = said (subst (Sound tb falses) (sym e) sy) in
          let (same', le') = subst (λ z. TrueRows n tb falses d (row_in rows) s.view z) e (same, le) in
          (λ v lt. at_own v y e sy.0 lt ∙ same' v lt, le')
      | no ne ↦
          let h' : Has s.reported y = elim ((with_unit_is s.reported x y).0 h) [ inl i ↦ i | inr i ↦ absurd (ne (sym i.0)) ] in
          let (same, le) = f.kept_is_said y sy h' in
          (λ v lt. at_other v y ne lt ∙ same v lt, le)
    ];
    chosen = f.chosen;
    rows_handed = f.rows_handed;
    put_handed = f.put_handed;
  }
    where
      long : (v : ℕ) → v < s.view → v < length s.reports
      long v lt = let a = f.founded.within in let b = f.founded.shape.0 in omega arith

      wide : (v : ℕ) → v < s.view → length (get_or s.reports v []) ≡ units_most
      wide v lt = f.founded.shape.1 v (let a = f.founded.within in omega arith)

      at_own : (v y : ℕ) → x ≡ y → y < tb.units → v < s.view → cell (filed x rows s.reports) v y ≡ row_in rows v
      at_own v y e ly lt =
          ap (λ (l : List (Option Row)). row_in l y) (filed_at x rows s.reports v (long v lt))
          ∙ ap (row_in (set (get_or s.reports v []) x (row_in rows v))) (sym e)
          ∙ get_or-set_same (get_or s.reports v []) x (row_in rows v) None (let a = wide v lt in let b = proper.units_bound.1 in omega arith)

      at_other : (v y : ℕ) → ¬ (x ≡ y) → v < s.view → cell (filed x rows s.reports) v y ≡ cell s.reports v y
      at_other v y ne lt =
          ap (λ (l : List (Option Row)). row_in l y) (filed_at x rows s.reports v (long v lt))
          ∙ get_or-set_other (get_or s.reports v []) x y (row_in rows v) None (λ e. ne (sym e))

  raise_fit : (w : ℕ) (s : State) → Founded n tb (on_raise_in n w s) → Fit n tb falses d s → Fit n tb falses d (on_raise_in n w s)
  raise_fit w s fh f = record {
    founded = fh;
    heard_is_said = f.heard_is_said;
    kept_is_said = λ x sx h. absurd (none_has x h);
    chosen = f.chosen;
    rows_handed = f.rows_handed;
    put_handed = λ none. tt;
  }

  -- with no false unit, what the deciding quorum's choice names was handed in: some unit of the quorum holds it
  held_handed : (t : Writing) (o : Option Row) → IfAny o (λ r. Memᴰ r.ticket d.handed) → Holds o (For t) → Memᴰ t d.handed
  held_handed t None k h = absurd h
  held_handed t (Some r) k h = subst (λ (z : Writing). Memᴰ z d.handed) h k

  -- M: what the handed tickets are, at the moment d or a later one
  module _ (s : State) (f : Fit n tb falses d s) (none : NoneFalse falses)
      (own : (x : ℕ) → Sound tb falses x → (v : ℕ) → IfAny (own_at (d.units x) v) (λ r. Memᴰ r.ticket d.handed))
      (M : Writing → Type 0) (up : (t : Writing) → Memᴰ t d.handed → M t) where
    live_handed : (q : ℕ) → IsQuorum tb q → FullyReported tb s q → (t : Writing) → Live tb q s.reports s.view t → M t
    live_handed q iq full t (v, vw, (backed, nb)) =
        let (x, ix, h) = reports tb q s.reports proper iq v t backed in
        let sx : Sound tb falses x = (proper.quorums_below q iq x ix, none x) in
        up t (held_handed t (own_at (d.units x) v) (own x sx v)
        (subst (λ (o : Option Row). Holds o (For t)) ((f.kept_is_said x sx (full x ix)).0 v vw) h))

    by_handed : (L : Writing → Type 0) → ((t : Writing) → L t → M t) → (k : Choice Writing) → Chosen L k → (t : Writing) → M t → M (ticket_by k t)
    by_handed L only Free k t m = m
    by_handed L only (Only u) k t m = only u k.0
    by_handed L only Torn k t m = m

    deciding_handed : (o : Option ℕ) → deciding tb s ≡ o → (t : Writing) → M t → M (by_deciding tb s o t)
    deciding_handed None e t m = m
    deciding_handed (Some q) e t m =
        let (iq, (full, nt)) = least_has (λ q. both? (fully? tb s q) (not? (torn? (choice_at tb s q)))) (length tb.quorums) q e in
        by_handed (Live tb q s.reports s.view) (live_handed q iq full) (choice_at tb s q) (choice_of_live tb q s.reports s.view proper iq) t m

    put_handed_in : (t : Writing) → M t → M (put_ticket tb s t)
    put_handed_in t m = go (dec_lt 0 s.view)
      where
        go : (k : Dec (0 < s.view)) → M (pick k (by_deciding tb s (deciding tb s) t) t)
        go (yes lt) = deciding_handed (deciding tb s) refl t m
        go (no ge) = m

  -- what may happen, seen from the moment after it
  abbrev Arrived : State → Act → Type 0
  Arrived s (putting t) = NoneFalse falses → Memᴰ (put_ticket tb s t) d.handed
  Arrived s (raising w) = Unit {0}
  Arrived s repeating = Unit {0}
  Arrived s (receiving x said) = (Sound tb falses x → IsSaid n tb falses d x said) × (NoneFalse falses → x < tb.units → Sound tb falses x)

  leader_below : (x v : ℕ) → v % tb.units ≡ x → x < tb.units
  leader_below x v e = subst (λ z. z < tb.units) e (mod-lt v (let a = proper.units_bound.0 in omega arith))

  said_fit : (x : ℕ) (said : Said) (s : State) → said_fault tb x said s ≡ None → Arrived s (receiving x said) → Founded n tb (said_done_in n tb x said s)
      → Fit n tb falses d s → Fit n tb falses d (said_done_in n tb x said s)
  said_fit x (says_put v t) s e arrived fs f =
      let taken = put_taken n tb x v t s e in
      let a = with_own (Some (record { ticket = t; set = 0; mark = false })) s in
      alike_fit a (on_put_in n tb t s) (grown_alike n tb a) fs
      (taken_fit t s taken.allowed (λ none. arrived.0 (arrived.1 none (leader_below x v taken.leads)) none)
      (taken_goes n tb t s taken.no_row f.founded).0 f)
  said_fit x (says_row v r) s e arrived fs f =
      alike_fit (hear x v r s) (on_row_in n tb x v r s) (row_alike n tb x v r s) fs
      (hear_fit x v r s arrived.0 (hear_goes n tb x v r s f.founded).0 f)
  said_fit x (says_report w rows) s e arrived fs f =
      report_fit x rows s (λ sx. subst (λ z. TrueRows n tb falses d (row_in rows) z x) (report_now x w rows s e) (arrived.0 sx)) fs f

  act_fit : (u : ℕ) (act : Act) (s : State) → act_fault n tb u act s ≡ None → Arrived s act → Founded n tb (act_done n tb u act s)
      → Fit n tb falses d s → Fit n tb falses d (act_done n tb u act s)
  act_fit u (putting t) s e arrived fs f = record {
    founded = fs;
    heard_is_said = f.heard_is_said;
    kept_is_said = f.kept_is_said;
    chosen = f.chosen;
    rows_handed = f.rows_handed;
    put_handed = λ none. arrived none;
  }
  act_fit u (raising w) s e arrived fs f = raise_fit w s fs f
  act_fit u repeating s e arrived fs f = f
  act_fit u (receiving x said) s e arrived fs f = said_fit x said s e arrived fs f

  -- what goes out of a fit state is said
  module _ (u : ℕ) (s : State) (same : d.units u ≡ s) (f : Fit n tb falses d s) where
    if_in : (b : Bool) (l : List Said) (m : Said) → Memᴰ m (only_if b l) → Memᴰ m l
    if_in true l m k = k
    if_in false l m k = absurd (Memᴰ.not-nil k)

    put_said_lem : (o : Option Writing) → s.put ≡ o → (m : Said) → Memᴰ m (put_said s.view o) → IsSaid n tb falses d u m
    put_said_lem None e m k = absurd (Memᴰ.not-nil k)
    put_said_lem (Some t) e m k =
        subst (IsSaid n tb falses d u) (sym (Memᴰ.eq_of_singleton k))
        (λ none. subst (λ (o : Option Writing). IfPut o (λ t. Memᴰ t d.handed)) e (f.put_handed none))

    row_said_lem : (o : Option Row) → own_at s s.view ≡ o → (m : Said) → Memᴰ m (row_said s.view o) → IsSaid n tb falses d u m
    row_said_lem None e m k = absurd (Memᴰ.not-nil k)
    row_said_lem (Some r) e m k =
        subst (IsSaid n tb falses d u) (sym (Memᴰ.eq_of_singleton k))
        (subst (λ (o : Option Row). Holds o (Grows r)) (sym (ap (λ (z : State). own_at z s.view) same ∙ e)) (grows_same r))

    report_said_lem : (m : Said) → Memᴰ m (report_said s) → IsSaid n tb falses d u m
    report_said_lem m k =
        subst (IsSaid n tb falses d u) (sym (Memᴰ.eq_of_singleton k)) (
          λ v lt. below_kept s.view s.own v lt ∙ ap (λ (z : State). own_at z v) (sym same),
          subst (λ (z : State). s.view ≤ z.view) (sym same) (omega arith),
        )

    out_said : (sends : Sends) (m : Said) → Memᴰ m (outgoing sends s) → IsSaid n tb falses d u m
    out_said sends m k =
        elim (Memᴰ.append_cases (only_if sends.put (put_said s.view s.put)) k) [
          | inl i ↦ put_said_lem s.put refl m (if_in sends.put (put_said s.view s.put) m i)
          | inr i ↦ elim (Memᴰ.append_cases (only_if sends.row (row_said s.view (own_at s s.view))) i) [
            | inl j ↦ row_said_lem (own_at s s.view) refl m (if_in sends.row (row_said s.view (own_at s s.view)) m j)
            | inr j ↦ report_said_lem m (if_in sends.report (report_said s) m j)
          ]
        ]

pub replaced_other : (units : ℕ → State) (u x : ℕ) (s : State) → ¬ (u ≡ x) → replaced units u s x ≡ units x
replaced_other units u x s ne = go (ℕ_discrete u x)
  where
    go : (k : Dec (u ≡ x)) → pick k s (units x) ≡ units x
    go (yes e) = absurd (ne e)
    go (no e) = refl

pub replaced_same : (units : ℕ → State) (u : ℕ) (s : State) → replaced units u s u ≡ s
replaced_same units u s = go (ℕ_discrete u u)
  where
    go : (k : Dec (u ≡ u)) → pick k s (units u) ≡ s
    go (yes e) = refl
    go (no e) = absurd (e refl)

-- one act of a sound unit
module _ (n : ℕ) (tb : QuorumTable) (falses : ℕ) (c : Course) (proper : Proper tb) (inv : Invariant n tb falses c)
    (u : ℕ) (act : Act) (su : Sound tb falses u) (may : MayHappen falses c act) (ok : act_fault n tb u act (c.units u) ≡ None) where
  abbrev then : Course
  then = after n tb c u act

  abbrev s : State
  s = c.units u

  went : Founded n tb (act_done n tb u act s) × Onward s (act_done n tb u act s)
  went = act_goes n tb u act s ok (inv.fit u su).founded

  on : (x : ℕ) → Sound tb falses x → Onward (c.units x) (then.units x)
  on x sx = elim (ℕ_discrete u x) [
    | yes e ↦ subst (λ z. Onward (c.units z) (then.units z)) e (subst (Onward s) (sym (replaced_same c.units u (act_done n tb u act s))) went.1)
    | no ne ↦ subst (Onward (c.units x)) (sym (replaced_other c.units u x (act_done n tb u act s) ne))
        (record { later = omega arith; frozen = λ v lt. refl; grows = λ v. up_same (own_at (c.units x) v) })
  ]

  more : (t : Writing) → Memᴰ t c.handed → Memᴰ t then.handed
  more t m = Memᴰ.append_right (handed_to act) m

  still : Fit n tb falses then s
  still = fit_lasts n tb falses c then on more s (inv.fit u su)

  -- what arrived was said by its sender, if that is sound
  came_said : (x : ℕ) (said : Said) → Came falses c x said → Sound tb falses x → IsSaid n tb falses then x said
  came_said x said (inl h) sx = absurd (sx.1 h)
  came_said x said (inr m) sx = said_lasts n tb falses c then on more x said sx (inv.sent_is_said x said sx m)

  arrived : Arrived n tb falses then proper s act
  arrived = go act may refl
    where
      handed_now : (t : Writing) → NoneFalse falses → Memᴰ (put_ticket tb s t) (t ∷ c.handed)
      handed_now t none =
          put_handed_in n tb falses c proper s (inv.fit u su) none (λ x sx v. (inv.fit x sx).rows_handed none v)
          (λ z. Memᴰ z (t ∷ c.handed)) (λ z m. Memᴰ.append_right (t ∷ []) m) t (Memᴰ.head refl)

      go : (a : Act) → MayHappen falses c a → act ≡ a → Arrived n tb falses then proper s a
      go (putting t) m e = λ none. subst (λ (a : Act). Memᴰ (put_ticket tb s t) (handed_to a ++ c.handed)) (sym e) (handed_now t none)
      go (raising w) m e = tt
      go repeating m e = tt
      go (receiving x said) m e = (came_said x said m, λ none lt. (lt, none x))

  fit_now : Fit n tb falses then (act_done n tb u act s)
  fit_now = act_fit n tb falses then proper u act s ok arrived went.0 still

  kept : Invariant n tb falses then
  kept = record {
    fit = λ x sx. elim (ℕ_discrete u x) [
      | yes e ↦ subst (λ z. Fit n tb falses then (then.units z)) e (subst (Fit n tb falses then) (sym (replaced_same c.units u (act_done n tb u act s))) fit_now)
      | no ne ↦ subst (Fit n tb falses then) (sym (replaced_other c.units u x (act_done n tb u act s) ne)) (fit_lasts n tb falses c then on more (c.units x) (inv.fit x sx))
    ];
    sent_is_said = λ x said sx m. elim (Memᴰ.append_cases (map (sent_by u) (said_after n tb c u act)) m) [
      | inl k ↦ from_now x said k
      | inr k ↦ said_lasts n tb falses c then on more x said sx (inv.sent_is_said x said sx k)
    ];
  }
    where
      from_now : (x : ℕ) (said : Said) → Memᴰ (sent_by x said) (map (sent_by u) (said_after n tb c u act)) → IsSaid n tb falses then x said
      from_now x said k =
          let (m, i, e) = Memᴰ.of_map (sent_by u) (said_after n tb c u act) k in
          let said-is : m ≡ said = ap (λ (z : Sent). z.said) e in
          let by-u : u ≡ x = ap (λ (z : Sent). z.sender) e in
          subst (λ z. IsSaid n tb falses then z said) by-u
          (subst (IsSaid n tb falses then u) said-is
          (out_said n tb falses then proper u (act_done n tb u act s) (replaced_same c.units u (act_done n tb u act s)) fit_now (act_sends n tb u act s) m i))

pub keeps_invariant : RunsKeepTheInvariant
keeps_invariant n tb falses c proper begin = record {
  fit = λ u su. record {
    founded = fresh_founded n tb;
    heard_is_said = λ x v sx. subst (λ (o : Option Row). Up o (row_in (replicate n None) v)) (sym (none_heard n v x)) tt;
    kept_is_said = λ x sx h. absurd (none_has x h);
    chosen = λ w lt. subst (λ (o : Option Row). IfAny o (λ r. ChosenFrom n tb falses (start n tb) w r.ticket)) (sym (none_fresh n w)) tt;
    rows_handed = λ none v. subst (λ (o : Option Row). IfAny o (λ r. Memᴰ r.ticket [])) (sym (none_fresh n v)) tt;
    put_handed = λ none. tt;
  };
  sent_is_said = λ x said sx m. absurd (Memᴰ.not-nil m);
}
keeps_invariant n tb falses c proper (acts {c = a} u act run su may ok) =
    kept n tb falses a proper (keeps_invariant n tb falses a proper run) u act su may ok
