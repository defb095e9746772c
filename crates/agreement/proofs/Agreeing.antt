-- The agreement theorem from the invariant.
use Rattle.std.proofs.Common.{◌≡◌, ℕ, zero, suc, ◌<◌, length, get_or, Some, None, Option, sym, ◌∙◌, subst, inl, inr, arith}
use mathlib.Core.List.{Memᴰ}
use native.Mathlib.Decide.{dec_lt}
use Rattle.sets.specs.Sets.{Has, Set, Bearable, Basic, Large, fault_at}
use Rattle.sets.specs.Decisions.{has?}
use Rattle.sets.proofs.Sides.{basic_more}
use Rattle.table.specs.Tables.{QuorumTable, Proper, IsQuorum, In, Class1, Class12, Shared2, Shared3}
use Rattle.ticket.specs.declared.writing.Writing.{Writing}
use Rattle.rows.specs.declared.row.Row.{Row}
use Rattle.rows.specs.declared.rule.Rule.{Rule}
use Rattle.rows.specs.declared.rule.Rule.TheVariants as rules
use Rattle.rows.specs.Rows.{Grid, cell, Holds, For, ForAt, ForFilled, ForMarked, Against, AgainstFilled}
use Rattle.rows.specs.Rules.{Needed}
use Rattle.rows.specs.Decided.{same?}
use Rattle.rows.proofs.Facts.{holds_map, needs_ticket}
use Rattle.choice.specs.Reports.{BackedBy, Backed, Later, Barred, Live}
use Rattle.choice.specs.Chosen.{Chosen, choice_of}
use Rattle.choice.specs.declared.choice.Choice.{Choice}
use Rattle.choice.specs.declared.choice.Choice.TheVariants.{Free, Only, Torn}
use Rattle.choice.proofs.Settles.{choice_of_live}
use Rattle.growth.specs.Growth.{Entire, Spread, Met}
use Rattle.unit.specs.declared.announcement.Announcement.{Announcement}
use Rattle.unit.specs.States.{own_at, heard_at}
use Rattle.unit.specs.Reported.{Allows, FullyReported, choice_at}
use Rattle.life.specs.Lives.{IfAny, FoundedRow, Grounded}
use Rattle.life.proofs.Ups.{Lasts, holds_up, for_lasts, filled_lasts, needed_lasts}
use Rattle.agreement.specs.Runs.{Course, Sound}
use Rattle.agreement.specs.Invariant.{NoneFalse, ChosenFrom, Invariant}
use Rattle.agreement.specs.Agreed.{Agreed}

-- what is not other is the same
stable : (t t' : Writing) → ¬ (¬ (t ≡ t')) → t ≡ t'
stable t t' k = elim (same? t t') [ yes e ↦ e | no ne ↦ absurd (k ne) ]

-- sets

-- a large set is basic even without a fault set
large_without : (tb : QuorumTable) (s : Set) (g : ℕ) → Large tb.faults s → g < length tb.faults → Basic tb.faults (λ x. s x × ¬ (fault_at tb.faults g x))
large_without tb s g l lg (h, lh, k) =
    l g h lg lh (λ x sx. elim (has? (get_or tb.faults g 0) x) [ yes i ↦ inl i | no o ↦ inr (k x (sx, o)) ])

-- a basic set has a member outside each fault set: used for a contradiction
basic_some : (tb : QuorumTable) (s : Set) (g : ℕ) → Basic tb.faults s → g < length tb.faults → ((x : ℕ) → s x → ¬ (fault_at tb.faults g x) → ⊥) → ⊥
basic_some tb s g b lg k =
    b (g, lg, λ x sx. elim (has? (get_or tb.faults g 0) x) [ yes i ↦ i | no o ↦ absurd (k x sx o) ])

-- rows

tickets_agree : (o : Option Row) (t t' : Writing) → Holds o (For t) → Holds o (For t') → t ≡ t'
tickets_agree None t t' h h' = absurd h
tickets_agree (Some r) t t' h h' = sym h ∙ h'

ticket_of : (rule : Rule) (p : ℕ) (t : Writing) (o : Option Row) → Holds o (Needed rule p t) → Holds o (For t)
ticket_of rule p t o h = holds_map o (Needed rule p t) (For t) (needs_ticket rule p t) h

at_same : (P : Row → Type 0) (o o' : Option Row) → o ≡ o' → Holds o P → Holds o' P
at_same P o o' e h = subst (λ (z : Option Row). Holds z P) e h

-- what a founded row rests on
module _ (tb : QuorumTable) (h : ℕ → Option Row) where
  entire_as : (p : ℕ) (t t' : Writing) → t ≡ t' → Entire tb h p (For t) → Entire tb h p (For t')
  entire_as p t t' e k = subst (λ (z : Writing). Entire tb h p (For z)) e k

  place_heard : (o : Option Row) (t : Writing) (p : ℕ) → IfAny o (FoundedRow tb h) → Holds o (ForAt t p) → IsQuorum tb p × Entire tb h p (For t)
  place_heard None t p f k = absurd k
  place_heard (Some r) t p f k = let q = f.named p k.1 in (q.0, entire_as p r.ticket t k.0 q.1)

  mark_heard : (o : Option Row) (t : Writing) → IfAny o (FoundedRow tb h) → Holds o (ForMarked t) → Spread tb h t
  mark_heard None t f k = absurd k
  mark_heard (Some r) t f k = subst (λ (z : Writing). Spread tb h z) k.0 (f.spread k.1)

  other_heard : (o : Option Row) (t : Writing) → IfAny o (FoundedRow tb h) → Holds o (AgainstFilled t)
      → (t' : Writing) × (p : ℕ) × (¬ (t' ≡ t)) × IsQuorum tb p × Entire tb h p (For t')
  other_heard None t f k = absurd k
  other_heard (Some r) t f (ne, (p, i)) = let q = f.named p i in (r.ticket, p, ne, q.0, q.1)

-- the choice lets a ticket be put: the one live ticket is it
allowed_live : (L : Writing → Type 0) (c : Choice Writing) (t t' : Writing) → Chosen L c → Allows c t' → L t → t ≡ t'
allowed_live L Free t t' k a l = absurd (k t l)
allowed_live L (Only s) t t' k a l = k.1 t l ∙ a
allowed_live L Torn t t' k a l = absurd a

module _ (n : ℕ) (tb : QuorumTable) (falses : ℕ) (c : Course) (proper : Proper tb) (bear : Bearable tb.faults (Has falses)) (inv : Invariant n tb falses c) where
  -- a unit of a quorum that is not false is sound
  sound_in : (p x : ℕ) → IsQuorum tb p → In tb p x → ¬ (Has falses x) → Sound tb falses x
  sound_in p x ip ix ns = (proper.quorums_below p ip x ix, ns)

  -- a basic set has a member that is not false
  sound_some : (a : Set) → Basic tb.faults a → ((x : ℕ) → a x → ¬ (Has falses x) → ⊥) → ⊥
  sound_some a b k = basic_some tb a bear.0 b bear.1 (λ x ax o. k x ax (λ f. o (bear.2 x f)))

  -- all sound units of quorum p hold such a row in view v
  abbrev Voted : (p v : ℕ) → (Row → Type 0) → Type 0
  Voted p v P = (x : ℕ) → In tb p x → Sound tb falses x → Holds (own_at (c.units x) v) P

  -- what a sound unit has heard of a whole quorum, its sound units hold
  voted : (P : Row → Type 0) → Lasts P → (u p v : ℕ) → Sound tb falses u → Entire tb (cell (c.units u).heard v) p P → Voted p v P
  voted P lasts u p v su e x ix sx =
      holds_up P lasts (heard_at (c.units u) v x) (own_at (c.units x) v) ((inv.fit u su).heard_is_said x v sx) (e x ix)

  -- two quorums do not vote for two tickets in one view
  one_vote : (p q v : ℕ) (t t' : Writing) → IsQuorum tb p → IsQuorum tb q → Voted p v (For t) → Voted q v (For t') → ¬ (t ≡ t') → ⊥
  one_vote p q v t t' ip iq a b ne =
      sound_some (Shared2 tb p q) (proper.first_property p q ip iq)
      (λ x i ns. let sx = sound_in p x ip i.0 ns in ne (tickets_agree (own_at (c.units x) v) t t' (a x i.0 sx) (b x i.1 sx)))

  -- a place in a sound unit's row is a quorum that voted for its ticket
  place_voted : (y v p : ℕ) (t : Writing) → Sound tb falses y → Holds (own_at (c.units y) v) (ForAt t p) → IsQuorum tb p × Voted p v (For t)
  place_voted y v p t sy k =
      let q = place_heard tb (cell (c.units y).heard v) (own_at (c.units y) v) t p ((inv.fit y sy).founded.rows v) k in
      (q.0, voted (For t) (for_lasts t) y p v sy q.1)

  -- a mark in a sound unit's row rests on a quorum that voted for its ticket with sets that are not empty
  mark_voted : (y v : ℕ) (t : Writing) → Sound tb falses y → Holds (own_at (c.units y) v) (ForMarked t) → (p : ℕ) × IsQuorum tb p × Voted p v (ForFilled t)
  mark_voted y v t sy k =
      let q = mark_heard tb (cell (c.units y).heard v) (own_at (c.units y) v) t ((inv.fit y sy).founded.rows v) k in
      (q.0, q.1, voted (ForFilled t) (filled_lasts t) y q.0 v sy q.2)

  -- an announcement: a quorum voted for it, and any true reports of a quorum back it

  record Announced (v : ℕ) (t : Writing) : Type 0 where
    by : ℕ
    listed : IsQuorum tb by
    votes : Voted by v (For t)
    backs : (q : ℕ) (kept : Grid) → IsQuorum tb q → ((x : ℕ) → In tb q x → Sound tb falses x → cell kept v x ≡ own_at (c.units x) v) → Backed tb q kept v t

  as_backed : (q : ℕ) (kept : Grid) (rule : Rule) (v : ℕ) (t : Writing) → BackedBy tb q kept rule v t → Backed tb q kept v t
  as_backed q kept rules.First v t b = inl b
  as_backed q kept rules.Second v t b = inr (inl b)
  as_backed q kept rules.Third v t b = inr (inr b)

  announced_as : (u v : ℕ) (t : Writing) (rule : Rule) → Sound tb falses u → Met tb (cell (c.units u).heard v) rule t → Announced v t
  announced_as u v t rule su (p, ip, (ranked, e)) =
      let vt : Voted p v (Needed rule p t) = voted (Needed rule p t) (needed_lasts rule p t) u p v su e in
      record {
        by = p;
        listed = ip;
        votes = λ x ix sx. ticket_of rule p t (own_at (c.units x) v) (vt x ix sx);
        backs = λ q kept iq same. as_backed q kept rule v t (
          p,
          (ip, ranked),
          (
            bear.0,
            bear.1,
            λ x ix jx out.
                let sx = sound_in p x ip ix (λ f. out (bear.2 x f)) in
                at_same (Needed rule p t) (own_at (c.units x) v) (cell kept v x) (sym (same x jx sx)) (vt x ix sx),
          ),
        );
      }

  announcement : (u : ℕ) (a : Announcement) → Sound tb falses u → (c.units u).announced ≡ Some a → Announced a.view a.ticket
  announcement u a su e =
      announced_as u a.view a.ticket a.rule su
      (subst (λ (o : Option Announcement). Grounded tb (c.units u).heard o) e (inv.fit u su).founded.grounds)

  chosen_other : (w : ℕ) (t : Writing) (o : Option Row) → IfAny o (λ r. ChosenFrom n tb falses c w r.ticket) → Holds o (Against t)
      → (t' : Writing) × (¬ (t' ≡ t)) × ChosenFrom n tb falses c w t'
  chosen_other w t None k h = absurd h
  chosen_other w t (Some r) k h = (r.ticket, h, k)

  -- after an announcement no sound unit holds another ticket; k bounds the induction
  lock : (v : ℕ) (t : Writing) → Announced v t → (k w : ℕ) → w < k → v < w → (x : ℕ) → Sound tb falses x → Holds (own_at (c.units x) w) (Against t) → ⊥
  lock v t an zero w wk vw x sx h = omega arith
  lock v t an (suc k) w wk vw x sx h =
      let (t', ne, ch) = chosen_other w t (own_at (c.units x) w) ((inv.fit x sx).chosen w (omega arith)) h in
      let q = ch.quorum in
      let ρ = ch.reports in
      let here : (y : ℕ) → In tb q y → ¬ (Has falses y) → Sound tb falses y = λ y iy ny. sound_in q y ch.listed iy ny in
      let not_in : ¬ (Basic tb.faults (λ y. In tb q y × Holds (cell ρ v y) (AgainstFilled t))) = λ b.
      sound_some _ b (λ y m ny.
      let sy = here y m.0 ny in
      let held = at_same (AgainstFilled t) (cell ρ v y) (own_at (c.units y) v) ((ch.true_rows y m.0 sy).0 v vw) m.1 in
      let (t'', p, ne', ip, e) = other_heard tb (cell (c.units y).heard v) (own_at (c.units y) v) t ((inv.fit y sy).founded.rows v) held in
      one_vote p an.by v t'' t ip an.listed (voted (For t'') (for_lasts t'') y p v sy e) an.votes ne') in
      let not_after : ¬ (Basic tb.faults (λ y. In tb q y × Later ρ w v t y)) = λ b.
      sound_some _ b (λ y m ny.
      let sy = here y m.0 ny in
      let (v', lo, hi, r) = m.1 in
      lock v t an k v' (omega arith) lo y sy (at_same (Against t) (cell ρ v' y) (own_at (c.units y) v') ((ch.true_rows y m.0 sy).0 v' hi) r)) in
      let live : Live tb q ρ w t =
      (v, vw, (an.backs q ρ ch.listed (λ y iy sy. (ch.true_rows y iy sy).0 v vw), λ b. elim b [ inl i ↦ not_in i | inr i ↦ not_after i ])) in
      ne (sym (allowed_live (Live tb q ρ w) (choice_of tb q ρ w) t t' (choice_of_live tb q ρ w proper ch.listed) ch.allowed live))

  held_other : (o : Option Row) (r : Row) (t : Writing) → o ≡ Some r → ¬ (r.ticket ≡ t) → Holds o (Against t)
  held_other o r t e ne = at_same (Against t) (Some r) o (sym e) ne

  later_keeps : (u x w : ℕ) (a : Announcement) (r : Row) → Sound tb falses u → Sound tb falses x
      → (c.units u).announced ≡ Some a → a.view < w → own_at (c.units x) w ≡ Some r → r.ticket ≡ a.ticket
  later_keeps u x w a r su sx ea lt er =
      stable r.ticket a.ticket
      (λ ne. lock a.view a.ticket (announcement u a su ea) (suc w) w (omega arith) lt x sx (held_other (own_at (c.units x) w) r a.ticket er ne))

  -- the votes of a view after an announcement are for its ticket
  against_if : (t t' : Writing) (o : Option Row) → ¬ (t ≡ t') → Holds o (For t') → Holds o (Against t)
  against_if t t' None ne h = h
  against_if t t' (Some r) ne h = λ e. ne (sym e ∙ h)

  no_later : (v v' : ℕ) (t t' : Writing) → v < v' → Announced v t → Announced v' t' → ¬ (t ≡ t') → ⊥
  no_later v v' t t' lt an an' ne =
      sound_some (Shared2 tb an'.by an'.by) (proper.first_property an'.by an'.by an'.listed an'.listed)
      (λ x i ns.
      let sx = sound_in an'.by x an'.listed i.0 ns in
      lock v t an (suc v') v' (omega arith) lt x sx (against_if t t' (own_at (c.units x) v') ne (an'.votes x i.0 sx)))

  no_two : (v v' : ℕ) (t t' : Writing) → Announced v t → Announced v' t' → ¬ (t ≡ t') → ⊥
  no_two v v' t t' an an' ne =
      elim (dec_lt v v') [
        | yes lt ↦ no_later v v' t t' lt an an' ne
        | no ge ↦ elim (dec_lt v' v) [
          | yes lt ↦ no_later v' v t' t lt an' an (λ e. ne (sym e))
          | no ge' ↦
              let e : v' ≡ v = omega arith in
              one_vote an.by an'.by v t t' an.listed an'.listed an.votes (subst (λ z. Voted an'.by z (For t')) e an'.votes) ne
        ]
      ]

  one_ticket : (u u' : ℕ) (a a' : Announcement) → Sound tb falses u → Sound tb falses u'
      → (c.units u).announced ≡ Some a → (c.units u').announced ≡ Some a' → a.ticket ≡ a'.ticket
  one_ticket u u' a a' su su' e e' =
      stable a.ticket a'.ticket (no_two a.view a'.view a.ticket a'.ticket (announcement u a su e) (announcement u' a' su' e'))

  -- with no false unit, what is announced is held by some unit, and what is held was handed in
  handed_ticket : (t : Writing) (o : Option Row) → IfAny o (λ r. Memᴰ r.ticket c.handed) → Holds o (For t) → Memᴰ t c.handed
  handed_ticket t None k h = absurd h
  handed_ticket t (Some r) k h = subst (λ (z : Writing). Memᴰ z c.handed) h k

  announced_handed : NoneFalse falses → (u : ℕ) (a : Announcement) → Sound tb falses u → (c.units u).announced ≡ Some a → Memᴰ a.ticket c.handed
  announced_handed none u a su e =
      let an = announcement u a su e in
      let (x, ix) = proper.some_unit an.by an.listed in
      let sx = sound_in an.by x an.listed ix (none x) in
      handed_ticket a.ticket (own_at (c.units x) a.view) ((inv.fit x sx).rows_handed none a.view) (an.votes x ix sx)

  -- true reports of a quorum with no false unit

  module _ (w q : ℕ) (iq : IsQuorum tb q) (kept : Grid)
      (tr : (x : ℕ) → In tb q x → Sound tb falses x × ((v : ℕ) → v < w → cell kept v x ≡ own_at (c.units x) v)) where
    -- units of p and q outside a fault set report such a row
    abbrev All : (p g v : ℕ) → (Row → Type 0) → Type 0
    All p g v P = (x : ℕ) → In tb p x → In tb q x → ¬ (fault_at tb.faults g x) → Holds (cell kept v x) P

    abbrev IsFault : ℕ → Type 0
    IsFault g = g < length tb.faults

    reported : (P : Row → Type 0) (x v : ℕ) → In tb q x → v < w → Holds (cell kept v x) P → Holds (own_at (c.units x) v) P
    reported P x v ix vw h = at_same P (cell kept v x) (own_at (c.units x) v) ((tr x ix).1 v vw) h

    reports : (P : Row → Type 0) (x v : ℕ) → In tb q x → v < w → Holds (own_at (c.units x) v) P → Holds (cell kept v x) P
    reports P x v ix vw h = at_same P (own_at (c.units x) v) (cell kept v x) (sym ((tr x ix).1 v vw)) h

    spread_second : (v : ℕ) (t : Writing) → v < w → (g : ℕ) → IsFault g → (p : ℕ) → IsQuorum tb p → All p g v (ForAt t p)
        → (Voted p v (For t) → ⊥) → ⊥
    spread_second v t vw g lg p ip all k =
        basic_some tb (Shared2 tb p q) g (proper.first_property p q ip iq) lg
        (λ y i o. k (place_voted y v p t (tr y i.1).0 (reported (ForAt t p) y v i.1 vw (all y i.0 i.1 o))).1)

    spread_mark : (v : ℕ) (t : Writing) → v < w → (g : ℕ) → IsFault g → (p : ℕ) → IsQuorum tb p → All p g v (ForMarked t)
        → ((p : ℕ) → IsQuorum tb p → Voted p v (ForFilled t) → ⊥) → ⊥
    spread_mark v t vw g lg p ip all k =
        basic_some tb (Shared2 tb p q) g (proper.first_property p q ip iq) lg
        (λ y i o.
        let (p', ip', vt) = mark_voted y v t (tr y i.1).0 (reported (ForMarked t) y v i.1 vw (all y i.0 i.1 o)) in
        k p' ip' vt)

    plain : (p v : ℕ) (t : Writing) → Voted p v (ForFilled t) → Voted p v (For t)
    plain p v t vt x ix sx = holds_map (own_at (c.units x) v) (ForFilled t) (For t) (λ r f. f.0) (vt x ix sx)

    first_first : (v : ℕ) (t t' : Writing) → ¬ (t ≡ t') → (g : ℕ) → IsFault g → (p : ℕ) → Class1 tb p → All p g v (For t)
        → (g' : ℕ) → IsFault g' → (p' : ℕ) → Class1 tb p' → All p' g' v (For t') → ⊥
    first_first v t t' ne g lg p cp all g' lg' p' cp' all' =
        proper.second_property p p' q cp cp' iq g g' lg lg'
        (λ x i. elim (has? (get_or tb.faults g 0) x) [
          | yes h ↦ inl h
          | no o ↦ elim (has? (get_or tb.faults g' 0) x) [
            | yes h ↦ inr h
            | no o' ↦ absurd (ne (tickets_agree (cell kept v x) t t' (all x i.0 i.2 o) (all' x i.1 i.2 o')))
          ]
        ])

    other_filled : (t t' : Writing) (p : ℕ) → ¬ (t ≡ t') → (r : Row) → ForAt t' p r → AgainstFilled t r
    other_filled t t' p ne r f = (λ e. ne (sym e ∙ f.0), (p, f.1))

    other_spread : (t t' : Writing) → ¬ (t ≡ t') → (r : Row) → ForFilled t' r → AgainstFilled t r
    other_spread t t' ne r f = (λ e. ne (sym e ∙ f.0), f.1)

    first_second : (v : ℕ) (t t' : Writing) → v < w → ¬ (t ≡ t') → ¬ (Barred tb q kept w v t)
        → (g : ℕ) → IsFault g → (p : ℕ) → Class1 tb p → All p g v (For t)
        → (g' : ℕ) → IsFault g' → (p' : ℕ) → Class12 tb p' → All p' g' v (ForAt t' p') → ⊥
    first_second v t t' vw ne nb g lg p cp all g' lg' p' cp' all' =
        elim (proper.third_property p' q cp' iq) [
          | inl l ↦ nb (inl (basic_more tb.faults (λ x. Shared2 tb p' q x × ¬ (fault_at tb.faults g' x)) _
              (λ x i. (i.0.1, holds_map (cell kept v x) (ForAt t' p') (AgainstFilled t) (other_filled t t' p' ne) (all' x i.0.0 i.0.1 i.1)))
              (large_without tb (Shared2 tb p' q) g' l lg')))
          | inr b ↦ basic_some tb (Shared3 tb p p' q) g (b.1 p cp) lg
              (λ x i o. spread_second v t' vw g' lg' p' cp'.0 all'
              (λ vt. ne (tickets_agree (own_at (c.units x) v) t t' (reported (For t) x v i.2 vw (all x i.0 i.2 o)) (vt x i.1 (tr x i.2).0))))
        ]

    first_mark : (v : ℕ) (t t' : Writing) → v < w → ¬ (t ≡ t') → ¬ (Barred tb q kept w v t)
        → (g' : ℕ) → IsFault g' → (p' : ℕ) → IsQuorum tb p' → All p' g' v (ForMarked t') → ⊥
    first_mark v t t' vw ne nb g' lg' p' ip' all' =
        spread_mark v t' vw g' lg' p' ip' all'
        (λ p ip vt. nb (inl (basic_more tb.faults (Shared2 tb p q) _
        (λ x i. (i.1, reports (AgainstFilled t) x v i.1 vw (holds_map (own_at (c.units x) v) (ForFilled t') (AgainstFilled t) (other_spread t t' ne) (vt x i.0 (tr x i.1).0))))
        (proper.first_property p q ip iq))))

    -- live in one view
    together : (v : ℕ) (t t' : Writing) → v < w → ¬ (t ≡ t') → Backed tb q kept v t → ¬ (Barred tb q kept w v t)
        → Backed tb q kept v t' → ¬ (Barred tb q kept w v t') → ⊥
    together v t t' vw ne (inl (p, cp, (g, lg, all))) nb (inl (p', cp', (g', lg', all'))) nb' =
        first_first v t t' ne g lg p cp all g' lg' p' cp' all'
    together v t t' vw ne (inl (p, cp, (g, lg, all))) nb (inr (inl (p', cp', (g', lg', all')))) nb' =
        first_second v t t' vw ne nb g lg p cp all g' lg' p' cp' all'
    together v t t' vw ne (inl (p, cp, (g, lg, all))) nb (inr (inr (p', cp', (g', lg', all')))) nb' =
        first_mark v t t' vw ne nb g' lg' p' cp'.0 all'
    together v t t' vw ne (inr (inl (p, cp, (g, lg, all)))) nb (inl (p', cp', (g', lg', all'))) nb' =
        first_second v t' t vw (λ e. ne (sym e)) nb' g' lg' p' cp' all' g lg p cp all
    together v t t' vw ne (inr (inl (p, cp, (g, lg, all)))) nb (inr (inl (p', cp', (g', lg', all')))) nb' =
        spread_second v t vw g lg p cp.0 all (λ a. spread_second v t' vw g' lg' p' cp'.0 all' (λ b. one_vote p p' v t t' cp.0 cp'.0 a b ne))
    together v t t' vw ne (inr (inl (p, cp, (g, lg, all)))) nb (inr (inr (p', cp', (g', lg', all')))) nb' =
        spread_second v t vw g lg p cp.0 all
        (λ a. spread_mark v t' vw g' lg' p' cp'.0 all' (λ k ik b. one_vote p k v t t' cp.0 ik a (plain k v t' b) ne))
    together v t t' vw ne (inr (inr (p, cp, (g, lg, all)))) nb (inl (p', cp', (g', lg', all'))) nb' =
        first_mark v t' t vw (λ e. ne (sym e)) nb' g lg p cp.0 all
    together v t t' vw ne (inr (inr (p, cp, (g, lg, all)))) nb (inr (inl (p', cp', (g', lg', all')))) nb' =
        spread_mark v t vw g lg p cp.0 all
        (λ k ik a. spread_second v t' vw g' lg' p' cp'.0 all' (λ b. one_vote k p' v t t' ik cp'.0 (plain k v t a) b ne))
    together v t t' vw ne (inr (inr (p, cp, (g, lg, all)))) nb (inr (inr (p', cp', (g', lg', all')))) nb' =
        spread_mark v t vw g lg p cp.0 all
        (λ k ik a. spread_mark v t' vw g' lg' p' cp'.0 all' (λ k' ik' b. one_vote k k' v t t' ik ik' (plain k v t a) (plain k' v t' b) ne))

    -- a later vote bars
    bar_after : (v v' p : ℕ) (t t' : Writing) → v < v' → v' < w → ¬ (t ≡ t') → IsQuorum tb p → Voted p v' (For t') → Barred tb q kept w v t
    bar_after v v' p t t' lt vw' ne ip vt =
        inr (basic_more tb.faults (Shared2 tb p q) _
        (λ x i. (i.1, (v', lt, vw', reports (Against t) x v' i.1 vw' (against_if t t' (own_at (c.units x) v') ne (vt x i.0 (tr x i.1).0)))))
        (proper.first_property p q ip iq))

    apart : (v v' : ℕ) (t t' : Writing) → v < v' → v' < w → ¬ (t ≡ t') → ¬ (Barred tb q kept w v t) → Backed tb q kept v' t' → ⊥
    apart v v' t t' lt vw' ne nb (inl (p, cp, (g, lg, all))) =
        nb (inr (basic_more tb.faults (λ x. Shared3 tb p p q x × ¬ (fault_at tb.faults g x)) _
        (λ x i. (i.0.2, (v', lt, vw', against_if t t' (cell kept v' x) ne (all x i.0.0 i.0.2 i.1))))
        (large_without tb (Shared3 tb p p q) g (proper.second_property p p q cp cp iq) lg)))
    apart v v' t t' lt vw' ne nb (inr (inl (p, cp, (g, lg, all)))) =
        spread_second v' t' vw' g lg p cp.0 all (λ a. nb (bar_after v v' p t t' lt vw' ne cp.0 a))
    apart v v' t t' lt vw' ne nb (inr (inr (p, cp, (g, lg, all)))) =
        spread_mark v' t' vw' g lg p cp.0 all (λ k ik a. nb (bar_after v v' k t t' lt vw' ne ik (plain k v' t' a)))

    not_torn : ¬ (Chosen (Live tb q kept w) Torn)
    not_torn (t, t', (v, vw, (b, nb)), (v', vw', (b', nb')), ne) =
        elim (dec_lt v v') [
          | yes lt ↦ apart v v' t t' lt vw' ne nb b'
          | no ge ↦ elim (dec_lt v' v) [
            | yes lt ↦ apart v' v t' t lt vw (λ e. ne (sym e)) nb' b
            | no ge' ↦
                let e : v' ≡ v = omega arith in
                together v t t' vw ne b nb (subst (λ z. Backed tb q kept z t') e b') (subst (λ z. ¬ (Barred tb q kept w z t')) e nb')
          ]
        ]

  untorn : (u q : ℕ) → Sound tb falses u → IsQuorum tb q → ((x : ℕ) → In tb q x → ¬ (Has falses x))
      → FullyReported tb (c.units u) q → ¬ (choice_at tb (c.units u) q ≡ Torn)
  untorn u q su iq none full e =
      not_torn (c.units u).view q iq (c.units u).reports
      (λ x ix. let sx = sound_in q x iq ix (none x ix) in (sx, ((inv.fit u su).kept_is_said x sx (full x ix)).0))
      (subst (Chosen (Live tb q (c.units u).reports (c.units u).view)) e (choice_of_live tb q (c.units u).reports (c.units u).view proper iq))

  pub agreed : Agreed tb falses c
  agreed = record {
    announced_tickets_agree = one_ticket;
    announced_was_handed = announced_handed;
    later_views_keep_the_ticket = later_keeps;
    sound_quorum_is_not_torn = untorn;
  }
