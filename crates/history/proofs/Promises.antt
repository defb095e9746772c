-- What is promised of a shed, from the agreement of the rules.
use Rattle.std.proofs.Common.{◌≡◌, ℕ, ◌<◌, List, [], ◌∷◌, length, Some, None, Option, sym, refl, ap, ◌∙◌, subst, inl, inr, lit<}
use mathlib.Core.List.Memᴰ
use mathlib.Core.List.{Memᴰ}
use mathlib.Core.Logic.{∥∥₁_elim}
use native.Mathlib.Decide.{dec_lt}
use Rattle.base.specs.Limits.{views}
use Rattle.sets.specs.Sets.{Has}
use Rattle.sets.specs.Decisions.{pick}
use Rattle.table.specs.Tables.{QuorumTable, Proper, IsQuorum, In}
use Rattle.ticket.specs.declared.writing.Writing.{Writing}
use Rattle.ticket.specs.Writings.{bytes_of}
use Rattle.rows.specs.declared.row.Row.{Row}
use Rattle.rows.specs.Decided.{same?}
use Rattle.choice.specs.declared.choice.Choice.TheVariants.{Torn}
use Rattle.unit.specs.declared.announcement.Announcement.{Announcement}
use Rattle.unit.specs.States.{State, own_at}
use Rattle.unit.specs.Reported.{FullyReported, fully?, choice_at, shown_choice}
use Rattle.life.proofs.Ups.{some_none}
use Rattle.agreement.specs.Runs.{Course, worked}
use Rattle.agreement.specs.Invariant.{NoneFalse}
use Rattle.agreement.specs.Agreed.{Agreed}
use Rattle.agreement.proofs.Keeping.{keeps_invariant}
use Rattle.agreement.proofs.Theorem.{runs_agree}
use Rattle.calls.specs.declared.shown.Shown.{Shown}
use Rattle.calls.specs.Worlds.{World, unit_at, Sound}
use Rattle.calls.specs.Calls.{Ways, Shows}
use Rattle.history.specs.Runs.{Run, deeds_of, tickets_of}
use Rattle.history.specs.Promised.{Announced, Promised}
use Rattle.history.proofs.Asked.{is_ready}
use Rattle.history.proofs.Told.{Told, run_tells}

-- a ticket is in a list or not
mem? : (t : Writing) (l : List Writing) → Dec (Memᴰ t l)
mem? t [] = no (λ k. Memᴰ.not-nil k)
mem? t (x ∷ l) = elim (same? t x) [
  | yes e ↦ yes (Memᴰ.head e)
  | no ne ↦ elim (mem? t l) [
    | yes k ↦ yes (Memᴰ.tail k)
    | no nk ↦ no (λ k. elim (Memᴰ.cases_cons k) [ inl e ↦ ne e | inr i ↦ nk i ])
  ]
]

-- what can be decided and follows from a fact that is only known to hold
certain : {A P : Type 0} → Dec A → ∥ P ∥₁ → (P → A) → A
certain (yes a) p f = a
certain (no n) p f = absurd (∥∥₁_elim p (λ a b. absurd a) (λ q. n (f q)))

-- what was announced, by what is shown
shown_is : {T : Type 0} (w : T → Writing) (o : Option Announcement) (s : Shown T) → Shows w o (Some s) → (a : Announcement) × (o ≡ Some a) × (w s.ticket ≡ a.ticket)
shown_is w None s k = absurd k
shown_is w (Some a) s k = (a, refl, k.0)

-- a choice that is shown is that of a listed and fully reported quorum
chosen_is : (tb : QuorumTable) (s : State) (q : ℕ) → shown_choice tb s q ≡ Some Torn → FullyReported tb s q × (choice_at tb s q ≡ Torn)
chosen_is tb s q e = go (dec_lt q (length tb.quorums)) (fully? tb s q) e
  where
    go : (d : Dec (q < length tb.quorums)) (d' : Dec (FullyReported tb s q)) → pick d (pick d' (Some (choice_at tb s q)) None) None ≡ Some Torn
        → FullyReported tb s q × (choice_at tb s q ≡ Torn)
    go (yes lt) (yes full) e = (full, cc)
    go (yes lt) (no n) e = absurd (some_none _ (sym e))
    go (no n) d' e = absurd (some_none _ (sym e))

module _ {T : Type 0} (y : Ways T) (apart : (s t : T) → bytes_of (y.written s) ≡ bytes_of (y.written t) → s ≡ t) (w : World) (run : Run y w) where
  abbrev now : Course
  now = worked views w.table (deeds_of run)

  told : Told y w (worked views w.table (deeds_of run)) (tickets_of run)
  told = run_tells y w run

  agreed : Proper w.table → Agreed w.table w.falses (worked views w.table (deeds_of run))
  agreed p = runs_agree views w.table w.falses now p told.bearable told.running

  same : (u : ℕ) → Sound w u → unit_at w u ≡ (worked views w.table (deeds_of run)).units u
  same u su = told.states u su.0

  announced_now : (u : ℕ) (a : Announcement) → Sound w u → (unit_at w u).announced ≡ Some a → ((worked views w.table (deeds_of run)).units u).announced ≡ Some a
  announced_now u a su e = ap (λ (s : State). s.announced) (sym (same u su)) ∙ e

  writings_agree : (u u' : ℕ) (a a' : Announcement) → Sound w u → Sound w u'
      → (unit_at w u).announced ≡ Some a → (unit_at w u').announced ≡ Some a' → a.ticket ≡ a'.ticket
  writings_agree u u' a a' su su' e e' =
      certain (same? a.ticket a'.ticket) told.proper
      (λ p. (agreed p).announced_tickets_agree u u' a a' su su' (announced_now u a su e) (announced_now u' a' su' e'))

  is_one : (s t : T) → y.written s ≡ y.written t → s ≡ t
  is_one s t e = apart s t (ap bytes_of e)

  tickets_agree : (u u' : ℕ) (s s' : Shown T) → Sound w u → Sound w u' → Announced y w u s → Announced y w u' s' → s.ticket ≡ s'.ticket
  tickets_agree u u' s s' su su' k k' =
      let (a, e, t) = shown_is y.written (unit_at w u).announced s k in
      let (a', e', t') = shown_is y.written (unit_at w u').announced s' k' in
      is_one s.ticket s'.ticket (t ∙ writings_agree u u' a a' su su' e e' ∙ sym t')

  was_handed : NoneFalse w.falses → (u : ℕ) (s : Shown T) → Sound w u → Announced y w u s → Memᴰ s.ticket (tickets_of run)
  was_handed none u s su k =
      let (a, e, t) = shown_is y.written (unit_at w u).announced s k in
      let i : Memᴰ a.ticket now.handed =
      certain (mem? a.ticket now.handed) told.proper (λ p. (agreed p).announced_was_handed none u a su (announced_now u a su e)) in
      let (z, j, h) = told.handed_in a.ticket i in
      Memᴰ.cast (is_one s.ticket z (t ∙ sym h)) j

  later_keeps : (u x v : ℕ) (a : Announcement) (r : Row) → Sound w u → Sound w x
      → (unit_at w u).announced ≡ Some a → a.view < v → own_at (unit_at w x) v ≡ Some r → r.ticket ≡ a.ticket
  later_keeps u x v a r su sx e lt er =
      certain (same? r.ticket a.ticket) told.proper
      (λ p. (agreed p).later_views_keep_the_ticket u x v a r su sx (announced_now u a su e) lt (ap (λ (s : State). own_at s v) (sym (same x sx)) ∙ er))

  not_torn : (u q : ℕ) → Sound w u → IsQuorum w.table q → ((x : ℕ) → In w.table q x → Has w.falses x → ⊥)
      → shown_choice w.table (unit_at w u) q ≡ Some Torn → ⊥
  not_torn u q su iq none e =
      let (full, torn) = chosen_is w.table (now.units u) q (subst (λ (s : State). shown_choice w.table s q ≡ Some Torn) (same u su) e) in
      ∥∥₁_elim told.proper (λ a b. absurd a) (λ p. (agreed p).sound_quorum_is_not_torn u q su iq none full torn)

  view_inside : (u : ℕ) → Sound w u → (unit_at w u).view < views
  view_inside u su =
      certain (dec_lt (unit_at w u).view views) told.proper
      (λ p. subst (λ (s : State). s.view < views) (sym (same u su))
      (((keeps_invariant views w.table w.falses now p told.running).fit u su).founded.inside (lit< tt)))

  pub promised : Promised y w run
  promised = record {
    announced_tickets_agree = tickets_agree;
    announced_writings_agree = writings_agree;
    announced_was_handed = was_handed;
    later_views_keep_the_ticket = later_keeps;
    sound_quorum_is_not_torn = not_torn;
    nothing_runs_out = (is_ready w.table.units (length w.units) w.wire.served told.roomy told.serves, view_inside);
    state_is_the_replay = same;
  }
