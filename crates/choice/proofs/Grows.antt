-- The choice over more and more rows.
use Rattle.std.proofs.Common.{◌≡◌, ℕ, ◌+◌, ◌<◌, ◌⊎◌, Some, None, Option, sym, refl, ◌∙◌, subst, inl, inr, arith}
use native.Mathlib.Decide.{ℕ_discrete}
use Rattle.table.specs.Tables.{QuorumTable, In}
use Rattle.ticket.specs.declared.writing.Writing.{Writing}
use Rattle.rows.specs.declared.row.Row.{Row}
use Rattle.rows.specs.Rows.{Grid, cell, Holds, For}
use Rattle.choice.specs.Reports.{LiveIn, Candidate}
use Rattle.choice.specs.Chosen.{Chosen}
use Rattle.choice.specs.Steps.{Settled, joined_with, WithTicket, Seen}
use Rattle.choice.specs.declared.choice.Choice.{Choice}
use Rattle.choice.specs.declared.choice.Choice.TheVariants.{Free, Only, Torn}

-- a choice among the tickets of L is one among those of M, where they are the same
pub chosen_as : (L M : Writing → Type 0) → ((t : Writing) → L t → M t) → ((t : Writing) → M t → L t) → (c : Choice Writing) → Chosen L c → Chosen M c
chosen_as L M to from Free n = λ t m. n t (from t m)
chosen_as L M to from (Only t) (l, u) = (to t l, λ s m. u s (from s m))
chosen_as L M to from Torn (s, t, a, b, n) = (s, t, to s a, to t b, n)

-- M has one ticket more than L, where A holds
module _ (L M : Writing → Type 0) (t : Writing) (A : Type 0)
    (to : (s : Writing) → L s → M s) (here : A → M t) (from : (s : Writing) → M s → L s ⊎ ((s ≡ t) × A)) where
  stays : (c : Choice Writing) → Settled c t → Chosen L c → Chosen M c
  stays Free f n = absurd f
  stays (Only s) e (l, u) = (to s l, λ o m. elim (from o m) [ inl k ↦ u o k | inr k ↦ k.0 ∙ sym e ])
  stays Torn f (a, b, la, lb, n) = (a, b, to a la, to b lb, n)

  takes : A → (c : Choice Writing) → ¬ (Settled c t) → Chosen L c → Chosen M (joined_with c t)
  takes a Free f n = (here a, λ s m. elim (from s m) [ inl l ↦ absurd (n s l) | inr k ↦ k.0 ])
  takes a (Only s) f (l, u) = (s, t, to s l, here a, f)
  takes a Torn f n = absurd (f tt)

  leaves : ¬ A → (c : Choice Writing) → Chosen L c → Chosen M c
  leaves na c k = chosen_as L M to (λ s m. elim (from s m) [ inl l ↦ l | inr h ↦ absurd (na h.1) ]) c k

  pub chosen_with : (c r : Choice Writing) → WithTicket A c t r → Chosen L c → Chosen M r
  chosen_with c r (inl (f, e)) k = subst (Chosen M) (sym e) (stays c f k)
  chosen_with c r (inr (f, inl (a, e))) k = subst (Chosen M) (sym e) (takes a c f k)
  chosen_with c r (inr (f, inr (na, e))) k = subst (Chosen M) (sym e) (leaves na c k)

module _ (tb : QuorumTable) (q : ℕ) (kept : Grid) (w v x : ℕ) where
  -- the row of unit x in view v has the ticket, which is live there
  abbrev pub Last : Writing → Type 0
  Last t = LiveIn tb q kept w v t × In tb q x × Holds (cell kept v x) (For t)

  seen_more : (t : Writing) → Seen tb q kept w v x t → Seen tb q kept w v (x + 1) t
  seen_more t (u, (y, b, k)) = (u, (y, elim b [ inl l ↦ inl l | inr e ↦ inr (e.0, let lt = e.1 in omega arith) ], k))

  seen_here : (t : Writing) → Last t → Seen tb q kept w v (x + 1) t
  seen_here t k = (v, (x, inr (refl, omega arith), k))

  seen_last : (t : Writing) → Seen tb q kept w v (x + 1) t → Seen tb q kept w v x t ⊎ Last t
  seen_last t (u, (y, inl l, k)) = inl (u, (y, inl l, k))
  seen_last t (u, (y, inr (e, lt), k)) =
      elim (ℕ_discrete y x) [
        | no ne ↦ inl (u, (y, inr (e, omega arith), k))
        | yes ey ↦ inr (subst (λ z. LiveIn tb q kept w z t × In tb q x × Holds (cell kept z x) (For t)) e
            (subst (λ z. LiveIn tb q kept w u t × In tb q z × Holds (cell kept u z) (For t)) ey k))
      ]

  module _ (c : Choice Writing) (k : Chosen (Seen tb q kept w v x) c) where
    pub skips : ((t : Writing) → Last t → ⊥) → Chosen (Seen tb q kept w v (x + 1)) c
    skips none =
        chosen_as (Seen tb q kept w v x) (Seen tb q kept w v (x + 1)) seen_more
        (λ t s. elim (seen_last t s) [ inl l ↦ l | inr h ↦ absurd (none t h) ]) c k

    -- a unit outside the quorum, or one with no row, adds nothing
    pub outside : ¬ (In tb q x) → Chosen (Seen tb q kept w v (x + 1)) c
    outside n = skips (λ t l. n l.1)

    pub silent : cell kept v x ≡ None → Chosen (Seen tb q kept w v (x + 1)) c
    silent e = skips (λ t l. subst (λ (o : Option Row). Holds o (For t)) e l.2)

    pub adds : (r : Row) (d : Choice Writing) → In tb q x → cell kept v x ≡ Some r → WithTicket (LiveIn tb q kept w v r.ticket) c r.ticket d
        → Chosen (Seen tb q kept w v (x + 1)) d
    adds r d i e l =
        chosen_with (Seen tb q kept w v x) (Seen tb q kept w v (x + 1)) r.ticket (LiveIn tb q kept w v r.ticket) seen_more
        (λ live. seen_here r.ticket (live, i, subst (λ (o : Option Row). Holds o (For r.ticket)) (sym e) refl))
        (λ t s. elim (seen_last t s) [
          | inl h ↦ inl h
          | inr h ↦
              let et : r.ticket ≡ t = subst (λ (o : Option Row). Holds o (For t)) e h.2 in
              inr (sym et, subst (LiveIn tb q kept w v) (sym et) h.0)
        ])
        c d l k

module _ (tb : QuorumTable) (q : ℕ) (kept : Grid) (w v : ℕ) where
  -- all sixteen units of a view are the view
  pub view_done : (n : ℕ) → ((y : ℕ) → In tb q y → y < n) → (c : Choice Writing) → Chosen (Seen tb q kept w v n) c → Chosen (Seen tb q kept w (v + 1) 0) c
  view_done n small c k =
      chosen_as (Seen tb q kept w v n) (Seen tb q kept w (v + 1) 0)
      (λ t s. (s.0, (s.1.0, inl (elim s.1.1 [ inl l ↦ omega arith | inr e ↦ let eq = e.0 in omega arith ]), s.1.2)))
      (λ t s. (
        s.0,
        (
          s.1.0,
          elim s.1.1 [
            | inr e ↦ absurd (let lt = e.1 in omega arith)
            | inl l ↦ elim (ℕ_discrete s.0 v) [ yes e ↦ inr (e, small s.1.0 s.1.2.1) | no ne ↦ inl (omega arith) ]
          ],
          s.1.2,
        ),
      ))
      c k

  -- all views below w are the candidates
  pub all_done : v ≡ w → (c : Choice Writing) → Chosen (Seen tb q kept w v 0) c → Chosen (Candidate tb q kept w) c
  all_done e c k =
      chosen_as (Seen tb q kept w v 0) (Candidate tb q kept w)
      (λ t s. (s.0, elim s.1.1 [ inl l ↦ omega arith | inr z ↦ absurd (let lt = z.1 in omega arith) ], s.1.2.0, (s.1.0, s.1.2.1, s.1.2.2)))
      (λ t s. (s.0, (s.3.0, inl (let lt = s.1 in omega arith), (s.2, s.3.1, s.3.2))))
      c k
