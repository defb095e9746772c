-- What the rules leave as it was; n: the number of views.
use Rattle.std.proofs.Common.{◌≡◌, ℕ, ◌<◌, Some, None, Option, refl, ◌∙◌, get_or-set_other}
use native.Mathlib.Decide.{ℕ_discrete, dec_lt}
use Rattle.sets.specs.Decisions.{pick, both?}
use Rattle.table.specs.Tables.{QuorumTable}
use Rattle.ticket.specs.declared.writing.Writing.{Writing}
use Rattle.rows.specs.declared.row.Row.{Row}
use Rattle.rows.specs.Rows.{cell}
use Rattle.growth.specs.Growth.{least_rule}
use Rattle.rows.specs.Said.{Said, says_put, says_row, says_report}
use Rattle.unit.specs.States.{State, own_at}
use Rattle.unit.specs.Rules.{with_own, grown_own, grow_own_in, grow_at_in, ruled, announced_or, with_announced, announce_in, hear, on_row_in, raise_fault_in}
use Rattle.unit.specs.Letters.{said_done_in}
use Rattle.unit.specs.declared.fault.UnitFault.TheVariants as faults

-- the view and the other own rows stay
abbrev pub Keeps : State → State → Type 0
Keeps s s' = (s'.view ≡ s.view) × ((v : ℕ) → ¬ (v ≡ s.view) → own_at s' v ≡ own_at s v)

keeps_then : (a b c : State) → Keeps a b → Keeps b c → Keeps a c
keeps_then a b c (e, f) (e', f') = (e' ∙ e, λ v n. f' v (λ k. n (k ∙ e)) ∙ f v n)

own_keeps : (o : Option Row) (s : State) → Keeps s (with_own o s)
own_keeps o s = (refl, λ v n. get_or-set_other s.own s.view v o None n)

pick_keeps : {A : Type 0} (d : Dec A) (s a : State) → Keeps s a → Keeps s (pick d a s)
pick_keeps (yes p) s a k = k
pick_keeps (no n) s a k = (refl, λ v m. refl)

module _ (n : ℕ) (tb : QuorumTable) where
  grown_keeps : (o : Option Row) (s : State) → Keeps s (grown_own tb o s)
  grown_keeps None s = (refl, λ v n. refl)
  grown_keeps (Some r) s = own_keeps _ s

  pub grow_own_keeps : (s : State) → Keeps s (grow_own_in n tb s)
  grow_own_keeps s = pick_keeps (dec_lt s.view n) s _ (grown_keeps (own_at s s.view) s)

  pub grow_at_keeps : (v : ℕ) (s : State) → Keeps s (grow_at_in n tb v s)
  grow_at_keeps v s = pick_keeps (ℕ_discrete v s.view) s _ (grow_own_keeps s)

  announce_keeps : (v : ℕ) (t : Writing) (s : State) → Keeps s (announce_in n tb v t s)
  announce_keeps v t s =
      pick_keeps (dec_lt v n) s (with_announced (announced_or s.announced (ruled v t (least_rule tb (cell s.heard v) t))) s) (refl, λ w m. refl)

  row_keeps : (x v : ℕ) (r : Row) (s : State) → Keeps s (on_row_in n tb x v r s)
  row_keeps x v r s =
      let h = hear x v r s in
      let g = grow_at_in n tb v h in
      keeps_then s g (announce_in n tb v r.ticket g) (keeps_then s h g (refl, λ w m. refl) (grow_at_keeps v h)) (announce_keeps v r.ticket g)

  pub said_keeps : (x : ℕ) (said : Said) (s : State) → Keeps s (said_done_in n tb x said s)
  said_keeps x (says_put v t) s = let a = with_own (Some _) s in keeps_then s a (grow_own_in n tb a) (own_keeps _ s) (grow_own_keeps a)
  said_keeps x (says_row v r) s = row_keeps x v r s
  said_keeps x (says_report w rows) s = (refl, λ v m. refl)

-- an accepted raise goes up, to a view that there is
pub raised : (n u w : ℕ) (s : State) → raise_fault_in n u w s ≡ None → (s.view < w) × (w < n)
raised n u w s e = go (both? (dec_lt s.view w) (dec_lt w n)) e
  where
    go : (d : Dec ((s.view < w) × (w < n))) → pick d None (Some (faults.NotAbove u)) ≡ None → (s.view < w) × (w < n)
    go (yes k) e = k
    go (no n) e = absurd (cc)
