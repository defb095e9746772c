-- The defined choice is the one choice among the candidates.
use Rattle.std.proofs.Common.{◌≡◌, ℕ, ◌<◌, min, [], length, get_or, Option, sym, refl, ap, ◌∙◌, subst, inl, inr, arith}
use native.Mathlib.Decide.{dec_lt}
use Rattle.std.proofs.lemmas.List.{get_or_past}
use Rattle.sets.specs.Sets.{fault_at}
use Rattle.sets.specs.Decisions.{both?, not?, has?, some_in?}
use Rattle.table.specs.Tables.{QuorumTable, Proper, IsQuorum, quorum_at, In}
use Rattle.ticket.specs.declared.writing.Writing.{Writing}
use Rattle.rows.specs.declared.row.Row.{Row}
use Rattle.rows.specs.Rows.{Grid, row_in, cell, Holds, For}
use Rattle.rows.specs.Decided.{same?}
use Rattle.rows.specs.declared.rule.Rule.{Rule}
use Rattle.rows.specs.declared.rule.Rule.TheVariants as rules
use Rattle.rows.specs.Rules.{Needed}
use Rattle.rows.proofs.Facts.{holds_map, needs_ticket}
use Rattle.choice.specs.Reports.{BackedBy, Backed, Later, Barred, Live, Candidate}
use Rattle.choice.specs.Lives.{SomeCandidate, some_candidate?}
use Rattle.choice.specs.Chosen.{Chosen, beside, among, choice_of, ChoiceIsOfLive, ChoiceIsOne}
use Rattle.choice.specs.declared.choice.Choice.{Choice}
use Rattle.choice.specs.declared.choice.Choice.TheVariants.{Free, Only, Torn}
use Rattle.choice.proofs.Grows.{chosen_as}

-- the three cases exclude each other
pub chosen_one : (L : Writing → Type 0) (c c' : Choice Writing) → Chosen L c → Chosen L c' → c ≡ c'
chosen_one L Free Free n m = refl
chosen_one L Free (Only t) n (l, u) = absurd (n t l)
chosen_one L Free Torn n (s, t, a, b, d) = absurd (n s a)
chosen_one L (Only s) Free (l, u) n = absurd (n s l)
chosen_one L (Only s) (Only t) (l, u) (k, o) = ap Only (o s l)
chosen_one L (Only s) Torn (l, u) (a, b, la, lb, d) = absurd (d (u a la ∙ sym (u b lb)))
chosen_one L Torn Free (s, t, a, b, d) n = absurd (n s a)
chosen_one L Torn (Only s) (a, b, la, lb, d) (l, u) = absurd (d (u a la ∙ sym (u b lb)))
chosen_one L Torn Torn n m = refl

module _ (tb : QuorumTable) (q : ℕ) (kept : Grid) (w : ℕ) where
  beside_is : (t : Writing) → Candidate tb q kept w t → Chosen (Candidate tb q kept w) (beside tb q kept w t)
  beside_is t k = go (some_candidate? tb q kept w (λ s. not? (same? s t)))
    where
      go : (d : Dec (SomeCandidate tb q kept w (λ s. ¬ (s ≡ t)))) → Chosen (Candidate tb q kept w) (Rattle.sets.specs.Decisions.pick d Torn (Only t))
      go (yes (s, l, n)) = (s, t, l, k, n)
      go (no n) = (k, λ s l. elim (same? s t) [ yes e ↦ e | no ne ↦ absurd (n (s, l, ne)) ])

  among_is : (d : Dec (SomeCandidate tb q kept w (λ _. Unit {0}))) → Chosen (Candidate tb q kept w) (among tb q kept w d)
  among_is (no n) = λ t l. n (t, l, tt)
  among_is (yes k) = beside_is k.0 k.1

  pub choice_is : Chosen (Candidate tb q kept w) (choice_of tb q kept w)
  unfolding choice_of
  choice_is = among_is (some_candidate? tb q kept w (λ _. yes tt))

  pub the_choice : (c : Choice Writing) → Chosen (Candidate tb q kept w) c → c ≡ choice_of tb q kept w
  the_choice c k = chosen_one (Candidate tb q kept w) c (choice_of tb q kept w) k choice_is

-- views past the last that is reported add nothing: m views of the w are asked
module _ (tb : QuorumTable) (q : ℕ) (kept : Grid) (n w m : ℕ) (long : length kept ≡ n) (least : m ≡ min n w) where
  none_past : (v x : ℕ) (P : Row → Type 0) → v < w → Holds (cell kept v x) P → v < m
  none_past v x P lt h =
      elim (dec_lt v n) [
        | yes l ↦ omega arith
        | no ge ↦
            let e = get_or_past kept v [] (omega arith) in
            absurd (subst (λ (o : Option Row). Holds o P) (ap (λ rows. row_in rows x) e) h)
      ]

  later_up : (v : ℕ) (t : Writing) (x : ℕ) → Later kept m v t x → Later kept w v t x
  later_up v t x (u, a, b, h) = (u, a, omega arith, h)

  later_down : (v : ℕ) (t : Writing) (x : ℕ) → Later kept w v t x → Later kept m v t x
  later_down v t x (u, a, b, h) = (u, a, none_past u x _ b h, h)

  barred_up : (v : ℕ) (t : Writing) → Barred tb q kept m v t → Barred tb q kept w v t
  barred_up v t (inl b) = inl b
  barred_up v t (inr b) = inr (λ k. b (k.0, k.1, λ x h. k.2 x (h.0, later_up v t x h.1)))

  barred_down : (v : ℕ) (t : Writing) → Barred tb q kept w v t → Barred tb q kept m v t
  barred_down v t (inl b) = inl b
  barred_down v t (inr b) = inr (λ k. b (k.0, k.1, λ x h. k.2 x (h.0, later_down v t x h.1)))

  pub clipped : (c : Choice Writing) → Chosen (Candidate tb q kept m) c → c ≡ choice_of tb q kept w
  clipped c k =
      the_choice tb q kept w c
      (chosen_as (Candidate tb q kept m) (Candidate tb q kept w)
      (λ t k. (k.0, (let lt = k.1 in omega arith), (k.2.0, λ b. k.2.1 (barred_down k.0 t b)), k.3))
      (λ t k. (k.0, none_past k.0 k.3.0 _ k.1 k.3.2, (k.2.0, λ b. k.2.1 (barred_up k.0 t b)), k.3))
      c k)

pub choice_one : ChoiceIsOne
choice_one tb q kept w = chosen_one (Live tb q kept w)

-- a live ticket of a passed table is reported: what two quorums share is not all in the fault set
module _ (tb : QuorumTable) (q : ℕ) (kept : Grid) (proper : Proper tb) (iq : IsQuorum tb q) where
  some_out : (p g : ℕ) → IsQuorum tb p → g < length tb.faults → (x : ℕ) × In tb q x × (In tb p x × ¬ (fault_at tb.faults g x))
  some_out p g ip lg =
      elim (some_in? {P = λ x. In tb p x × ¬ (fault_at tb.faults g x)} (quorum_at tb q).set (λ x. both? (has? (quorum_at tb p).set x) (not? (has? (get_or tb.faults g 0) x)))) [
        | yes k ↦ k
        | no n ↦ absurd (proper.first_property p q ip iq (g, lg, λ x k. elim (has? (get_or tb.faults g 0) x) [ yes h ↦ h | no out ↦ absurd (n (x, k.1, (k.0, out))) ]))
      ]

  by_reports : (rule : Rule) (v : ℕ) (t : Writing) → BackedBy tb q kept rule v t → (x : ℕ) × In tb q x × Holds (cell kept v x) (For t)
  by_reports rule v t (p, (ip, ranked), (g, lg, all)) =
      let (x, i, (j, out)) = some_out p g ip lg in
      (x, i, holds_map (cell kept v x) (Needed rule p t) (For t) (needs_ticket rule p t) (all x j i out))

  pub reports : (v : ℕ) (t : Writing) → Backed tb q kept v t → (x : ℕ) × In tb q x × Holds (cell kept v x) (For t)
  reports v t (inl b) = by_reports rules.First v t b
  reports v t (inr (inl b)) = by_reports rules.Second v t b
  reports v t (inr (inr b)) = by_reports rules.Third v t b

pub choice_of_live : ChoiceIsOfLive
choice_of_live tb q kept w proper iq =
    chosen_as (Candidate tb q kept w) (Live tb q kept w) (λ t k. (k.0, k.1, k.2))
    (λ t l. (l.0, l.1, l.2, reports tb q kept proper iq l.0 t l.2.0))
    (choice_of tb q kept w) (choice_is tb q kept w)
