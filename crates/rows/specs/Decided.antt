-- What is asked of a row can be decided.
use Rattle.std.specs.Prelude.{◌≡◌, ℕ, true, Some, None, Option}
use Rattle.std.proofs.Common.{◌∙◌, ap}
use Rattle.std.proofs.Math.Bool.{Bool-discrete}
use Rattle.std.proofs.Math.Decide.{ℕ_discrete}
use Rattle.sets.specs.Decisions.{both?, not?, as?, has?}
use Rattle.sets.proofs.Bits.{has_some, some_not}
use Rattle.rows.specs.Rows.{Writing, Row, Holds, For, ForAt, Filled, ForFilled, ForMarked, Against, AgainstFilled}

abbrev words : ℕ → ℕ → ℕ → ℕ → Writing
words a b c d = record { a = a; b = b; c = c; d = d }

-- writings are told by their words
pub same_words : (s t : Writing) → (s.a ≡ t.a) × ((s.b ≡ t.b) × ((s.c ≡ t.c) × (s.d ≡ t.d))) → s ≡ t
same_words s t (ea, (eb, (ec, ed))) =
    ap (λ z. words z s.b s.c s.d) ea
    ∙ (ap (λ z. words t.a z s.c s.d) eb ∙ (ap (λ z. words t.a t.b z s.d) ec ∙ ap (words t.a t.b t.c) ed))

abbrev pub same? : (s t : Writing) → Dec (s ≡ t)
same? s t =
    as? (same_words s t) (λ e. (ap (λ (z : Writing). z.a) e, (ap (λ (z : Writing). z.b) e, (ap (λ (z : Writing). z.c) e, ap (λ (z : Writing). z.d) e))))
    (both? (ℕ_discrete s.a t.a) (both? (ℕ_discrete s.b t.b) (both? (ℕ_discrete s.c t.c) (ℕ_discrete s.d t.d))))

abbrev pub holds? : {P : Row → Type 0} → ((r : Row) → Dec (P r)) → (o : Option Row) → Dec (Holds o P)
holds? d None = no (λ k. k)
holds? d (Some r) = d r

abbrev pub for? : (t : Writing) (r : Row) → Dec (For t r)
for? t r = same? r.ticket t

abbrev pub for_at? : (t : Writing) (p : ℕ) (r : Row) → Dec (ForAt t p r)
for_at? t p r = both? (for? t r) (has? r.set p)

abbrev pub filled? : (r : Row) → Dec (Filled r)
filled? r = as? (has_some r.set) (λ k. some_not r.set k.0 k.1) (not? (ℕ_discrete r.set 0))

abbrev pub for_filled? : (t : Writing) (r : Row) → Dec (ForFilled t r)
for_filled? t r = both? (for? t r) (filled? r)

abbrev pub for_marked? : (t : Writing) (r : Row) → Dec (ForMarked t r)
for_marked? t r = both? (for? t r) (Bool-discrete r.mark true)

abbrev pub against? : (t : Writing) (r : Row) → Dec (Against t r)
against? t r = not? (for? t r)

abbrev pub against_filled? : (t : Writing) (r : Row) → Dec (AgainstFilled t r)
against_filled? t r = both? (against? t r) (filled? r)
