-- Units that are lent, as the list of what they mean.
use Rattle.std.proofs.Common.{◌≡◌, ℕ, ◌+◌, ◌<◌, ◌≤◌, List, [], ◌∷◌, ◌++◌, length, get_or, take, drop, replicate, None, sym, refl, ap, ◌∙◌, subst, ap₂, arith, length-append, length-take}
use lib.ListN.{length-replicate, get_or-replicate}
use Rattle.std.proofs.lemmas.List.{length-map, map-append, drop-map, get_or-map, get_or_append_left, get_or_past}
use Rattle.std.specs.List.{FoldsTo}
use Rattle.unit.specs.States.{State, means, fresh}
use Rattle.unit.specs.declared.state.ControlUnit.{ControlUnit}
use Rattle.table.specs.Tables.{QuorumTable}
use Rattle.wire.specs.Meaning.{Meaning}
use Rattle.calls.specs.Worlds.{world, states_of, state_at, renewed, made_fault, MayMake, Made, Makes}

-- the unit at a place, as it stands in the list
pub state_at_lem : (us : List ControlUnit) (u : ℕ) (d : ControlUnit) → u < length us → state_at (states_of us) u ≡ means (get_or us u d)
state_at_lem us u d h = get_or-map means us u d fresh h

-- past the last there is a fresh one
pub state_past : (us : List ControlUnit) (u : ℕ) → length us ≤ u → state_at (states_of us) u ≡ fresh
state_past us u h = get_or_past (states_of us) u fresh (subst (λ n. n ≤ u) (sym (length-map us means)) h)

-- units that were each made fresh
pub all_fresh : {F : Type 0} (R : F → ControlUnit → F → Type 0) (us : List ControlUnit) (f g : F) → ((p q : F) (x : ControlUnit) → R p x q → means x ≡ fresh) → FoldsTo R f us g → states_of us ≡ replicate (length us) fresh
all_fresh R [] f g each ran = refl
all_fresh R (x ∷ us) f g each ran = ap₂ (λ (s : State) (l : List State). s ∷ l) (each f ran.0 x ran.1) (all_fresh R us ran.0 g each ran.2)

-- what was made fresh is fresh, and the memory is as much as it was
renewed_at : (us : List State) (n u : ℕ) → u < n → state_at (renewed n us) u ≡ fresh
renewed_at us n u h =
    get_or_append_left (replicate n fresh) (drop n us) fresh u (subst (λ k. u < k) (sym (length-replicate n fresh)) h) ∙ get_or-replicate n u fresh fresh h

-- units of which the first were made fresh
fresh_first : (us made : List ControlUnit) (n : ℕ) → n ≤ length us → states_of made ≡ replicate (length (take n us)) fresh → states_of (made ++ drop n us) ≡ renewed n (states_of us)
fresh_first us made n long e =
    let size : length (take n us) ≡ n = omega (arith, length-take n us) in
    map-append means made (drop n us) ∙ ap₂ (λ (l k : List State). l ++ k) (e ∙ ap (λ k. replicate k fresh) size) (sym (drop-map means n us))

made_so : (tb : QuorumTable) (falses : ℕ) (us : List State) (m : Meaning) → MayMake tb falses (length us) m → Made (world tb falses (renewed tb.units us) m)
made_so tb falses us m may =
    let size : length (renewed tb.units us) ≡ length (replicate tb.units fresh) + length (drop tb.units us) = length-append (replicate tb.units fresh) (drop tb.units us) in
    record {
      proper = may.proper;
      bearable = may.bearable;
      roomy = omega (arith, size, length-replicate tb.units fresh);
      served = may.served;
      new = renewed_at us tb.units;
      quiet = may.quiet;
    }

pub makes_so : (tb : QuorumTable) (falses : ℕ) (us made : List ControlUnit) (m : Meaning) (n : ℕ) → n ≡ tb.units → states_of made ≡ replicate (length (take n us)) fresh
    → (made_fault tb falses (length us) m ≡ None) × MayMake tb falses (length us) m → Makes tb falses (states_of us) m (world tb falses (states_of (made ++ drop n us)) m)
makes_so tb falses us made m n en e may =
    let same : length us ≡ length (states_of us) = sym (length-map us means) in
    let fresh_units : states_of (made ++ drop n us) ≡ renewed tb.units (states_of us) = fresh_first us made n (omega (arith, may.1.roomy)) e ∙ ap (λ k. renewed k (states_of us)) en in
    record {
      met = rw (← same) may.0;
      is = ap (λ (l : List State). world tb falses l m) fresh_units;
      made = rw fresh_units (made_so tb falses (states_of us) m (rw (← same) may.1));
    }
