-- What an accepted call's questions tell.
use Rattle.std.proofs.Common.{◌≡◌, ℕ, ◌≤◌, Some, None, Option, refl}
use native.Mathlib.Decide.{ℕ_discrete, dec_le, dec_lt}
use Rattle.std.specs.Option.{option_map}
use Rattle.base.specs.Asked.{first}
use Rattle.sets.specs.Sets.{Has}
use Rattle.sets.specs.Decisions.{pick, both?, has?}
use Rattle.calls.specs.declared.fault.ShedFault.{ShedFault}
use Rattle.calls.specs.declared.fault.ShedFault.TheVariants as sheds
use Rattle.calls.specs.Worlds.{World, Sound, ready, named, sound_side, false_side, asked, asked_forged}
use Rattle.life.proofs.Ups.{some_none}

pub both_none : (a b : Option ShedFault) → first a b ≡ None → (a ≡ None) × (b ≡ None)
both_none None b e = (refl, e)
both_none (Some f) b e = absurd (some_none f e)

pub mapped_none : {A B : Type 0} (f : A → B) (o : Option A) → option_map f o ≡ None → o ≡ None
mapped_none f None e = refl
mapped_none f (Some x) e = absurd (some_none _ e)

-- a question that was met
met_none : {A : Type 0} (d : Dec A) (f : ShedFault) → pick d None (Some f) ≡ None → A
met_none (yes a) f e = a
met_none (no n) f e = absurd (some_none f e)

not_none : {A : Type 0} (d : Dec A) (f : ShedFault) → pick d (Some f) None ≡ None → A → ⊥
not_none (yes a) f e = λ _. some_none f e
not_none (no n) f e = n

pub asked_sound : (w : World) (u : ℕ) → asked w u ≡ None → Sound w u
asked_sound w u e =
    let (m, s) = both_none (named w.table.units u) (sound_side w.falses u) e in
    (met_none (dec_lt u w.table.units) (sheds.NoUnit u) m, not_none (has? w.falses u) (sheds.WrongSide u) s)

pub forged_false : (w : World) (from to : ℕ) → asked_forged w from to ≡ None → Has w.falses from
forged_false w from to e =
    let (m, e') = both_none (named w.table.units from) (first (named w.table.units to) (false_side w.falses from)) e in
    let (t, s) = both_none (named w.table.units to) (false_side w.falses from) e' in
    met_none (has? w.falses from) (sheds.WrongSide from) s

-- memory for n units and a wire that serves just them
pub is_ready : (n memory served : ℕ) → n ≤ memory → served ≡ n → ready n memory served ≡ None
is_ready n memory served le e = go (both? (dec_le n memory) (ℕ_discrete served n))
  where
    go : (d : Dec ((n ≤ memory) × (served ≡ n))) → pick d None (Some sheds.NoMemory) ≡ None
    go (yes k) = refl
    go (no k) = absurd (k (le, e))
