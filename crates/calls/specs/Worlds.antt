-- All that a shed is about: its table, its false set, its units and its wire; what each call asks first; when a shed is made.
use Rattle.std.specs.Prelude.{◌≡◌, ℕ, ◌<◌, ◌≤◌, List, [], ◌∷◌, ◌++◌, map, length, drop, replicate, Some, None, Option, slice_index, slice_index_or, refl}
use Rattle.std.proofs.Common.{ap, arith}
use Rattle.std.proofs.Math.Decide.{ℕ_discrete, dec_lt, dec_le}
use Rattle.base.specs.Asked.{first}
use Rattle.sets.specs.Sets.{Has, Bearable}
use Rattle.sets.specs.Decisions.{pick, both?, has?, all?, some?, all_in?}
use Rattle.table.specs.Tables.{QuorumTable, Proper}
use Rattle.wire.specs.Meaning.{Meaning, Parcel}
use Rattle.wire.specs.Runs.{Quiet}
use Rattle.unit.specs.States.{State, means, fresh}
use Rattle.unit.specs.declared.state.ControlUnit.{ControlUnit}
use Rattle.calls.specs.declared.fault.ShedFault.{ShedFault}
use Rattle.calls.specs.declared.fault.ShedFault.TheVariants as sheds

-- falses: the false set as a mask; units: what each lent unit means
pub record World : Type 0 where
  pub table : QuorumTable
  pub falses : ℕ
  pub units : List State
  pub wire : Meaning

abbrev pub world : QuorumTable → ℕ → List State → Meaning → World
world tb f us m = record { table = tb; falses = f; units = us; wire = m }

-- what units mean, one by one
abbrev pub states_of : List ControlUnit → List State
states_of us = map means us

abbrev pub state_at : List State → ℕ → State
state_at us u = slice_index_or us u fresh

abbrev pub unit_at : World → ℕ → State
unit_at w u = state_at w.units u

-- a unit of the table that is not false
abbrev pub Sound : World → ℕ → Type 0
Sound w u = (u < w.table.units) × (Has w.falses u → ⊥)

-- 11: is there memory for the units, and does the wire serve just them? Asked where a shed is made; no call changes either.
abbrev pub ready : (n memory served : ℕ) → Option ShedFault
ready n memory served = pick (both? (dec_le n memory) (ℕ_discrete served n)) None (Some sheds.NoMemory)

-- 20: is there such a unit?
abbrev pub named : (n u : ℕ) → Option ShedFault
named n u = pick (dec_lt u n) None (Some (sheds.NoUnit u))

-- 21: is it sound; for a forged packet, is it false?
abbrev pub sound_side : (falses u : ℕ) → Option ShedFault
sound_side falses u = pick (has? falses u) (Some (sheds.WrongSide u)) None

abbrev pub false_side : (falses u : ℕ) → Option ShedFault
false_side falses u = pick (has? falses u) None (Some (sheds.WrongSide u))

-- of a unit that a call is to work with
abbrev pub ask_sound : (n falses u : ℕ) → Option ShedFault
ask_sound n falses u = first (named n u) (sound_side falses u)

-- of the sender and the addressee of a forged packet
abbrev pub ask_forged : (n falses from to : ℕ) → Option ShedFault
ask_forged n falses from to = first (named n from) (first (named n to) (false_side falses from))

abbrev pub asked : World → ℕ → Option ShedFault
asked w u = ask_sound w.table.units w.falses u

abbrev pub asked_named : World → ℕ → Option ShedFault
asked_named w u = named w.table.units u

abbrev pub asked_forged : World → ℕ → ℕ → Option ShedFault
asked_forged w from to = ask_forged w.table.units w.falses from to

-- a shed that was just made
pub record Made (w : World) : Type 0 where
  pub proper : ∥ Proper w.table ∥₁
  pub bearable : Bearable w.table.faults (Has w.falses)
  pub roomy : w.table.units ≤ length w.units
  pub served : w.wire.served ≡ w.table.units
  pub new : (u : ℕ) → u < w.table.units → unit_at w u ≡ fresh
  pub quiet : Quiet w.wire

-- can the false set be borne; does nothing wait?
abbrev pub bearable? : (faults : List ℕ) (falses : ℕ) → Dec (Bearable faults (Has falses))
bearable? faults falses = some? (λ g. all_in? falses (has? (slice_index faults g))) (length faults)

pub empty? : (l : List Parcel) → Dec (l ≡ [])
empty? [] = yes refl
empty? (x ∷ l) = no (λ e. let n : length (x ∷ l) ≡ 0 = ap length e in omega arith)

abbrev pub quiet? : (m : Meaning) → Dec (Quiet m)
quiet? m = all? (λ u. empty? (m.waiting u)) m.served

-- 10, 11, 12: why no shed is made
abbrev pub made_fault : QuorumTable → (falses memory : ℕ) → Meaning → Option ShedFault
made_fault tb falses memory m =
    pick (bearable? tb.faults falses) (first (ready tb.units memory m.served) (pick (quiet? m) None (Some sheds.Waiting))) (Some sheds.Unbearable)

-- what is known where a shed is made
pub record MayMake (tb : QuorumTable) (falses memory : ℕ) (m : Meaning) : Type 0 where
  pub proper : ∥ Proper tb ∥₁
  pub bearable : Bearable tb.faults (Has falses)
  pub roomy : tb.units ≤ memory
  pub served : m.served ≡ tb.units
  pub quiet : Quiet m

-- the units of a made shed: the first n fresh, the others as they were
abbrev pub renewed : ℕ → List State → List State
renewed n us = replicate n fresh ++ drop n us

-- a shed that is made: nothing refuses it, it is just this world, and it is as new
pub record Makes (tb : QuorumTable) (falses : ℕ) (us : List State) (m : Meaning) (w : World) : Type 0 where
  pub met : made_fault tb falses (length us) m ≡ None
  pub is : w ≡ world tb falses (renewed tb.units us) m
  pub made : Made w
