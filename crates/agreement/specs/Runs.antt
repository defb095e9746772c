-- Runs: units act one at a time, and what arrives under a sound unit's number was sent by it before.
use Rattle.std.specs.Prelude.{◌≡◌, ℕ, ◌<◌, ◌⊎◌, List, [], ◌∷◌, ◌++◌, map, None}
use mathlib.Core.List.{Memᴰ}
use Rattle.std.proofs.Math.Decide.{ℕ_discrete}
use Rattle.sets.specs.Sets.{Has}
use Rattle.sets.specs.Decisions.{pick}
use Rattle.table.specs.Tables.{QuorumTable}
use Rattle.ticket.specs.declared.writing.Writing.{Writing}
use Rattle.rows.specs.Said.{Said}
use Rattle.unit.specs.States.{State, fresh_of}
use Rattle.unit.specs.Sending.{outgoing}
use Rattle.unit.specs.Acts.{Act, putting, raising, repeating, receiving, act_fault, act_done, act_sends}

-- something that was sent: by whom, and what it says
pub record Sent : Type 0 where
  pub sender : ℕ
  pub said : Said

abbrev pub sent_by : ℕ → Said → Sent
sent_by x said = record { sender = x; said = said }

-- a moment of a run: the state of each unit, all that was sent so far, and the tickets handed to accepted puts
pub record Course : Type 0 where
  pub units : ℕ → State
  pub sent : List Sent
  pub handed : List Writing

-- tb: the table; falses: the mask of the false units; n: the number of views
abbrev pub Sound : QuorumTable → ℕ → ℕ → Type 0
Sound tb falses u = (u < tb.units) × (¬ (Has falses u))

-- under a false unit's number anything may arrive, under any other what was sent by it: once, often, late or never
abbrev pub Came : ℕ → Course → ℕ → Said → Type 0
Came falses c x said = Has falses x ⊎ Memᴰ (sent_by x said) c.sent

abbrev pub MayHappen : ℕ → Course → Act → Type 0
MayHappen falses c (putting t) = Unit {0}
MayHappen falses c (raising w) = Unit {0}
MayHappen falses c repeating = Unit {0}
MayHappen falses c (receiving x said) = Came falses c x said

-- the tickets that an act is handed
abbrev pub handed_to : Act → List Writing
handed_to (putting t) = t ∷ []
handed_to (raising w) = []
handed_to repeating = []
handed_to (receiving x said) = []

-- the states with that of unit u replaced
abbrev pub replaced : (ℕ → State) → ℕ → State → ℕ → State
replaced units u s x = pick (ℕ_discrete u x) s (units x)

module _ (n : ℕ) (tb : QuorumTable) where
  -- what an act of unit u makes of its state, and what it then sends
  abbrev pub state_after : Course → ℕ → Act → State
  state_after c u act = act_done n tb u act (c.units u)

  abbrev pub said_after : Course → ℕ → Act → List Said
  said_after c u act = outgoing (act_sends n tb u act (c.units u)) (state_after c u act)

  abbrev pub after : Course → ℕ → Act → Course
  after c u act = record {
    units = replaced c.units u (state_after c u act);
    sent = map (sent_by u) (said_after c u act) ++ c.sent;
    handed = handed_to act ++ c.handed;
  }

  -- every unit is fresh, and nothing was sent or handed in
  abbrev pub start : Course
  start = record { units = λ _. fresh_of n; sent = []; handed = [] }

  -- the acts of sound units, one after another; what a false unit does is in what arrives under its number
  pub data Run (falses : ℕ) : Course → Type 0 where
    begin : Run falses start
    acts : {c : Course} (u : ℕ) (act : Act) → Run falses c → Sound tb falses u → MayHappen falses c act
        → act_fault n tb u act (c.units u) ≡ None → Run falses (after c u act)

-- a unit and what it does
pub record Deed : Type 0 where
  pub unit : ℕ
  pub act : Act

abbrev pub deed : ℕ → Act → Deed
deed u act = record { unit = u; act = act }

-- the rules worked from a moment, and from fresh units, through deeds in order
abbrev pub worked_from : ℕ → QuorumTable → Course → List Deed → Course
worked_from n tb c [] = c
worked_from n tb c (d ∷ ds) = worked_from n tb (after n tb c d.unit d.act) ds

abbrev pub worked : ℕ → QuorumTable → List Deed → Course
worked n tb ds = worked_from n tb (start n tb) ds
