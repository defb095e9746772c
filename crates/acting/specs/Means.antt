-- What a shed's world means.
use Rattle.table.specs.Means.{means as table_of}
use Rattle.wire.specs.Meaning.{Meaning}
use Rattle.calls.specs.Worlds.{World, world, states_of}
use Rattle.acting.specs.declared.world.World as held

-- by what its wire means
abbrev pub world_of : {W : Type 0} {d : _} → (W → Meaning) → held.World W d → World
world_of wire w = world (table_of w.table) w.false_set (states_of w.units.now) (wire w.wire.now)
