-- What a shed means.
use Rattle.wire.specs.Meaning.{Meaning}
use Rattle.acting.specs.Means as held
use Rattle.calls.specs.Worlds.{World}
use Rattle.shed.specs.declared.shed.Shed.{Shed}

-- its world, by what its wire means
abbrev pub world_of : {T W : Type 0} {d : _} → (W → Meaning) → Shed T W d → World
world_of wire s = held.world_of wire s.world
