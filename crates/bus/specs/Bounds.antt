-- How many places a bus may have; src/bus.rt states it for the code.
use Rattle.std.specs.Prelude.{ℕ}

abbrev pub bus_places_most : ℕ
bus_places_most = 1024
