-- How many places a unit may have; src/boxes.rt states it for the code.
use Rattle.std.specs.Prelude.{ℕ}

abbrev pub box_places_most : ℕ
box_places_most = 64
