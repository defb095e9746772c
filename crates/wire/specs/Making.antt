-- When a wire can be made in the memory handed in, and what it is then.
use Rattle.std.specs.Prelude.{◌≡◌, ℕ, ◌<◌, ◌≤◌, cond, ◌&&◌, [], Some, None, Option, nat_le}
use Rattle.base.specs.Limits.{units_most}
use Rattle.wire.specs.declared.fault.WireFault.{WireFault}
use Rattle.wire.specs.declared.fault.WireFault.TheVariants.{BadMemory}
use Rattle.wire.specs.Meaning.{Meaning}

-- are units and places within bounds, and are there as many slots as are needed for them
abbrev pub make_fault : (places-most units places needed slots : ℕ) → Option WireFault
make_fault places-most units places needed slots =
    cond ((nat_le 1 units && nat_le units units_most) && ((nat_le 1 places && nat_le places places-most) && nat_le needed slots)) None (Some BadMemory)

-- so many units and places may be
abbrev pub InBounds : (places-most units places : ℕ) → Type 0
InBounds places-most units places = (1 ≤ units) × (units ≤ units_most) × (1 ≤ places) × (places ≤ places-most)

-- as made: nothing waits, and each unit has all places free
pub record Made (m : Meaning) (units places : ℕ) : Type 0 where
  pub served : m.served ≡ units
  pub waiting : (u : ℕ) → u < units → m.waiting u ≡ []
  pub free : (u : ℕ) → u < units → m.free u ≡ places
