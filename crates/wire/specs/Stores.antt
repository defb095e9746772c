-- When a store can lay a packet, and when one waits in it.
use Rattle.std.specs.Prelude.{ℕ, ◌<◌, length}
use Rattle.wire.specs.Meaning.{Meaning}

abbrev pub HasRoom : Meaning → ℕ → Type 0
HasRoom m to = (to < m.served) × (0 < m.free to)

abbrev pub Waits : Meaning → ℕ → ℕ → Type 0
Waits m unit place = (unit < m.served) × (place < length (m.waiting unit))
