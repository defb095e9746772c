-- The bounds of plans and piece orders; src/bounds.rt states them for the code. No other file has a bound.
use Rattle.std.specs.Prelude.{ℕ, Bool, ◌&&◌, nat_le}

-- from the least to the most
abbrev pub within : ℕ → ℕ → ℕ → Bool
within least most n = nat_le least n && nat_le n most

-- how many warp threads a plan has
abbrev pub ends_fit : ℕ → Bool
ends_fit n = within 1 32768 n

-- how many weft threads a plan has, and at which of them a piece is cut
abbrev pub picks_fit : ℕ → Bool
picks_fit n = within 1 1000000 n

-- a set of looms, bit i for loom i: at least one, of sixteen
abbrev pub looms_fit : ℕ → Bool
looms_fit s = within 1 65535 s
