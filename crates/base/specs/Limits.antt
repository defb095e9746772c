-- The limits that definitions and contracts cite; src/limits.rt states them for the code.
use Rattle.std.specs.Prelude.{ℕ, ◌+◌, ◌-◌, ◌*◌}

-- units of a shed
abbrev pub units_most : ℕ
units_most = 16

-- fault sets of a table
abbrev pub fault_sets_most : ℕ
fault_sets_most = 32

-- quorums of a table
abbrev pub quorums_most : ℕ
quorums_most = 32

-- views of a unit, from 0
abbrev pub views : ℕ
views = 8

-- bytes of the longest packet where there are v views: a report for the last view, 12 bytes and 28 for each entry
abbrev pub longest_packet : ℕ → ℕ
longest_packet v = 12 + 28 * (v - 1)

-- bytes of the longest packet
abbrev pub packet_bytes : ℕ
packet_bytes = longest_packet views
