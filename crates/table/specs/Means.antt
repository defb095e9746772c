-- What the caller's table means, and a passed one.
pub use Rattle.table.specs.Listed.{listed}
use Rattle.table.specs.Tables.{QuorumTable}
use Rattle.table.specs.declared.passed.Passed.{Passed}

-- a passed table is seen as what it means
abbrev pub means : Passed → QuorumTable
means p = p
