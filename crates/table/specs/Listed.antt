-- What the caller's table means.
use Rattle.table.specs.Tables.{QuorumTable, table_of}
use Rattle.table.specs.declared.table.Table.{Table}

abbrev pub listed : Table → QuorumTable
listed t = table_of t.units t.faults.now t.quorums.now
