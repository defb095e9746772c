-- The first word of each kind of packet.
use Rattle.std.specs.Prelude.{ℕ}
use Rattle.packet.specs.declared.kind.Kind.{Kind}
use Rattle.packet.specs.declared.kind.Kind.TheVariants as kinds

abbrev pub put_kind : ℕ
put_kind = 1

abbrev pub row_kind : ℕ
row_kind = 2

abbrev pub report_kind : ℕ
report_kind = 3

abbrev pub kind_word : Kind → ℕ
kind_word kinds.Put = put_kind
kind_word kinds.Row = row_kind
kind_word kinds.Report = report_kind
