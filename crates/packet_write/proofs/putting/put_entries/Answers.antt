use Rattle.std.proofs.Common.{rules, None, arith, ap, ◌∙◌, List, ℕ, get_or}
use Rattle.packet_write.specs.Writes.{entry_bytes, entries_bytes, over}
use Rattle.packet_write.proofs.Over.{piece_fits, piece_length, piece_over}
use Rattle.packet_write.proofs.putting.put_entries.Goals as goal

pub put_entry-end-requires : goal.put_entry-end-requires
unfolding entries_bytes
put_entry-end-requires c = let fits = piece_fits entry_bytes c.args.rows.now c.loop-row.row-index None c.loop-row-test.true in search rules

pub loop-row-preserved : goal.loop-row-preserved
unfolding entries_bytes
loop-row-preserved c =
    let i = c.loop-row.row-index in
    let laid = piece_over entry_bytes c.args.rows.now i None c.args.out.now c.args.at c.loop-row.end c.loop-row-test.true (omega arith) c.loop-row.invariant.0 in (
      omega (arith, piece_length entry_bytes c.args.rows.now i None c.loop-row-test.true, c.put_entry-end.ensures.end),
      c.put_entry-end.ensures.bytes ∙ ap (λ (l : List ℕ). over l c.loop-row.end (entry_bytes (get_or c.args.rows.now i None))) c.loop-row.invariant.1 ∙ laid,
    )
