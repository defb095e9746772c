use Rattle.std.proofs.Common.{rules}
use Rattle.ticket.specs.Words.{be}
use Rattle.packet_write.proofs.Over.{piece_fits}
use Rattle.packet_write.proofs.putting.put_words.Goals as goal

pub slice_bounds-copy_from_slice-end : goal.slice_bounds-copy_from_slice-end
slice_bounds-copy_from_slice-end c =
    let fits = piece_fits be c.args.words.now c.loop-word.word-index 0 c.loop-word-test.true in search rules
