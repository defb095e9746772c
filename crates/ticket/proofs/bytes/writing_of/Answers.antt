use Rattle.std.proofs.Common.{ap, ◌∙◌, rules}
use Rattle.ticket.specs.Writings.{bytes_of}
use Rattle.ticket.specs.InBytes.{bytes_whole}
use Rattle.ticket.proofs.bytes.writing_of.Goals as goal

pub returns : goal.returns
returns c = record { is = c.words_of.ensures; back = ap bytes_of c.words_of.ensures ∙ bytes_whole c.args.bytes.now (search rules) (record { small = λ i. search rules }) }
