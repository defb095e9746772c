-- The laws hold of every rule.
use Rattle.wire.proofs.Histories.{accounted, honest, sent_run}
use Rattle.wire.proofs.laws.runs_keep_packets.Goals as goal

pub returns : goal.returns
returns g c = record { accounted = accounted g.W.Wire.rule; honest = honest g.W.Wire.rule; sends = sent_run g.W.Wire.rule }
