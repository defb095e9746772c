-- The loop has posted to the units below `to`.
use Rattle.std.proofs.Common.{◌≡◌, ◌+◌}
use Rattle.wire.specs.Sends.{Sent}
use Rattle.wire.proofs.send.send_all.Given as goal

abbrev pub invariant-loop-to : goal.invariant-loop-to
invariant-loop-to g l =
    let at = g.W.Wire.means in
    record {
      every : l.laid + l.lost ≡ l.to;
      served : (at l.wire).served ≡ (at l.initial.wire).served;
      chain : Sent g.W.Wire.rule l.from l.packet (at l.initial.wire) l.to (at l.wire) l.laid l.lost;
    }
