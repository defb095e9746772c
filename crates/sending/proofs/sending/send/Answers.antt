use Rattle.std.proofs.Common.{ap}
use Rattle.unit.specs.Letters.{said_of}
use Rattle.sending.specs.Letters.{said_in, IsOwn}
use Rattle.sending.proofs.Backs.{own_back}
use Rattle.sending.proofs.Going.{went_none, went_one}
use Rattle.sending.proofs.sending.send.Goals as goal

pub returns-in_default : goal.returns-in_default
returns-in_default g c =
    let a = g.W.Wire.means c.args.wire.now in
    went_none g.W.Wire.rule a.served c.args.me (said_in c.args.letter) a (ap said_in c.in_default.is)

pub returns : goal.returns
returns g c =
    let a = g.W.Wire.means c.args.wire.now in
    let own : IsOwn c.in-Some.letter = rw c.in-Some.is at c.requires.own in
    let sent = rw (c.unwrap.ensures, c.served-n.ensures) at c.send_all.ensures in
    rw c.in-Some.is (went_one g.W.Wire.rule a.served c.args.me (said_of c.in-Some.letter) _ a _ c.unwrap.result (own_back c.in-Some.letter own) c.write-length.ensures.packet sent)
