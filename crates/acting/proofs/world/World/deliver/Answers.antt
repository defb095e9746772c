use Rattle.std.proofs.Common.{◌∙◌, arith}
use Rattle.std.proofs.lemmas.Result.{err_from_is_err_and}
use Rattle.unit.specs.States.{means}
use Rattle.calls.specs.Calls.{delivering}
use Rattle.acting.specs.Means.{world_of}
use Rattle.acting.proofs.Doing.{refused, acted, letter_fault_is, letter_done_is, letter_sends_is, handed_act, can_be_read}
use Rattle.acting.proofs.world.World.deliver.Goals as goal

pub returns-in_err-sends : goal.returns-in_err-sends
returns-in_err-sends g c =
    let w = c.args.self.now in
    let m = g.W.Wire.means w.wire.now in
    let r = c.from_residual-in_err-sends in
    let (f, e, is) = err_from_is_err_and r.result r.ensures.1 in
    let look = c.in_ok-found.ensures in
    let read = c.in_ok-message.ensures in
    let act = handed_act m c.args.unit c.args.place _ c.look.new.into c.in_ok-found.found look.1 c.in_ok-message.message c.letter_of-letter.result read.1 c.letter_of-letter.ensures in
    let met = can_be_read m c.args.unit c.args.place _ c.look.new.into c.in_ok-found.found look.1 g.T.Ticket.refuses w.table _ _ c.in_ok-ask.ensures.asked look.0 c.quorum_count.ensures.is read.0 in
    let fault = letter_fault_is w.table c.args.unit _ (delivering (world_of g.W.Wire.means w) c.args.unit c.args.place) c.letter_of-letter.result _ act in
    rw (e, is) (refused w.table w.false_set w.units.now m c.args.unit _ c.receive.new.self (delivering (world_of g.W.Wire.means w) c.args.unit c.args.place) (omega (arith, c.in_ok-ask.ensures.there)) _ met _ (fault ∙ c.in_err-sends.ensures.0) c.in_err-sends.ensures.1)

pub returns : goal.returns
returns g c =
    let w = c.args.self.now in
    let m = g.W.Wire.means w.wire.now in
    let look = c.in_ok-found.ensures in
    let read = c.in_ok-message.ensures in
    let act = handed_act m c.args.unit c.args.place _ c.look.new.into c.in_ok-found.found look.1 c.in_ok-message.message c.letter_of-letter.result read.1 c.letter_of-letter.ensures in
    let met = can_be_read m c.args.unit c.args.place _ c.look.new.into c.in_ok-found.found look.1 g.T.Ticket.refuses w.table _ _ c.in_ok-ask.ensures.asked look.0 c.quorum_count.ensures.is read.0 in
    let s = means c.index-units-unit.result in
    let d = c.in_ok-sends.ensures in
    let so = delivering (world_of g.W.Wire.means w) c.args.unit c.args.place in
    acted w.table w.false_set w.units.now m c.args.unit _ c.receive.new.self so (omega (arith, c.in_ok-ask.ensures.there)) _ met
    g.W.Wire.rule (g.W.Wire.means c.go_out.new.wire) _ c.in_ok-sends.sends c.go_out.result
    (letter_fault_is w.table c.args.unit _ so c.letter_of-letter.result _ act ∙ d.0) (d.1 ∙ letter_done_is w.table c.args.unit _ so c.letter_of-letter.result _ act) (d.2 ∙ letter_sends_is w.table c.args.unit _ so c.letter_of-letter.result _ act) w.serves c.go_out.ensures.out
