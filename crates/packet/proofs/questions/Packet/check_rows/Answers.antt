use Rattle.std.proofs.Common.{rules}
use Rattle.packet.specs.Questions.{ticket_fault, set_fault, mark_fault}
use Rattle.packet.proofs.questions.Packet.check_rows.Goals as goal

pub returns-in_err-each : goal.returns-in_err-each
returns-in_err-each g c =
    let tickets = c.each.ensures (ticket_fault g.T.Ticket.refuses) (λ p r h. search rules) in search rules

pub returns-then-eq : goal.returns-then-eq
returns-then-eq g c =
    let tickets = c.each.ensures (ticket_fault g.T.Ticket.refuses) (λ p r h. search rules) in search rules

pub returns-in_err-each-2 : goal.returns-in_err-each-2
returns-in_err-each-2 g c =
    let tickets = c.each.ensures (ticket_fault g.T.Ticket.refuses) (λ p r h. search rules) in
    let sets = c.each-2.ensures (set_fault c.args.quorums) (λ p r h. search rules) in search rules

pub returns : goal.returns
returns g c =
    let tickets = c.each.ensures (ticket_fault g.T.Ticket.refuses) (λ p r h. search rules) in
    let sets = c.each-2.ensures (set_fault c.args.quorums) (λ p r h. search rules) in
    let marks = c.each-3.ensures mark_fault (λ p r h. search rules) in search rules
