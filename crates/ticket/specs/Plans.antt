-- Plans: how one is written, and which writings are plans.
use Rattle.std.specs.Prelude.{Bool, ◌&&◌, Option}
use Rattle.ticket.specs.Bounds.{ends_fit, picks_fit}
use Rattle.ticket.specs.Faults.{judged}
use Rattle.ticket.specs.declared.fault.TicketFault.{TicketFault}
use Rattle.ticket.specs.declared.plan.Plan.{Plan}
use Rattle.ticket.specs.declared.writing.Writing.{Writing}

-- pattern, ends, picks, revision
abbrev pub plan_writing : Plan → Writing
plan_writing p = record { a = p.pattern; b = p.ends; c = p.picks; d = p.revision }

abbrev pub is_plan : Writing → Bool
is_plan w = ends_fit w.b && picks_fit w.c

abbrev pub plan_refuses : Writing → Option TicketFault
plan_refuses w = judged (is_plan w)
