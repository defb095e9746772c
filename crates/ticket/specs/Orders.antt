-- Piece orders: how one is written, and which writings are orders.
use Rattle.std.specs.Prelude.{ℕ, Bool, false, cond, Option, ◌==◌}
use Rattle.ticket.specs.Bounds.{looms_fit, picks_fit}
use Rattle.ticket.specs.Faults.{judged}
use Rattle.ticket.specs.declared.fault.TicketFault.{TicketFault}
use Rattle.ticket.specs.declared.order.Order.{Order}
use Rattle.ticket.specs.declared.order.Order.TheVariants as orders
use Rattle.ticket.specs.declared.writing.Writing.{Writing}

-- which order, its datum, two zero words
abbrev pub order_writing : Order → Writing
order_writing orders.Run = record { a = 0; b = 0; c = 0; d = 0 }
order_writing (orders.Hold l) = record { a = 1; b = l.set; c = 0; d = 0 }
order_writing (orders.Cut p) = record { a = 2; b = p.number; c = 0; d = 0 }

-- whether a datum goes with the word that says which order
abbrev pub datum_fits : ℕ → ℕ → Bool
datum_fits order datum = cond (order == 0) (datum == 0) (cond (order == 1) (looms_fit datum) (cond (order == 2) (picks_fit datum) false))

abbrev pub is_order : Writing → Bool
is_order w = cond (w.c == 0) (cond (w.d == 0) (datum_fits w.a w.b) false) false

abbrev pub order_refuses : Writing → Option TicketFault
order_refuses w = judged (is_order w)
