-- What goes out.
use Rattle.std.specs.Prelude.{ℕ, Bool, true, false, cond, List, [], ◌∷◌, ◌++◌, is_some, Some, None, Option, nat_lt}
use Rattle.ticket.specs.declared.writing.Writing.{Writing}
use Rattle.rows.specs.declared.row.Row.{Row}
use Rattle.rows.specs.Said.{Said, says_put, says_row, says_report}
use Rattle.unit.specs.States.{State, own_at, below}
pub use Rattle.unit.specs.declared.letter.Sends.{Sends}

abbrev pub sends_put : Sends
sends_put = record { put = true; row = false; report = false }

abbrev pub sends_row : Sends
sends_row = record { put = false; row = true; report = false }

abbrev pub sends_report : Sends
sends_report = record { put = false; row = false; report = true }

abbrev pub sends_nothing : Sends
sends_nothing = record { put = false; row = false; report = false }

-- what goes out after a call that left the state s, in order: its put, its own row, the report of its rows below its view
abbrev pub only_if : {A : Type 0} → Bool → List A → List A
only_if b l = cond b l []

abbrev pub put_said : ℕ → Option Writing → List Said
put_said v None = []
put_said v (Some t) = says_put v t ∷ []

abbrev pub row_said : ℕ → Option Row → List Said
row_said v None = []
row_said v (Some r) = says_row v r ∷ []

abbrev pub report_said : State → List Said
report_said s = says_report s.view (below s.view s.own) ∷ []

abbrev pub outgoing : Sends → State → List Said
outgoing sends s =
    only_if sends.put (put_said s.view s.put)
    ++ (only_if sends.row (row_said s.view (own_at s s.view)) ++ only_if sends.report (report_said s))

-- all of this view, as far as it exists
abbrev pub repeats : State → Sends
repeats s = record { put = is_some s.put; row = is_some (own_at s s.view); report = nat_lt 0 s.view }
