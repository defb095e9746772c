-- How a program's calls make up a run.
use Rattle.std.proofs.Common.{◌≡◌, ℕ, Some, Ok, Result}
use Rattle.calls.specs.declared.shown.Shown.{Shown}
use Rattle.calls.specs.declared.fault.ShedFault.{ShedFault}
use Rattle.calls.specs.Worlds.{World}
use Rattle.calls.specs.Calls.{Ways, Call, announce, Answer, Did}
use Rattle.history.specs.Runs.{Run, next, Continues}
use Rattle.history.specs.Promised.{Promised}
use Rattle.history.proofs.Asked.{both_none, asked_sound}

module _ {T : Type 0} (y : Ways T) where
  pub stays : (a : World) → Continues y a a
  stays a = record { on = λ run. run }

  pub by_call : (a b : World) (c : Call T) (r : Result (Answer c) ShedFault) → Did y a c r b → Continues y a b
  by_call a b c r did = record { on = λ run. next c r run did }

  pub then : (a b c : World) → Continues y a b → Continues y b c → Continues y a c
  then a b c k l = record { on = λ run. l.on (k.on run) }

  -- two answers of announce after one run show one ticket
  pub answers_agree : (w : World) (run : Run y w) → Promised y w run → (u u' : ℕ) (s s' : Shown T)
      → Did y w (announce u) (Ok (Some s)) w → Did y w (announce u') (Ok (Some s')) w → s.ticket ≡ s'.ticket
  answers_agree w run promised u u' s s' d d' =
      let sound = asked_sound w u (both_none _ _ d.0).0 in
      let sound' = asked_sound w u' (both_none _ _ d'.0).0 in
      promised.announced_tickets_agree u u' s s' sound sound' d.1.1 d'.1.1
