-- Samples of plans that are read, and of others that are not.
use Rattle.std.specs.Prelude.{◌≡◌, ℕ, Bool, true, false, List, [], ◌∷◌}
use Rattle.ticket.specs.Faults.{judged}
use Rattle.ticket.specs.Plans.{plan_refuses}
use Rattle.ticket.specs.declared.writing.Writing.{Writing}

-- the rose damask's plan, with another number of ends
abbrev pub with_ends : ℕ → Writing
with_ends n = record { a = 1987; b = n; c = 3200; d = 1 }

-- each number of ends is read or refused as the list says
abbrev pub EndsSamples : List (ℕ × Bool) → Type 0
EndsSamples [] = Unit {0}
EndsSamples (s ∷ rest) = (plan_refuses (with_ends s.0) ≡ judged s.1) × EndsSamples rest

-- 1 and 32,768 ends are read, 0 and 32,769 are not
abbrev pub ends_samples : List (ℕ × Bool)
ends_samples = (1, true) ∷ (32768, true) ∷ (0, false) ∷ (32769, false) ∷ []
