-- How a question that may refuse is answered.
use Rattle.std.specs.Prelude.{◌≡◌, Option, Some, None, Result, MatchResult, ⊤}

-- the first fault of two questions in order
abbrev pub first : {E : Type 0} → Option E → Option E → Option E
first None later = later
first (Some fault) later = Some fault

-- the answer is the fault, where there is one
abbrev pub Asked : {E : Type 0} → Option E → Result ⊤ E → Type 0
Asked fault r = MatchResult r (λ _. fault ≡ None) (λ e. fault ≡ Some e)
