-- Runs of a shed: any calls, accepted or refused, each acting on what the earlier ones left.
use Rattle.std.specs.Prelude.{List, [], ◌∷◌, ◌++◌, Ok, Err, Result}
use Rattle.unit.specs.Acts.{putting, raising, repeating, receiving}
use Rattle.agreement.specs.Runs.{Deed, deed}
use Rattle.calls.specs.declared.fault.ShedFault.{ShedFault}
use Rattle.calls.specs.Worlds.{World, Made}
use Rattle.calls.specs.Calls.{Ways, Call, put, deliver, announce, raise, repeat, lose, forge, choice, Answer, waiting_at, handed, Did}

-- a shed is made, and then calls are made, one after another; nothing else touches its units and its wire
pub data Run {T : Type 0} (y : Ways T) : World → Type 0 where
  made : {a : World} → Made a → Run y a
  next : {a b : World} (c : Call T) (r : Result (Answer c) ShedFault) → Run y a → Did y a c r b → Run y b

-- what an accepted call has a unit do; a delivery hands it the packet and the sender that it found
abbrev pub deeds : {T : Type 0} → Ways T → World → Call T → List Deed
deeds y a (put u t) = deed u (putting (y.written t)) ∷ []
deeds y a (deliver u k) = deed u (receiving (waiting_at a u k).sender (handed (waiting_at a u k).bytes)) ∷ []
deeds y a (announce u) = []
deeds y a (raise u w) = deed u (raising w) ∷ []
deeds y a (repeat u) = deed u repeating ∷ []
deeds y a (lose u k) = []
deeds y a (forge from to bytes) = []
deeds y a (choice u q) = []

-- the ticket that an accepted put was handed
abbrev pub tickets : {T : Type 0} → Call T → List T
tickets (put u t) = t ∷ []
tickets (deliver u k) = []
tickets (announce u) = []
tickets (raise u w) = []
tickets (repeat u) = []
tickets (lose u k) = []
tickets (forge from to bytes) = []
tickets (choice u q) = []

abbrev pub if_ok : {V A : Type 0} → Result V ShedFault → List A → List A
if_ok (Ok v) l = l
if_ok (Err e) l = []

-- the deeds of a run's accepted calls, in order; the tickets handed to its accepted puts
abbrev pub deeds_of : {T : Type 0} {y : Ways T} {w : World} → Run y w → List Deed
deeds_of (made m) = []
deeds_of {y = y} (next {a = a} c r run did) = deeds_of run ++ if_ok r (deeds y a c)

abbrev pub tickets_of : {T : Type 0} {y : Ways T} {w : World} → Run y w → List T
tickets_of (made m) = []
tickets_of (next c r run did) = tickets_of run ++ if_ok r (tickets c)

-- whatever calls led to the one world, calls lead to the other
pub record Continues {T : Type 0} (y : Ways T) (a b : World) : Type 0 where
  pub on : Run y a → Run y b
