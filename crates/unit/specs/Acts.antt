-- What a unit does, one act at a time: the rules under one name each for their refusal, their state and what goes out.
use Rattle.std.specs.Prelude.{ℕ, None, Option}
use Rattle.table.specs.Tables.{QuorumTable}
use Rattle.ticket.specs.declared.writing.Writing.{Writing}
use Rattle.unit.specs.States.{State}
use Rattle.unit.specs.Rules.{own_put_fault, on_own_put, raise_fault_in, on_raise_in}
use Rattle.unit.specs.Sending.{Sends, sends_put, sends_report, repeats}
use Rattle.unit.specs.Letters.{Said, said_fault, said_done_in, said_sends_in}
use Rattle.unit.specs.declared.fault.UnitFault.{UnitFault}

-- it puts a ticket; it raises its view; it repeats; it receives what is said under a sender's number
pub data Act : Type 0 where
  putting : Writing → Act
  raising : ℕ → Act
  repeating : Act
  receiving : ℕ → Said → Act

-- n: the number of views; u: the unit
module _ (n : ℕ) (tb : QuorumTable) (u : ℕ) where
  abbrev pub act_fault : Act → State → Option UnitFault
  act_fault (putting t) s = own_put_fault tb u s
  act_fault (raising w) s = raise_fault_in n u w s
  act_fault repeating s = None
  act_fault (receiving x said) s = said_fault tb x said s

  abbrev pub act_done : Act → State → State
  act_done (putting t) s = on_own_put tb t s
  act_done (raising w) s = on_raise_in n w s
  act_done repeating s = s
  act_done (receiving x said) s = said_done_in n tb x said s

  abbrev pub act_sends : Act → State → Sends
  act_sends (putting t) s = sends_put
  act_sends (raising w) s = sends_report
  act_sends repeating s = repeats s
  act_sends (receiving x said) s = said_sends_in n tb x said s
