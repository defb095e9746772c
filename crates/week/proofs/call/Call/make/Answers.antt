use Rattle.history.proofs.Steps.{by_call}
use Rattle.week.proofs.call.Call.make.Goals as goal

pub returns-in-Put : goal.returns-in-Put
returns-in-Put g c = search by_call

pub returns-in-Deliver : goal.returns-in-Deliver
returns-in-Deliver g c = search by_call

pub returns-in-Raise : goal.returns-in-Raise
returns-in-Raise g c = search by_call

pub returns-in-Repeat : goal.returns-in-Repeat
returns-in-Repeat g c = search by_call

pub returns-in-Lose : goal.returns-in-Lose
returns-in-Lose g c = search by_call

pub returns-in-Forge : goal.returns-in-Forge
returns-in-Forge g c = search by_call
