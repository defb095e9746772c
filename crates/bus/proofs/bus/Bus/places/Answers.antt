-- What waits for all units is what is used.
use Rattle.bus.proofs.Entries.{shared_places}
use Rattle.bus.proofs.bus.Bus.places.Goals as goal

pub returns : goal.returns
returns c =
    let b = c.args.self.now in
    shared_places _ _ _ _ b.memory b.within b.addressed
