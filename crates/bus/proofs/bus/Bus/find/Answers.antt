-- The walk passes over the unit's earlier slots.
use Rattle.std.proofs.Common.{rules, ◌≡◌, take, filter}
use Rattle.std.specs.List.{enumerate_from, slice_get}
use Rattle.std.specs.Option.{option_map}
use Rattle.std.proofs.lemmas.Iterator.{YieldsList-from_slice}
use Rattle.std.proofs.lemmas.Iterator.Consumers.{YieldsList-from_filter, YieldsList-from_enumerate, YieldsList-at, nth_from_yields_List}
use borrow.Author.Tests.{tests}
use Rattle.bus.specs.Store.{is_for}
use Rattle.bus.proofs.Walks.{stands}
use Rattle.bus.proofs.bus.Bus.find.Goals as goal

pub returns : goal.returns
returns c =
    let b = c.args.self.now in
    let u = c.args.unit in
    let k = c.args.place in
    let numbered = YieldsList-from_enumerate (YieldsList-at c.enumerate.ensures.source (YieldsList-from_slice (take b.used b.slots.now) cc)) c.enumerate.ensures.count in
    let nth : option_map (λ p. (p.0, p.1.now)) c.nth.result ≡ slice_get (filter (λ p. is_for u p.1) (enumerate_from 0 (take b.used b.slots.now))) k =
    nth_from_yields_List c.nth.result _ k c.nth.ensures.ran (YieldsList-from_filter _ (λ p. is_for u p.1) (YieldsList-at c.filter.ensures.source numbered) c.filter.ensures.closure (λ x r q h. search (rules, tests))) in
    stands u b.slots.now b.used k _ c.map.result nth (search rules)
