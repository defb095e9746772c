-- So many of the slots so far are the unit's.
use Rattle.std.proofs.Common.{◌≡◌, ◌≤◌, length, take, filter}
use Rattle.bus.specs.Store.{is_for}
use Rattle.bus.proofs.bus.Bus.waiting_for.Given as goal

abbrev pub invariant-loop-slot : goal.invariant-loop-slot
invariant-loop-slot l = (l.waiting ≡ length (filter (is_for l.unit) (take l.slot-index l.slot-items))) × (l.waiting ≤ l.slot-index)
