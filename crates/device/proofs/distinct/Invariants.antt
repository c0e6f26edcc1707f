-- The answer for the list is that for the entries that are left; the search for the first of them goes on from here.
use Rattle.std.proofs.Common.{◌≡◌, Bool, drop, length}
use Rattle.rules.specs.Lists.{any, distinct}
use Rattle.device.specs.Closures.{TellsSame}
use Rattle.device.proofs.distinct.Given as goal

abbrev pub invariant-loop-entry : goal.invariant-loop-entry
invariant-loop-entry g l =
    (equal : g.row.T.Denot → g.row.T.Denot → Bool) → TellsSame g.F.Fn l.same equal
    → distinct equal l.list ≡ distinct equal l.left

abbrev pub decreases-loop-entry : goal.decreases-loop-entry
decreases-loop-entry g l = length l.left

abbrev pub invariant-loop-other : goal.invariant-loop-other
invariant-loop-other g l =
    (equal : g.row.T.Denot → g.row.T.Denot → Bool) → TellsSame g.F.Fn l.same equal
    → any (equal l.entry) l.rest ≡ any (equal l.entry) (drop l.other-index l.rest)
