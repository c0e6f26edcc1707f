-- The answer for the list is that for the entries from the place on, with the room and the key that are left.
use Rattle.std.proofs.Common.{ℕ, ◌≡◌, Bool, drop}
use Rattle.tables.specs.Closures.{Tells}
use Rattle.device.specs.Closures.{Says}
use Rattle.device.specs.Rising.{few_rising}
use Rattle.device.proofs.few_rising.Given as goal

abbrev pub invariant-loop-entry : goal.invariant-loop-entry
invariant-loop-entry g l =
    (mine : g.row.T.Denot → Bool) (by : g.row.T.Denot → ℕ) (ok : g.row.T.Denot → Bool)
    → Tells g.M.Fn l.is_mine mine → Says g.K.Fn l.key by → Tells g.G.Fn l.is_good ok
    → few_rising mine by ok l.room 0 l.list ≡ few_rising mine by ok l.left l.low (drop l.entry-index l.list)
