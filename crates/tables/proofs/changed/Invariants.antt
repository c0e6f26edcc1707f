-- `changed` meets its contract: at each turn one entry more of the list is changed.
use Rattle.std.proofs.Common.{◌≡◌, ◌++◌, map, take, drop}
use Rattle.tables.specs.Closures.{Gives}
use Rattle.tables.proofs.changed.Given as goal

abbrev pub invariant-loop-i : goal.invariant-loop-i
invariant-loop-i g l =
    (l.t.count ≡ l.fn.table.count)
    × ((to : g.row.T.Denot → g.row.T.Denot) → Gives g.F.Fn l.change to
    → l.t.entries ≡ map to (take l.i l.fn.table.entries) ++ drop l.i l.fn.table.entries)
