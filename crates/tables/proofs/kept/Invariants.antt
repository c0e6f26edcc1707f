-- `kept` meets its contract: at each turn the table holds those of the entries passed that stay.
use Rattle.std.proofs.Common.{◌≡◌, Bool, take}
use Rattle.rules.specs.Lists.{keep}
use Rattle.state.specs.Listed.{table_of}
use Rattle.tables.specs.Closures.{Tells}
use Rattle.tables.proofs.kept.Given as goal

abbrev pub invariant-loop-entry : goal.invariant-loop-entry
invariant-loop-entry g l =
    (test : g.row.T.Denot → Bool) → Tells g.F.Fn l.stays test
    → l.left ≡ table_of l.fn.zero g.row.ROOM (keep test (take l.entry-index l.entry-items))
