-- The answer for the unused places is that for the places from here on.
use Rattle.std.proofs.Common.{◌≡◌, Bool, drop}
use Rattle.rules.specs.Lists.{all}
use Rattle.tables.specs.Closures.{Tells}
use Rattle.device.proofs.padded.Given as goal

abbrev pub invariant-loop-entry : goal.invariant-loop-entry
invariant-loop-entry g l =
    (test : g.row.T.Denot → Bool) → Tells g.F.Fn l.is_empty test
    → all test l.unused ≡ all test (drop l.entry-index l.unused)
