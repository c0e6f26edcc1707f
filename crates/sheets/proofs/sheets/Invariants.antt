-- `sheets` is safe: the place in the buffer stays within it.
use Rattle.std.proofs.Common.{◌≤◌, length}
use Rattle.sheets.proofs.sheets.Given as goal

abbrev pub invariant-loop : goal.invariant-loop
invariant-loop l = l.at ≤ length l.out
