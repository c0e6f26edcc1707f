-- `after_change` meets its contract: at each turn the records passed, from the last on, are the same.
use Rattle.loans.specs.ChangeLaws.{Behind}
use Rattle.loans.proofs.after_change.Given as goal

abbrev pub invariant-loop-i : goal.invariant-loop-i
invariant-loop-i l = Behind l.old l.new 128 l.i
