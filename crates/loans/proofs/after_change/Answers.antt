-- `after_change` meets its contract: at each turn the records passed, from the last on, are the same.
use Rattle.std.proofs.Common.{arith}
use Rattle.loans.proofs.Sizes.{table-long}
use Rattle.loans.proofs.Same.{differ, same}
use Rattle.loans.specs.ChangeLaws.{behind-begin, behind-next, behind-differs, behind-ends}
use Rattle.loans.proofs.after_change.Goals as goal

pub loop-i-init : goal.loop-i-init
loop-i-init c = behind-begin (table-long c.args.old c.well_formed.0) (table-long c.args.new c.well_formed.1.0)

pub loop-i-preserved : goal.loop-i-preserved
loop-i-preserved c = behind-next c.loop-i.invariant c.loop-i-test.true _ (same _ _ c.ne.ensures c.if-ne.false)

pub returns-then-ne : goal.returns-then-ne
returns-then-ne c =
    omega (arith, behind-differs c.loop-i.invariant c.loop-i-test.true _ (differ _ _ c.ne.ensures c.if-ne.true))

pub returns : goal.returns
returns c = behind-ends c.loop-i.invariant c.loop-i-test.false
