-- `left` meets its contract: at each turn the table holds what is left of the loans passed.
use Rattle.std.proofs.Common.{◌≡◌, map, take}
use Rattle.rules.specs.declared.Loan.{Loan}
use Rattle.rules.specs.Lists.{keep}
use Rattle.state.specs.Effects.{carries_any}
use Rattle.tables.specs.Closures.{Gives}
use Rattle.loans.specs.Held.{loans_table}
use Rattle.loans.proofs.left.Given as goal

abbrev pub invariant-loop-loan : goal.invariant-loop-loan
invariant-loop-loan g l =
    (to : Loan → Loan) → Gives g.F.Fn l.change to
    → l.made ≡ loans_table (keep carries_any (take l.loan-index (map to l.loan-items)))
