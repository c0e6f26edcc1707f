-- `each` meets its contract: at each turn the table holds what is made of the loans passed.
use Rattle.std.proofs.Common.{◌≡◌, map, take}
use Rattle.rules.specs.declared.Loan.{Loan}
use Rattle.tables.specs.Closures.{Gives}
use Rattle.loans.specs.Held.{loans_table}
use Rattle.loans.proofs.each.Given as goal

abbrev pub invariant-loop-loan : goal.invariant-loop-loan
invariant-loop-loan g l =
    (to : Loan → Loan) → Gives g.F.Fn l.change to → l.made ≡ loans_table (take l.loan-index (map to l.loan-items))
