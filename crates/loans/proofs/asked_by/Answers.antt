-- `asked_by` meets its contract: each code has its case.
use Rattle.std.proofs.Common.{arith, sym}
use Rattle.rules.specs.Lists.{find, map_option}
use Rattle.loans.specs.Asked.{asked_by, cases}
use Rattle.loans.specs.AskedLaws.{asks_nothing}
use Rattle.loans.proofs.asked_by.Goals as goal

pub returns-in-1 : goal.returns-in-1
unfolding asked_by map_option find cases
returns-in-1 c = rw c.in-1.is

pub returns-in-2 : goal.returns-in-2
unfolding asked_by map_option find cases
returns-in-2 c = rw c.in-2.is

pub returns-in-3 : goal.returns-in-3
unfolding asked_by map_option find cases
returns-in-3 c = rw c.in-3.is

pub returns-in-4 : goal.returns-in-4
unfolding asked_by map_option find cases
returns-in-4 c = rw c.in-4.is

pub returns-in-5 : goal.returns-in-5
unfolding asked_by map_option find cases
returns-in-5 c = rw c.in-5.is

pub returns-in-6 : goal.returns-in-6
unfolding asked_by map_option find cases
returns-in-6 c = rw c.in-6.is

pub returns-in-7 : goal.returns-in-7
unfolding asked_by map_option find cases
returns-in-7 c = rw c.in-7.is

pub returns-in-8 : goal.returns-in-8
unfolding asked_by map_option find cases
returns-in-8 c = rw c.in-8.is

pub returns-in-9 : goal.returns-in-9
unfolding asked_by map_option find cases
returns-in-9 c = rw c.in-9.is

pub returns-in-10 : goal.returns-in-10
unfolding asked_by map_option find cases
returns-in-10 c = rw c.in-10.is

pub returns-in-11 : goal.returns-in-11
unfolding asked_by map_option find cases
returns-in-11 c = rw c.in-11.is

pub returns-in-12 : goal.returns-in-12
unfolding asked_by map_option find cases
returns-in-12 c = rw c.in-12.is

pub returns-in-13 : goal.returns-in-13
unfolding asked_by map_option find cases
returns-in-13 c = rw c.in-13.is

pub returns-in-14 : goal.returns-in-14
unfolding asked_by map_option find cases
returns-in-14 c = rw c.in-14.is

pub returns-in_default : goal.returns-in_default
returns-in_default c = sym (asks_nothing c.args.r (λ low high. omega arith))
