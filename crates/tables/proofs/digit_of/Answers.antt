-- `digit_of` meets its contract: the digit of an instance's number is a power of 2, and any other number has none.
use Rattle.std.proofs.Common.{◌-◌, ◌≡◌, sym, ap, ◌∙◌, arith}
use lib.Pow.{shl_exact}
use Rattle.tables.specs.Running.{digit_of}
use Rattle.tables.specs.RunningLaws.{digit-inside, digit-none, digit-past}
use Rattle.tables.proofs.digit_of.Goals as goal

pub returns-in-1-to-64 : goal.returns-in-1-to-64
returns-in-1-to-64 c =
    let n = c.args.number in
    rw (digit-inside n (omega arith) (omega arith)) (shl_exact 1 (n - 1) 64 (omega arith) (omega arith) ∙ omega arith)

pub returns-in_default : goal.returns-in_default
returns-in_default c = let none : c.args.number ≡ 0 = omega arith in sym (ap digit_of none ∙ digit-none)

pub returns-in_default-2 : goal.returns-in_default-2
returns-in_default-2 c = sym (digit-past c.args.number (omega arith))
