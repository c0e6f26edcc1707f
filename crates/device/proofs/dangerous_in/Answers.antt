-- Each place says what the definitions say of its number.
use Rattle.std.proofs.Common.{rules, arith}
use borrow.Author.Tests.{tests}
use Rattle.tables.specs.Held.{rows_in, definitions_in}
use Rattle.device.specs.Tests.{is_dangerous}
use Rattle.device.proofs.Arrays.{filled}
use Rattle.device.proofs.dangerous_in.Goals as goal

pub returns : goal.returns
returns c =
    filled _ _ (is_dangerous (rows_in c.args.apps) (definitions_in c.args.definitions)) 64 _ 0 64
    c.from_fn.ensures.items.each c.from_fn.ensures.items.long (omega arith) (λ i y q below k. search (rules, tests))
