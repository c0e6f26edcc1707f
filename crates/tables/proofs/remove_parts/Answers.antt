-- `remove_parts` meets its contract: the closure tells the components of other apps.
use Rattle.std.proofs.Common.{rules, not, eqb}
use Rattle.state.proofs.Zeros.{part-zero}
use borrow.Author.Tests.{tests}
use Rattle.rules.specs.declared.Part.{Part}
use Rattle.tables.proofs.remove_parts.Goals as goal

pub returns : goal.returns
returns c =
    rw (← part-zero c.default.result c.default.ensures)
    (c.kept.ensures (λ (k : Part). not (eqb k.app c.args.app)) (λ x r k. search (rules, tests)))
