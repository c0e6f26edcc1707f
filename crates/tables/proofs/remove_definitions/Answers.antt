-- `remove_definitions` meets its contract: the closure tells the definitions of other apps.
use Rattle.std.proofs.Common.{rules, not, eqb}
use Rattle.state.proofs.Zeros.{definition-zero}
use borrow.Author.Tests.{tests}
use Rattle.rules.specs.declared.Definition.{Definition}
use Rattle.tables.proofs.remove_definitions.Goals as goal

pub returns : goal.returns
returns c =
    rw (← definition-zero c.default.result c.default.ensures)
    (c.kept.ensures (λ (d : Definition). not (eqb d.app c.args.app)) (λ x r k. search (rules, tests)))
