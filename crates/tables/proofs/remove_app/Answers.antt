-- `remove_app` meets its contract: the closure tells the apps of other numbers.
use Rattle.std.proofs.Common.{rules, not}
use borrow.Author.Tests.{tests}
use Rattle.state.specs.declared.App.{App}
use Rattle.tables.specs.Finding.{is_app}
use Rattle.tables.proofs.remove_app.Goals as goal

pub returns : goal.returns
returns c =
    rw (← c.default.ensures) (c.kept.ensures (λ (a : App). not (is_app c.args.number a))
    (λ x r k. search (rules, tests)))
