-- `remove_resources` meets its contract: the closure tells the resources of providers that the app does not own.
use Rattle.std.proofs.Common.{rules, not}
use Rattle.state.proofs.Zeros.{resource-zero}
use borrow.Author.Tests.{tests}
use Rattle.manifest.specs.declared.Resource.{Resource}
use Rattle.state.specs.Tables.{owned_by}
use Rattle.tables.specs.Held.{parts_in}
use Rattle.tables.proofs.remove_resources.Goals as goal

pub returns : goal.returns
returns c =
    rw (← resource-zero c.default.result c.default.ensures)
    (c.kept.ensures (λ (x : Resource). not (owned_by (parts_in c.args.parts) c.args.app x.provider))
    (λ x r k. search (rules, tests)))
