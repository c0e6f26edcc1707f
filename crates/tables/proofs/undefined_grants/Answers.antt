-- `undefined_grants` meets its contract: the closure tells the permissions that the app does not define.
use Rattle.std.proofs.Common.{rules, not, ap}
use borrow.Author.Tests.{tests}
use Rattle.state.specs.Tables.{defined_by}
use Rattle.tables.specs.Held.{definitions_in}
use Rattle.tables.specs.Changing.{regrant, undefined_grants}
use Rattle.tables.proofs.undefined_grants.Goals as goal

pub returns : goal.returns
unfolding undefined_grants
returns c =
    ap (regrant c.args.app)
    (c.kept.ensures (λ p. not (defined_by (definitions_in c.args.definitions) c.args.definer p))
    (λ x r k. search (rules, tests)))
