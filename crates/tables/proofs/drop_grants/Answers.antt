-- `drop_grants` meets its contract: the closure gives each entry changed.
use Rattle.std.proofs.Common.{rules}
use Rattle.tables.specs.Held.{definitions_in}
use Rattle.tables.specs.Changing.{undefined_grants}
use Rattle.tables.specs.Changing.{drop_grants}
use Rattle.tables.proofs.drop_grants.Goals as goal

pub returns : goal.returns
unfolding drop_grants
returns c = c.changed.ensures (undefined_grants (definitions_in c.args.definitions) c.args.app) (λ x r k. search rules)
