-- `change_app` meets its contract: the closure gives each entry changed.
use Rattle.std.proofs.Common.{rules}
use Rattle.tables.specs.Changing.{changed_at}
use Rattle.tables.specs.Changing.{change_app}
use Rattle.tables.proofs.change_app.Goals as goal

pub returns : goal.returns
unfolding change_app
returns c = c.changed.ensures (changed_at c.args.number c.args.change c.args.member) (λ x r k. search rules)
