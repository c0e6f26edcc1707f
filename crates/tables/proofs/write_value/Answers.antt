-- `write_value` meets its contract: the closure gives each entry changed.
use Rattle.std.proofs.Common.{rules}
use Rattle.state.specs.Effects.{put}
use Rattle.tables.specs.Changing.{write_value}
use Rattle.tables.proofs.write_value.Goals as goal

pub returns : goal.returns
unfolding write_value
returns c = c.changed.ensures (put c.args.provider c.args.uri c.args.value) (λ x r k. search rules)
