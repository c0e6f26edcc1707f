-- `put` meets its contract: the value of the one resource, and any other as it is.
use Rattle.std.proofs.Common.{sym, ◌∙◌}
use Rattle.state.specs.Effects.{put}
use Rattle.tables.proofs.put.Goals as goal

pub returns-then-is_resource : goal.returns-then-is_resource
unfolding put
returns-then-is_resource c = rw (sym c.is_resource.ensures ∙ c.if-is_resource.true)

pub returns : goal.returns
unfolding put
returns c = rw (sym c.is_resource.ensures ∙ c.if-is_resource.false)
