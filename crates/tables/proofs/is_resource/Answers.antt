-- `is_resource` meets its contract: it is the test itself.
use mathlib.Core.Path.{refl}
use Rattle.state.specs.Tables.{is_resource}
use Rattle.tables.proofs.is_resource.Goals as goal

pub returns : goal.returns
unfolding is_resource
returns c = refl
