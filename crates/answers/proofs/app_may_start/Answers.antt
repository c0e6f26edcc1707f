-- `app_may_start` meets its contract: a component of its own app, or an exported one that its permission allows.
use Rattle.std.proofs.Common.{◌∙◌}
use borrow.Author.Tests.{eq-eqb, ne_eqb}
use Rattle.rules.specs.Permissions.{known, hold, holds, allows}
use Rattle.rules.specs.Refusals.{app_may_start}
use Rattle.state.specs.Stored.{model_of}
use Rattle.state.specs.Tables.{view_of}
use Rattle.tables.specs.Looking.{view_by}
use Rattle.answers.proofs.app_may_start.Goals as goal

pub returns-then-app-part : goal.returns-then-app-part
unfolding app_may_start
returns-then-app-part c = rw (eq-eqb _ _ c.if-app-part.true)

pub returns-then-part-eq1 : goal.returns-then-part-eq1
unfolding app_may_start allows holds hold known view_by view_of model_of
returns-then-part-eq1 c = c.allows.ensures ∙ rw (ne_eqb _ _ c.if-app-part.false, eq-eqb _ _ c.if-part-eq1.true)

pub returns-else-part-eq1 : goal.returns-else-part-eq1
unfolding app_may_start
returns-else-part-eq1 c = rw (ne_eqb _ _ c.if-app-part.false, ne_eqb _ _ c.if-part-eq1.false)
