-- `allows` meets its contract: 0 needs nothing, and any other permission has to be held.
use Rattle.std.proofs.Common.{◌∙◌}
use borrow.Author.Tests.{eq-eqb, ne_eqb}
use Rattle.rules.specs.Permissions.{allows}
use Rattle.tables.proofs.allows.Goals as goal

pub returns-then-permission-eq0 : goal.returns-then-permission-eq0
unfolding allows
returns-then-permission-eq0 c = rw (eq-eqb _ _ c.if-permission-eq0.true)

pub returns-else-permission-eq0 : goal.returns-else-permission-eq0
unfolding allows
returns-else-permission-eq0 c = c.holds.ensures ∙ rw (ne_eqb _ _ c.if-permission-eq0.false, c.from.ensures)
