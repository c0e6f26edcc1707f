-- `ground_right` meets its contract: the owner first, then an exported provider whose permission allows it.
use Rattle.std.proofs.Common.{sym, ◌∙◌}
use borrow.Author.Tests.{eq-eqb, ne_eqb}
use Rattle.rules.specs.Grounds.{right_ground}
use Rattle.tables.proofs.ground_right.Goals as goal

pub returns-then-app-provider : goal.returns-then-app-provider
unfolding right_ground
returns-then-app-provider c = rw (eq-eqb _ _ c.if-app-provider.true)

pub returns-then-c-ne1 : goal.returns-then-c-ne1
unfolding right_ground
returns-then-c-ne1 c = rw (ne_eqb _ _ c.if-app-provider.false, ne_eqb _ _ c.if-c-ne1.true)

pub returns-then-allows : goal.returns-then-allows
unfolding right_ground
returns-then-allows c =
    rw (
      ne_eqb _ _ c.if-app-provider.false,
      eq-eqb _ _
          c.if-c-ne1.false,
      ← c.permission_for-p.ensures,
      sym
          c.allows.ensures ∙ c.if-allows.true,
    )

pub returns : goal.returns
unfolding right_ground
returns c =
    rw (
      ne_eqb _ _ c.if-app-provider.false,
      eq-eqb _ _
          c.if-c-ne1.false,
      ← c.permission_for-p.ensures,
      sym
          c.allows.ensures ∙ c.if-allows.false,
    )
