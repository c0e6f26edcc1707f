-- `hold_dangerous` meets its contract: the individual grant first, then the group.
use Rattle.std.proofs.Common.{sym, ◌∙◌}
use Rattle.tables.specs.Looking.{hold_dangerous}
use Rattle.tables.proofs.hold_dangerous.Goals as goal

pub returns-then-granted : goal.returns-then-granted
unfolding hold_dangerous
returns-then-granted c = rw (sym c.granted.ensures ∙ c.if-granted.true)

pub returns-then-grouped : goal.returns-then-grouped
unfolding hold_dangerous
returns-then-grouped c =
    rw (
      sym c.granted.ensures ∙ c.if-granted.false,
      ← c.from.ensures,
      sym c.grouped.ensures ∙ c.if-grouped.true,
    )

pub returns : goal.returns
unfolding hold_dangerous
returns c =
    rw (
      sym c.granted.ensures ∙ c.if-granted.false,
      ← c.from.ensures,
      sym c.grouped.ensures ∙ c.if-grouped.false,
    )
