-- `hold` meets its contract: the rule's questions in their order; each level has its half of the rule.
use Rattle.std.proofs.Common.{sym, ◌∙◌, arith}
use borrow.Author.Tests.{ne_eqb}
use Rattle.rules.specs.Permissions.{hold}
use Rattle.state.specs.Tables.{view_of}
use Rattle.tables.specs.Looking.{view_by, hold_dangerous, hold_signature}
use Rattle.tables.proofs.hold.Goals as goal

pub returns-then-not-is_on : goal.returns-then-not-is_on
unfolding hold
returns-then-not-is_on c = rw (sym c.is_on.ensures ∙ c.if-not-is_on.true)

pub returns-in-0 : goal.returns-in-0
unfolding hold
returns-in-0 c = rw (sym c.is_on.ensures ∙ c.if-not-is_on.false, c.in-0.is)

pub returns-in-1 : goal.returns-in-1
unfolding hold view_by view_of hold_dangerous
returns-in-1 c = c.hold_dangerous.ensures ∙ rw (sym c.is_on.ensures ∙ c.if-not-is_on.false, c.in-1.is)

pub returns-in_default : goal.returns-in_default
unfolding hold hold_signature
returns-in_default c =
    let level = c.args.known.level in
    c.hold_signature.ensures
    ∙ rw (
      sym c.is_on.ensures ∙ c.if-not-is_on.false,
      ne_eqb level 0 (λ e. omega arith),
      ne_eqb level 1 (λ e. omega arith),
    )
