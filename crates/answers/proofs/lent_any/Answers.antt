-- `lent_any` meets its contract: a loan that carries reading, or one that carries writing.
use Rattle.std.proofs.Common.{sym, ◌∙◌}
use Rattle.rules.specs.Refusals.{lent_any}
use Rattle.answers.proofs.lent_any.Goals as goal

pub returns-then-is_lent : goal.returns-then-is_lent
unfolding lent_any
returns-then-is_lent c = c.if-is_lent.true ∙ rw (sym c.is_lent.ensures ∙ c.if-is_lent.true)

pub returns-else-is_lent : goal.returns-else-is_lent
unfolding lent_any
returns-else-is_lent c = c.is_lent-else-is_lent.ensures ∙ rw (sym c.is_lent.ensures ∙ c.if-is_lent.false)
