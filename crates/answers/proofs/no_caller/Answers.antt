-- `no_caller` meets its contract: a caller that is not the person has to run.
use Rattle.std.proofs.Common.{[], ◌∙◌}
use borrow.Author.Tests.{eq-eqb, ne_eqb}
use Rattle.answers.proofs.Conditions.{runner-missing}
use Rattle.answers.proofs.no_caller.Goals as goal

pub returns-then-caller-ne0 : goal.returns-then-caller-ne0
returns-then-caller-ne0 c =
    runner-missing c.args.d [] c.args.caller c.runner.ensures c.is_none.ensures ∙ rw (ne_eqb _ _ c.if-caller-ne0.true)

pub returns-else-caller-ne0 : goal.returns-else-caller-ne0
returns-else-caller-ne0 c = rw (eq-eqb _ _ c.if-caller-ne0.false)
