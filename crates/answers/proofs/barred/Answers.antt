-- `barred` meets its contract: the person and an instance each have their rule.
use Rattle.std.proofs.Common.{[], not, ap, ◌∙◌}
use Rattle.rules.specs.Lists.{test}
use Rattle.rules.specs.Refusals.{barred}
use Rattle.answers.specs.Answering.{view_in}
use Rattle.answers.specs.StartingLaws.{barred-by}
use Rattle.answers.proofs.Conditions.{runner-is, runner-none}
use Rattle.answers.proofs.barred.Goals as goal

pub returns-then-caller-eq0 : goal.returns-then-caller-eq0
unfolding barred
returns-then-caller-eq0 c = ap not c.person_may_start.ensures ∙ rw c.if-caller-eq0.true

pub returns-in-Some : goal.returns-in-Some
unfolding test
returns-in-Some c =
    ap not c.app_may_start.ensures
    ∙ rw (
      barred-by (view_in c.args.d []) c.args.part c.args.caller c.if-caller-eq0.false,
      runner-is c.args.d [] c.args.caller c.runner.ensures c.in-Some.is,
    )

pub returns-in-None : goal.returns-in-None
unfolding test
returns-in-None c =
    rw (
      barred-by (view_in c.args.d []) c.args.part c.args.caller c.if-caller-eq0.false,
      runner-none c.args.d [] c.args.caller c.runner.ensures c.in-None.is,
    )
