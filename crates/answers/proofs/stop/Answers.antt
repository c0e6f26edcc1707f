-- `stop` meets its contract: the instance has to run.
use Rattle.std.proofs.Common.{◌∙◌, [], refl, sym}
use Rattle.rules.specs.declared.Reason.TheVariants.{NoSuchInstance}
use Rattle.rules.specs.Refusals.{refusals}
use Rattle.rules.specs.Answer.{answer, ground_for, value_for}
use Rattle.answers.specs.AnsweringLaws.{ends, passes, refuses as is_refused}
use Rattle.answers.specs.GroundsLaws.{gone, there}
use Rattle.answers.proofs.Conditions.{got, instance-is, instance-none, missed, refuses}
use Rattle.answers.proofs.stop.Goals as goal

pub returns-in_err-ok_or : goal.returns-in_err-ok_or
unfolding answer refusals
returns-in_err-ok_or c =
    let d = c.args.d in
    let stopped = missed c.ok_or.ensures.ok_part c.in_err-ok_or.was in
    let none = instance-none d [] c.args.instance c.instance_of.ensures stopped in
    refuses _ _ c.ok_or.ensures.value c.in_err-ok_or.was c.from_residual.ensures.1
    ∙ is_refused NoSuchInstance [] _ (sym (gone none)) refl

pub returns : goal.returns
unfolding answer refusals ground_for value_for
returns c =
    let d = c.args.d in
    let running = got c.ok_or.ensures.ok_part c.in_ok-ok_or.was in
    c.done.ensures
    ∙ ends
    ∙ passes NoSuchInstance [] _ (sym (there (instance-is d [] c.args.instance c.instance_of.ensures running))) refl
