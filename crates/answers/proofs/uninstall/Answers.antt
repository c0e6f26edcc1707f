-- `uninstall` meets its contract: the conditions come in the order of the refusals.
use Rattle.std.proofs.Common.{sym, refl, ◌∙◌, []}
use Rattle.rules.specs.declared.Reason.TheVariants.{NoSuchApp, InUse, PartOfTheImage}
use Rattle.rules.specs.Refusals.{refusals}
use Rattle.rules.specs.Answer.{answer, ground_for, value_for}
use Rattle.answers.specs.AnsweringLaws.{ends, passes, refuses as is_refused}
use Rattle.answers.specs.GroundsLaws.{gone, there, test-some}
use Rattle.answers.proofs.Conditions.{app-is, app-none, got, missed, refuses}
use Rattle.answers.proofs.uninstall.Goals as goal

pub returns-in_err-found : goal.returns-in_err-found
unfolding answer refusals
returns-in_err-found c =
    let d = c.args.d in
    let app = missed c.ok_or.ensures.ok_part c.in_err-found.was in
    refuses _ _ c.ok_or.ensures.value c.in_err-found.was c.from_residual.ensures.1
    ∙ is_refused NoSuchApp _ _ (sym (gone (app-none d [] c.args.app c.app_of.ensures app))) refl

pub returns-then-is_running : goal.returns-then-is_running
unfolding answer refusals
returns-then-is_running c =
    let d = c.args.d in
    let app = got c.ok_or.ensures.ok_part c.in_ok-found.was in
    is_refused InUse _ _ c.is_running.ensures c.if-is_running.true
    ∙ passes NoSuchApp _ _ (sym (there (app-is d [] c.args.app c.app_of.ensures app))) refl

pub returns-then-found : goal.returns-then-found
unfolding answer refusals
returns-then-found c =
    let d = c.args.d in
    let app = app-is d [] c.args.app c.app_of.ensures (got c.ok_or.ensures.ok_part c.in_ok-found.was) in
    is_refused PartOfTheImage [] _ (test-some _ _ app) c.if-found.true
    ∙ passes InUse _ _ c.is_running.ensures c.if-is_running.false
    ∙ passes NoSuchApp _ _ (sym (there app)) refl

pub returns : goal.returns
unfolding answer refusals ground_for value_for
returns c =
    let d = c.args.d in
    let app = app-is d [] c.args.app c.app_of.ensures (got c.ok_or.ensures.ok_part c.in_ok-found.was) in
    c.done.ensures
    ∙ ends
    ∙ passes PartOfTheImage [] _ (test-some _ _ app) c.if-found.false
    ∙ passes InUse _ _ c.is_running.ensures c.if-is_running.false
    ∙ passes NoSuchApp _ _ (sym (there app)) refl
