-- `grant_group` meets its contract: the conditions come in the order of the refusals.
use Rattle.std.proofs.Common.{not, ap, sym, refl, ◌∙◌, []}
use Rattle.rules.specs.declared.Reason.TheVariants.{AlreadyThere, NoSuchApp, Undefined, CannotBeGranted}
use Rattle.rules.specs.Refusals.{refusals}
use Rattle.rules.specs.Answer.{answer, ground_for, value_for}
use Rattle.state.specs.Stored.{model_of}
use Rattle.state.specs.Tables.{view_of}
use Rattle.answers.specs.AnsweringLaws.{ends, passes, refuses as is_refused}
use Rattle.answers.specs.GroundsLaws.{gone, there, test-some}
use Rattle.answers.proofs.Conditions.{app-is, app-none, got, missed, refuses}
use Rattle.answers.proofs.grant_group.Goals as goal

pub returns-then-grouped : goal.returns-then-grouped
unfolding answer refusals view_of model_of
returns-then-grouped c = is_refused AlreadyThere _ _ c.grouped.ensures c.if-grouped.true

pub returns-in_err-app : goal.returns-in_err-app
unfolding answer refusals view_of model_of
returns-in_err-app c =
    let d = c.args.d in
    let app = missed c.ok_or.ensures.ok_part c.in_err-app.was in
    refuses _ _ c.ok_or.ensures.value c.in_err-app.was c.from_residual.ensures.1
    ∙ is_refused NoSuchApp _ _ (sym (gone (app-none d [] c.args.app c.app_of.ensures app))) refl
    ∙ passes AlreadyThere _ _ c.grouped.ensures c.if-grouped.false

pub returns-then-not-is_group : goal.returns-then-not-is_group
unfolding answer refusals view_of model_of
returns-then-not-is_group c =
    let d = c.args.d in
    let app = app-is d [] c.args.app c.app_of.ensures (got c.ok_or.ensures.ok_part c.in_ok-app.was) in
    is_refused Undefined _ _ (ap not c.is_group.ensures) (ap not c.if-not-is_group.true)
    ∙ passes NoSuchApp _ _ (sym (there app)) refl
    ∙ passes AlreadyThere _ _ c.grouped.ensures c.if-grouped.false

pub returns-then-not-groupable : goal.returns-then-not-groupable
unfolding answer refusals view_of model_of
returns-then-not-groupable c =
    let d = c.args.d in
    let app = app-is d [] c.args.app c.app_of.ensures (got c.ok_or.ensures.ok_part c.in_ok-app.was) in
    is_refused CannotBeGranted [] _ (ap not c.groupable.ensures ∙ test-some _ _ app) (ap not c.if-not-groupable.true)
    ∙ passes Undefined _ _ (ap not c.is_group.ensures) (ap not c.if-not-is_group.false)
    ∙ passes NoSuchApp _ _ (sym (there app)) refl
    ∙ passes AlreadyThere _ _ c.grouped.ensures c.if-grouped.false

pub returns : goal.returns
unfolding answer refusals view_of model_of ground_for value_for
returns c =
    let d = c.args.d in
    let app = app-is d [] c.args.app c.app_of.ensures (got c.ok_or.ensures.ok_part c.in_ok-app.was) in
    c.done.ensures
    ∙ ends
    ∙ passes CannotBeGranted [] _ (ap not c.groupable.ensures ∙ test-some _ _ app) (ap not c.if-not-groupable.false)
    ∙ passes Undefined _ _ (ap not c.is_group.ensures) (ap not c.if-not-is_group.false)
    ∙ passes NoSuchApp _ _ (sym (there app)) refl
    ∙ passes AlreadyThere _ _ c.grouped.ensures c.if-grouped.false
