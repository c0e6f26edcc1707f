-- `revoke_group` meets its contract: the conditions come in the order of the refusals.
use Rattle.std.proofs.Common.{not, ap, sym, refl, ◌∙◌, []}
use Rattle.rules.specs.declared.Reason.TheVariants.{NoSuchApp, Undefined, NothingToTakeBack}
use Rattle.rules.specs.Refusals.{refusals}
use Rattle.rules.specs.Answer.{answer, ground_for, value_for}
use Rattle.state.specs.Stored.{model_of}
use Rattle.state.specs.Tables.{view_of}
use Rattle.answers.specs.AnsweringLaws.{ends, passes, refuses as is_refused}
use Rattle.answers.specs.GroundsLaws.{gone, there}
use Rattle.answers.proofs.Conditions.{app-is, app-none, got, missed, refuses}
use Rattle.answers.proofs.revoke_group.Goals as goal

pub returns-in_err-ok_or : goal.returns-in_err-ok_or
unfolding answer refusals
returns-in_err-ok_or c =
    let d = c.args.d in
    let app = missed c.ok_or.ensures.ok_part c.in_err-ok_or.was in
    refuses _ _ c.ok_or.ensures.value c.in_err-ok_or.was c.from_residual.ensures.1
    ∙ is_refused NoSuchApp _ _ (sym (gone (app-none d [] c.args.app c.app_of.ensures app))) refl

pub returns-then-not-is_group : goal.returns-then-not-is_group
unfolding answer refusals
returns-then-not-is_group c =
    let d = c.args.d in
    let app = got c.ok_or.ensures.ok_part c.in_ok-ok_or.was in
    is_refused Undefined _ _ (ap not c.is_group.ensures) (ap not c.if-not-is_group.true)
    ∙ passes NoSuchApp _ _ (sym (there (app-is d [] c.args.app c.app_of.ensures app))) refl

pub returns-then-not-grouped : goal.returns-then-not-grouped
unfolding answer refusals view_of model_of
returns-then-not-grouped c =
    let d = c.args.d in
    let app = got c.ok_or.ensures.ok_part c.in_ok-ok_or.was in
    is_refused NothingToTakeBack [] _ (ap not c.grouped.ensures) (ap not c.if-not-grouped.true)
    ∙ passes Undefined _ _ (ap not c.is_group.ensures) (ap not c.if-not-is_group.false)
    ∙ passes NoSuchApp _ _ (sym (there (app-is d [] c.args.app c.app_of.ensures app))) refl

pub returns : goal.returns
unfolding answer refusals view_of model_of ground_for value_for
returns c =
    let d = c.args.d in
    let app = got c.ok_or.ensures.ok_part c.in_ok-ok_or.was in
    c.done.ensures
    ∙ ends
    ∙ passes NothingToTakeBack [] _ (ap not c.grouped.ensures) (ap not c.if-not-grouped.false)
    ∙ passes Undefined _ _ (ap not c.is_group.ensures) (ap not c.if-not-is_group.false)
    ∙ passes NoSuchApp _ _ (sym (there (app-is d [] c.args.app c.app_of.ensures app))) refl
