-- `grant` meets its contract: the conditions come in the order of the refusals.
use Rattle.std.proofs.Common.{not, ap, sym, refl, ◌∙◌, []}
use Rattle.rules.specs.declared.Reason.TheVariants.{AlreadyThere, NoSuchApp, Undefined, CannotBeGranted}
use Rattle.rules.specs.Refusals.{refusals}
use Rattle.rules.specs.Answer.{answer, ground_for, value_for}
use Rattle.state.specs.Stored.{model_of}
use Rattle.state.specs.Tables.{view_of}
use Rattle.answers.specs.AnsweringLaws.{ends, passes, refuses as is_refused}
use Rattle.answers.specs.GroundsLaws.{gone, there, test-some}
use Rattle.answers.proofs.Conditions.{app-is, app-none, got, known-is, known-none, missed, refuses}
use Rattle.answers.proofs.grant.Goals as goal

pub returns-then-granted : goal.returns-then-granted
unfolding answer refusals view_of model_of
returns-then-granted c = is_refused AlreadyThere _ _ c.granted.ensures c.if-granted.true

pub returns-in_err-app : goal.returns-in_err-app
unfolding answer refusals view_of model_of
returns-in_err-app c =
    let d = c.args.d in
    let app = missed c.ok_or.ensures.ok_part c.in_err-app.was in
    refuses _ _ c.ok_or.ensures.value c.in_err-app.was c.from_residual.ensures.1
    ∙ is_refused NoSuchApp _ _ (sym (gone (app-none d [] c.args.app c.app_of.ensures app))) refl
    ∙ passes AlreadyThere _ _ c.granted.ensures c.if-granted.false

pub returns-in_err-known : goal.returns-in_err-known
unfolding answer refusals view_of model_of
returns-in_err-known c =
    let d = c.args.d in
    let app = got c.ok_or.ensures.ok_part c.in_ok-app.was in
    let known = missed c.ok_or-2.ensures.ok_part c.in_err-known.was in
    refuses _ _ c.ok_or-2.ensures.value c.in_err-known.was c.from_residual-in_err-known.ensures.1
    ∙ is_refused Undefined _ _ (sym (gone (known-none d [] c.args.permission c.known_of.ensures known))) refl
    ∙ passes NoSuchApp _ _ (sym (there (app-is d [] c.args.app c.app_of.ensures app))) refl
    ∙ passes AlreadyThere _ _ c.granted.ensures c.if-granted.false

pub returns-then-not-grantable : goal.returns-then-not-grantable
unfolding answer refusals view_of model_of
returns-then-not-grantable c =
    let d = c.args.d in
    let app = app-is d [] c.args.app c.app_of.ensures (got c.ok_or.ensures.ok_part c.in_ok-app.was) in
    let known = known-is d [] c.args.permission c.known_of.ensures (got c.ok_or-2.ensures.ok_part c.in_ok-known.was) in
    is_refused CannotBeGranted [] _ (ap not c.grantable.ensures ∙ test-some _ _ known ∙ test-some _ _ app)
    (ap not c.if-not-grantable.true)
    ∙ passes Undefined _ _ (sym (there known)) refl
    ∙ passes NoSuchApp _ _ (sym (there app)) refl
    ∙ passes AlreadyThere _ _ c.granted.ensures c.if-granted.false

pub returns : goal.returns
unfolding answer refusals view_of model_of ground_for value_for
returns c =
    let d = c.args.d in
    let app = app-is d [] c.args.app c.app_of.ensures (got c.ok_or.ensures.ok_part c.in_ok-app.was) in
    let known = known-is d [] c.args.permission c.known_of.ensures (got c.ok_or-2.ensures.ok_part c.in_ok-known.was) in
    c.done.ensures
    ∙ ends
    ∙ passes CannotBeGranted [] _ (ap not c.grantable.ensures ∙ test-some _ _ known ∙ test-some _ _ app)
    (ap not c.if-not-grantable.false)
    ∙ passes Undefined _ _ (sym (there known)) refl
    ∙ passes NoSuchApp _ _ (sym (there app)) refl
    ∙ passes AlreadyThere _ _ c.granted.ensures c.if-granted.false
