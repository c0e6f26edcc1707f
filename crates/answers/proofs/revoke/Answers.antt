-- `revoke` meets its contract: the conditions come in the order of the refusals.
use Rattle.std.proofs.Common.{not, ap, sym, refl, ◌∙◌, []}
use Rattle.rules.specs.declared.Reason.TheVariants.{NoSuchApp, Undefined, NothingToTakeBack}
use Rattle.rules.specs.Refusals.{refusals}
use Rattle.rules.specs.Answer.{answer, ground_for, value_for}
use Rattle.state.specs.Stored.{model_of}
use Rattle.state.specs.Tables.{view_of}
use Rattle.answers.specs.AnsweringLaws.{ends, passes, refuses as is_refused}
use Rattle.answers.specs.GroundsLaws.{gone, there}
use Rattle.answers.proofs.Conditions.{app-is, app-none, got, known-is, known-none, missed, refuses}
use Rattle.answers.proofs.revoke.Goals as goal

pub returns-in_err-ok_or : goal.returns-in_err-ok_or
unfolding answer refusals
returns-in_err-ok_or c =
    let d = c.args.d in
    let app = missed c.ok_or.ensures.ok_part c.in_err-ok_or.was in
    refuses _ _ c.ok_or.ensures.value c.in_err-ok_or.was c.from_residual.ensures.1
    ∙ is_refused NoSuchApp _ _ (sym (gone (app-none d [] c.args.app c.app_of.ensures app))) refl

pub returns-in_err-ok_or-2 : goal.returns-in_err-ok_or-2
unfolding answer refusals
returns-in_err-ok_or-2 c =
    let d = c.args.d in
    let app = got c.ok_or.ensures.ok_part c.in_ok-ok_or.was in
    let known = missed c.ok_or-2.ensures.ok_part c.in_err-ok_or-2.was in
    refuses _ _ c.ok_or-2.ensures.value c.in_err-ok_or-2.was c.from_residual-in_err-ok_or-2.ensures.1
    ∙ is_refused Undefined _ _ (sym (gone (known-none d [] c.args.permission c.known_of.ensures known))) refl
    ∙ passes NoSuchApp _ _ (sym (there (app-is d [] c.args.app c.app_of.ensures app))) refl

pub returns-then-not-granted : goal.returns-then-not-granted
unfolding answer refusals view_of model_of
returns-then-not-granted c =
    let d = c.args.d in
    let app = got c.ok_or.ensures.ok_part c.in_ok-ok_or.was in
    let known = got c.ok_or-2.ensures.ok_part c.in_ok-ok_or-2.was in
    is_refused NothingToTakeBack [] _ (ap not c.granted.ensures) (ap not c.if-not-granted.true)
    ∙ passes Undefined _ _ (sym (there (known-is d [] c.args.permission c.known_of.ensures known))) refl
    ∙ passes NoSuchApp _ _ (sym (there (app-is d [] c.args.app c.app_of.ensures app))) refl

pub returns : goal.returns
unfolding answer refusals view_of model_of ground_for value_for
returns c =
    let d = c.args.d in
    let app = got c.ok_or.ensures.ok_part c.in_ok-ok_or.was in
    let known = got c.ok_or-2.ensures.ok_part c.in_ok-ok_or-2.was in
    c.done.ensures
    ∙ ends
    ∙ passes NothingToTakeBack [] _ (ap not c.granted.ensures) (ap not c.if-not-granted.false)
    ∙ passes Undefined _ _ (sym (there (known-is d [] c.args.permission c.known_of.ensures known))) refl
    ∙ passes NoSuchApp _ _ (sym (there (app-is d [] c.args.app c.app_of.ensures app))) refl
