-- `ask` meets its contract: the conditions come in the order of the refusals.
use Rattle.std.proofs.Common.{sym, refl, ◌∙◌, []}
use Rattle.rules.specs.declared.Reason.TheVariants.{NoSuchApp, Undefined}
use Rattle.rules.specs.Lists.{is_some, missing, test}
use Rattle.rules.specs.Permissions.{hold, holds}
use Rattle.rules.specs.Refusals.{refusals}
use Rattle.rules.specs.Answer.{decide, answer, ground_for, value_for}
use Rattle.state.specs.Stored.{model_of}
use Rattle.state.specs.Tables.{view_of}
use Rattle.tables.specs.Looking.{view_by}
use Rattle.answers.specs.AnsweringLaws.{passes, refuses as is_refused}
use Rattle.answers.specs.GroundsLaws.{gone, there}
use Rattle.answers.proofs.Conditions.{app-is, app-none, got, known-is, known-none, missed, refuses}
use Rattle.answers.proofs.ask.Goals as goal

pub returns-in_err-app : goal.returns-in_err-app
unfolding answer refusals
returns-in_err-app c =
    let d = c.args.d in
    let app = missed c.ok_or.ensures.ok_part c.in_err-app.was in
    refuses _ _ c.ok_or.ensures.value c.in_err-app.was c.from_residual.ensures.1
    ∙ is_refused NoSuchApp _ _ (sym (gone (app-none d [] c.args.app c.app_of.ensures app))) refl

pub returns-in_err-known : goal.returns-in_err-known
unfolding answer refusals
returns-in_err-known c =
    let d = c.args.d in
    let app = got c.ok_or.ensures.ok_part c.in_ok-app.was in
    let known = missed c.ok_or-2.ensures.ok_part c.in_err-known.was in
    refuses _ _ c.ok_or-2.ensures.value c.in_err-known.was c.from_residual-in_err-known.ensures.1
    ∙ is_refused Undefined _ _ (sym (gone (known-none d [] c.args.permission c.known_of.ensures known))) refl
    ∙ passes NoSuchApp _ _ (sym (there (app-is d [] c.args.app c.app_of.ensures app))) refl

pub returns : goal.returns
unfolding answer refusals decide missing is_some test view_of model_of ground_for value_for holds hold view_by
returns c =
    let d = c.args.d in
    let app = got c.ok_or.ensures.ok_part c.in_ok-app.was in
    let known = got c.ok_or-2.ensures.ok_part c.in_ok-known.was in
    c.done.ensures
    ∙ rw (
      app-is d [] c.args.app c.app_of.ensures app,
      known-is d [] c.args.permission c.known_of.ensures known,
      c.from.ensures,
      c.is_held-held.ensures,
      c.hold.ensures,
    )
