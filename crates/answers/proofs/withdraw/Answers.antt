-- `withdraw` meets its contract: the conditions come in the order of the refusals.
use Rattle.std.proofs.Common.{not, ap, sym, ◌∙◌, []}
use Rattle.rules.specs.declared.Reason.TheVariants.{MalformedAction}
use Rattle.rules.specs.Lists.{is_some, missing, test, bind, map_option}
use Rattle.rules.specs.Permissions.{known, hold, holds, allows}
use Rattle.rules.specs.Grounds.{right_ground, right_of}
use Rattle.rules.specs.Refusals.{lacking, refusals}
use Rattle.rules.specs.Answer.{decide, answer, ground_for, value_for}
use Rattle.state.specs.Stored.{model_of}
use Rattle.state.specs.Tables.{view_of}
use Rattle.tables.specs.Looking.{view_by}
use Rattle.answers.specs.AnsweringLaws.{refuses as is_refused}
use Rattle.answers.proofs.Conditions.{got, missed, provider-is, provider-none}
use Rattle.answers.proofs.Conditions.{refuses, runner-is, runner-none, value-is, value-none}
use Rattle.answers.proofs.withdraw.Goals as goal

pub returns-then-not-is_operations : goal.returns-then-not-is_operations
unfolding answer refusals
returns-then-not-is_operations c =
    is_refused MalformedAction _ _ (ap not c.is_operations.ensures) (ap not c.if-not-is_operations.true)

pub returns-in_err-part : goal.returns-in_err-part
unfolding answer refusals decide missing is_some
returns-in_err-part c =
    let d = c.args.d in
    let part = missed c.ok_or.ensures.ok_part c.in_err-part.was in
    refuses _ _ c.ok_or.ensures.value c.in_err-part.was c.from_residual.ensures.1
    ∙ rw (
      sym c.is_operations.ensures ∙ c.if-not-is_operations.false,
      provider-none d [] c.args.provider c.provider_of.ensures part,
    )

pub returns-in_err-app : goal.returns-in_err-app
unfolding answer refusals decide missing is_some
returns-in_err-app c =
    let d = c.args.d in
    let part = got c.ok_or.ensures.ok_part c.in_ok-part.was in
    let app = missed c.ok_or-2.ensures.ok_part c.in_err-app.was in
    refuses _ _ c.ok_or-2.ensures.value c.in_err-app.was c.from_residual-in_err-app.ensures.1
    ∙ rw (
      sym c.is_operations.ensures ∙ c.if-not-is_operations.false,
      provider-is d [] c.args.provider c.provider_of.ensures part,
      runner-none d [] c.args.instance c.runner.ensures app,
    )

pub returns-in_err-ok_or : goal.returns-in_err-ok_or
unfolding answer refusals decide missing is_some
returns-in_err-ok_or c =
    let d = c.args.d in
    let part = got c.ok_or.ensures.ok_part c.in_ok-part.was in
    let app = got c.ok_or-2.ensures.ok_part c.in_ok-app.was in
    let resource = missed c.ok_or-3.ensures.ok_part c.in_err-ok_or.was in
    refuses _ _ c.ok_or-3.ensures.value c.in_err-ok_or.was c.from_residual-in_err-ok_or.ensures.1
    ∙ rw (
      sym c.is_operations.ensures ∙ c.if-not-is_operations.false,
      provider-is d [] c.args.provider c.provider_of.ensures part,
      runner-is d [] c.args.instance c.runner.ensures app,
      value-none d [] c.args.provider c.args.uri c.resource_of.ensures resource,
    )

pub returns-then-lacking : goal.returns-then-lacking
unfolding answer refusals decide missing is_some view_of model_of test lacking right_of right_ground allows holds hold
    known view_by bind map_option
returns-then-lacking c =
    let d = c.args.d in
    let part = got c.ok_or.ensures.ok_part c.in_ok-part.was in
    let app = got c.ok_or-2.ensures.ok_part c.in_ok-app.was in
    let resource = got c.ok_or-3.ensures.ok_part c.in_ok-ok_or.was in
    rw (
      sym c.is_operations.ensures ∙ c.if-not-is_operations.false,
      provider-is d [] c.args.provider c.provider_of.ensures part,
      runner-is d [] c.args.instance c.runner.ensures app,
      value-is d [] c.args.provider c.args.uri c.resource_of.ensures resource,
      ← c.ground_right-read.ensures,
      ← c.ground_right-write.ensures,
      sym c.lacking.ensures ∙ c.if-lacking.true,
    )

pub returns : goal.returns
unfolding answer refusals decide missing is_some view_of model_of test lacking right_of right_ground allows holds hold
    known view_by bind map_option ground_for value_for
returns c =
    let d = c.args.d in
    let part = got c.ok_or.ensures.ok_part c.in_ok-part.was in
    let app = got c.ok_or-2.ensures.ok_part c.in_ok-app.was in
    let resource = got c.ok_or-3.ensures.ok_part c.in_ok-ok_or.was in
    c.done.ensures
    ∙ rw (
      sym c.is_operations.ensures ∙ c.if-not-is_operations.false,
      provider-is d [] c.args.provider c.provider_of.ensures part,
      runner-is d [] c.args.instance c.runner.ensures app,
      value-is d [] c.args.provider c.args.uri c.resource_of.ensures resource,
      ← c.ground_right-read.ensures,
      ← c.ground_right-write.ensures,
      sym c.lacking.ensures ∙ c.if-lacking.false,
    )
