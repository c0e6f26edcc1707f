-- `lend` meets its contract: the conditions come in the order of the refusals.
use Rattle.std.proofs.Common.{◌≡◌, ◌&&◌, ◌||◌, cond, not, eqb, leb, ap, sym, ◌∙◌}
use Rattle.rules.specs.declared.Ground.TheVariants.{Nothing}
use Rattle.rules.specs.declared.Reason.TheVariants.{MalformedAction, NotPermitted, NoRoom}
use Rattle.rules.specs.Limits.{large}
use Rattle.rules.specs.Action.{on_loans, lend}
use Rattle.rules.specs.Lists.{is_some, missing, test, bind, map_option}
use Rattle.rules.specs.Grounds.{ground_of}
use Rattle.rules.specs.Refusals.{lacking, lent_any, refusals}
use Rattle.rules.specs.Answer.{done, refused, decide, answer, ground_for, value_for}
use Rattle.state.specs.Stored.{model_of}
use Rattle.state.specs.Tables.{view_of}
use Rattle.tables.specs.Looking.{receiver_of}
use Rattle.answers.specs.Answering.{view_in}
use Rattle.answers.specs.AnsweringLaws.{refuses as is_refused}
use Rattle.answers.proofs.Conditions.{got, missed, provider-is, provider-none, receiving-app}
use Rattle.answers.proofs.Conditions.{receiving-instance, refuses, runner-is, runner-none, value-is, value-none}
use Rattle.answers.proofs.lend.Goals as goal
use Rattle.answers.proofs.lend.Goals.{After-lacking}

pub returns-then-not-is_operations : goal.returns-then-not-is_operations
unfolding answer refusals
returns-then-not-is_operations c =
    is_refused MalformedAction _ _ (ap not c.is_operations.ensures) (ap not c.if-not-is_operations.true)

pub returns-then-no_receiving_app : goal.returns-then-no_receiving_app
unfolding answer refusals decide missing is_some
returns-then-no_receiving_app c =
    let d = c.args.d in
    let lent = c.args.lent in
    rw (
      sym c.is_operations.ensures ∙ c.if-not-is_operations.false,
      sym (c.no_receiving_app.ensures ∙ receiving-app d lent _) ∙ c.if-no_receiving_app.true,
    )

pub returns-in_err-part : goal.returns-in_err-part
unfolding answer refusals decide missing is_some
returns-in_err-part c =
    let d = c.args.d in
    let lent = c.args.lent in
    let part = missed c.ok_or.ensures.ok_part c.in_err-part.was in
    refuses _ _ c.ok_or.ensures.value c.in_err-part.was c.from_residual.ensures.1
    ∙ rw (
      sym c.is_operations.ensures ∙ c.if-not-is_operations.false,
      sym (c.no_receiving_app.ensures ∙ receiving-app d lent _) ∙ c.if-no_receiving_app.false,
      provider-none d lent c.args.provider c.provider_of.ensures part,
    )

pub returns-in_err-app : goal.returns-in_err-app
unfolding answer refusals decide missing is_some
returns-in_err-app c =
    let d = c.args.d in
    let lent = c.args.lent in
    let part = got c.ok_or.ensures.ok_part c.in_ok-part.was in
    let app = missed c.ok_or-2.ensures.ok_part c.in_err-app.was in
    refuses _ _ c.ok_or-2.ensures.value c.in_err-app.was c.from_residual-in_err-app.ensures.1
    ∙ rw (
      sym c.is_operations.ensures ∙ c.if-not-is_operations.false,
      sym (c.no_receiving_app.ensures ∙ receiving-app d lent _) ∙ c.if-no_receiving_app.false,
      provider-is d lent c.args.provider c.provider_of.ensures part,
      runner-none d lent c.args.instance c.runner.ensures app,
    )

pub returns-then-no_receiving_instance : goal.returns-then-no_receiving_instance
unfolding answer refusals decide missing is_some
returns-then-no_receiving_instance c =
    let d = c.args.d in
    let lent = c.args.lent in
    let part = got c.ok_or.ensures.ok_part c.in_ok-part.was in
    let app = got c.ok_or-2.ensures.ok_part c.in_ok-app.was in
    rw (
      sym c.is_operations.ensures ∙ c.if-not-is_operations.false,
      sym (c.no_receiving_app.ensures ∙ receiving-app d lent _) ∙ c.if-no_receiving_app.false,
      provider-is d lent c.args.provider c.provider_of.ensures part,
      runner-is d lent c.args.instance c.runner.ensures app,
      sym (c.no_receiving_instance.ensures ∙ receiving-instance d lent _) ∙ c.if-no_receiving_instance.true,
    )

pub returns-in_err-ok_or : goal.returns-in_err-ok_or
unfolding answer refusals decide missing is_some
returns-in_err-ok_or c =
    let d = c.args.d in
    let lent = c.args.lent in
    let part = got c.ok_or.ensures.ok_part c.in_ok-part.was in
    let app = got c.ok_or-2.ensures.ok_part c.in_ok-app.was in
    let resource = missed c.ok_or-3.ensures.ok_part c.in_err-ok_or.was in
    refuses _ _ c.ok_or-3.ensures.value c.in_err-ok_or.was c.from_residual-in_err-ok_or.ensures.1
    ∙ rw (
      sym c.is_operations.ensures ∙ c.if-not-is_operations.false,
      sym (c.no_receiving_app.ensures ∙ receiving-app d lent _) ∙ c.if-no_receiving_app.false,
      provider-is d lent c.args.provider c.provider_of.ensures part,
      runner-is d lent c.args.instance c.runner.ensures app,
      sym (c.no_receiving_instance.ensures ∙ receiving-instance d lent _) ∙ c.if-no_receiving_instance.false,
      value-none d lent c.args.provider c.args.uri c.resource_of.ensures resource,
    )

-- where the rights have been asked, the resource has been found: they are left, and the room
reached : (c : After-lacking) → let a = c.args in
    let v = view_in a.d a.lent in
    let r = receiver_of a.receiver in
    answer large v (on_loans (lend a.operations a.provider a.instance a.uri r))
    ≡ cond (not (eqb c.in_ok-part.part.component.shares 1) || c.lacking.result) (refused NotPermitted)
    (cond (not (lent_any v r a.provider a.uri) && leb 128 v.loans) (refused NoRoom) (done Nothing 0))
unfolding answer refusals decide missing is_some test lacking ground_of bind map_option ground_for value_for
reached c =
    let d = c.args.d in
    let lent = c.args.lent in
    let part = got c.ok_or.ensures.ok_part c.in_ok-part.was in
    let app = got c.ok_or-2.ensures.ok_part c.in_ok-app.was in
    let resource = got c.ok_or-3.ensures.ok_part c.in_ok-ok_or.was in
    rw (
      sym c.is_operations.ensures ∙ c.if-not-is_operations.false,
      sym (c.no_receiving_app.ensures ∙ receiving-app d lent _) ∙ c.if-no_receiving_app.false,
      provider-is d lent c.args.provider c.provider_of.ensures part,
      runner-is d lent c.args.instance c.runner.ensures app,
      sym (c.no_receiving_instance.ensures ∙ receiving-instance d lent _) ∙ c.if-no_receiving_instance.false,
      value-is d lent c.args.provider c.args.uri c.resource_of.ensures resource,
      ← c.ground_of-read.ensures,
      ← c.ground_of-write.ensures,
      ← c.lacking.ensures,
    )

pub returns-then-part-lacking : goal.returns-then-part-lacking
returns-then-part-lacking c =
    let path = goal.at.returns-then-part-lacking c in
    sym (reached path.After-lacking ∙ rw c.if-part-lacking.true)

pub returns-then-lent_any-is_full : goal.returns-then-lent_any-is_full
unfolding view_of model_of
returns-then-lent_any-is_full c =
    let path = goal.at.returns-then-lent_any-is_full c in
    sym
    (reached path.After-lacking
    ∙ rw (c.if-part-lacking.false, ← c.lent_any.ensures, ← c.is_full.ensures, c.if-lent_any-is_full.true))

pub returns : goal.returns
unfolding view_of model_of
returns c =
    let path = goal.at.returns c in
    c.done.ensures
    ∙ sym
    (reached path.After-lacking
    ∙ rw (c.if-part-lacking.false, ← c.lent_any.ensures, ← c.is_full.ensures, c.if-lent_any-is_full.false))
