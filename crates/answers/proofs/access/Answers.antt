-- `access` meets its contract: the conditions come in the order of the refusals.
use Rattle.std.proofs.Common.{◌≡◌, cond, not, sym, refl, ◌∙◌}
use Rattle.rules.specs.Lists.{is_some, missing, test, bind, map_option, or_else}
use Rattle.rules.specs.declared.Reason.TheVariants.{NoSuchComponent, NoSuchInstance, NoSuchResource, NotPermitted}
use Rattle.rules.specs.Grounds.{is_ground, ground_of}
use Rattle.rules.specs.Answer.{done, refused, decide}
use Rattle.tables.specs.Looking.{op_of}
use Rattle.answers.specs.Answering.{access_in, view_in}
use Rattle.answers.specs.AnsweringLaws.{passes, refuses as is_refused}
use Rattle.answers.specs.GroundsLaws.{gone, there}
use Rattle.answers.proofs.Grounds.{none-is}
use Rattle.answers.proofs.Conditions.{got, missed, provider-is, provider-none}
use Rattle.answers.proofs.Conditions.{refuses, runner-is, runner-none, value-is, value-none}
use Rattle.answers.proofs.access.Goals as goal
use Rattle.answers.proofs.access.Goals.{After-ground_of-ground}

pub returns-in_err-part : goal.returns-in_err-part
unfolding access_in
returns-in_err-part c =
    let a = c.args in
    let part = missed c.ok_or.ensures.ok_part c.in_err-part.was in
    refuses _ _ c.ok_or.ensures.value c.in_err-part.was c.from_residual.ensures.1
    ∙ is_refused NoSuchComponent _ _ (sym (gone (provider-none a.d a.lent a.provider c.provider_of.ensures part))) refl

pub returns-in_err-app : goal.returns-in_err-app
unfolding access_in
returns-in_err-app c =
    let a = c.args in
    let part = got c.ok_or.ensures.ok_part c.in_ok-part.was in
    let app = missed c.ok_or-2.ensures.ok_part c.in_err-app.was in
    refuses _ _ c.ok_or-2.ensures.value c.in_err-app.was c.from_residual-in_err-app.ensures.1
    ∙ is_refused NoSuchInstance _ _ (sym (gone (runner-none a.d a.lent a.instance c.runner.ensures app))) refl
    ∙ passes NoSuchComponent _ _ (sym (there (provider-is a.d a.lent a.provider c.provider_of.ensures part))) refl

pub returns-in_default : goal.returns-in_default
unfolding access_in
returns-in_default c =
    let a = c.args in
    let part = got c.ok_or.ensures.ok_part c.in_ok-part.was in
    let app = got c.ok_or-2.ensures.ok_part c.in_ok-app.was in
    let value = value-none a.d a.lent a.provider a.uri c.resource_of.ensures c.in_default.is in
    is_refused NoSuchResource _ _ (sym (gone value)) refl
    ∙ passes NoSuchInstance _ _ (sym (there (runner-is a.d a.lent a.instance c.runner.ensures app))) refl
    ∙ passes NoSuchComponent _ _ (sym (there (provider-is a.d a.lent a.provider c.provider_of.ensures part))) refl

-- where the ground is told, the resource has been found
found : (c : After-ground_of-ground) → let a = c.args in
    access_in (view_in a.d a.lent) a.provider a.instance a.uri (op_of a.operation)
    ≡ cond (not (is_ground c.ground_of-ground.result)) (refused NotPermitted)
    (done c.ground_of-ground.result c.in-Some.resource.value)
unfolding access_in decide missing is_some test ground_of bind map_option or_else
found c =
    let d = c.args.d in
    let lent = c.args.lent in
    let part = got c.ok_or.ensures.ok_part c.in_ok-part.was in
    let app = got c.ok_or-2.ensures.ok_part c.in_ok-app.was in
    rw (
      provider-is d lent c.args.provider c.provider_of.ensures part,
      runner-is d lent c.args.instance c.runner.ensures app,
      value-is d lent c.args.provider c.args.uri c.resource_of.ensures c.in-Some.is,
      ← c.ground_of-ground.ensures,
    )

pub returns-then-eq : goal.returns-then-eq
returns-then-eq c =
    let path = goal.at.returns-then-eq c in
    sym (found path.After-ground_of-ground ∙ rw (← none-is c.ground_of-ground.result, sym c.eq.ensures ∙ c.if-eq.true))

pub returns : goal.returns
returns c =
    let path = goal.at.returns c in
    sym (found path.After-ground_of-ground ∙ rw (← none-is c.ground_of-ground.result, sym c.eq.ensures ∙ c.if-eq.false))
