-- `start` meets its contract: the conditions come in the order of the refusals.
use Rattle.std.proofs.Common.{ap, sym, refl, ◌∙◌, [], arith}
use Rattle.rules.specs.declared.Ground.TheVariants.{Nothing}
use Rattle.rules.specs.declared.Reason.TheVariants.{NoSuchComponent, NoSuchInstance, NotPermitted, NoRoom}
use Rattle.rules.specs.Lists.{or_else}
use Rattle.rules.specs.Answer.{done}
use Rattle.answers.specs.AnsweringLaws.{ends, passes, refuses as is_refused}
use Rattle.answers.specs.GroundsLaws.{gone, there, test-some}
use Rattle.answers.specs.Starting.{start_with}
use Rattle.answers.specs.StartingLaws.{is_free, none_free}
use Rattle.answers.proofs.Conditions.{got, missed, refuses, startable-is, startable-none}
use Rattle.answers.proofs.start.Goals as goal

pub returns-in_err-part : goal.returns-in_err-part
unfolding start_with
returns-in_err-part c =
    let d = c.args.d in
    let part = missed c.ok_or.ensures.ok_part c.in_err-part.was in
    refuses _ _ c.ok_or.ensures.value c.in_err-part.was c.from_residual.ensures.1
    ∙ is_refused NoSuchComponent _ _ (sym (gone (startable-none d [] c.args.component c.startable.ensures part))) refl

pub returns-then-no_caller : goal.returns-then-no_caller
unfolding start_with
returns-then-no_caller c =
    let d = c.args.d in
    let found = got c.ok_or.ensures.ok_part c.in_ok-part.was in
    let part = startable-is d [] c.args.component c.startable.ensures found in
    is_refused NoSuchInstance _ _ c.no_caller.ensures c.if-no_caller.true
    ∙ passes NoSuchComponent _ _ (sym (there part)) refl

pub returns-then-barred : goal.returns-then-barred
unfolding start_with
returns-then-barred c =
    let d = c.args.d in
    let found = got c.ok_or.ensures.ok_part c.in_ok-part.was in
    let part = startable-is d [] c.args.component c.startable.ensures found in
    is_refused NotPermitted _ _ (c.barred.ensures ∙ test-some _ _ part) c.if-barred.true
    ∙ passes NoSuchInstance _ _ c.no_caller.ensures c.if-no_caller.false
    ∙ passes NoSuchComponent _ _ (sym (there part)) refl

pub returns-then-n-gt64 : goal.returns-then-n-gt64
unfolding start_with
returns-then-n-gt64 c =
    let d = c.args.d in
    let found = got c.ok_or.ensures.ok_part c.in_ok-part.was in
    let part = startable-is d [] c.args.component c.startable.ensures found in
    is_refused NoRoom [] _ (sym (gone (none_free _ c.next_number-n.ensures c.if-n-gt64.true))) refl
    ∙ passes NotPermitted _ _ (c.barred.ensures ∙ test-some _ _ part) c.if-barred.false
    ∙ passes NoSuchInstance _ _ c.no_caller.ensures c.if-no_caller.false
    ∙ passes NoSuchComponent _ _ (sym (there part)) refl

pub returns : goal.returns
unfolding start_with or_else
returns c =
    let d = c.args.d in
    let found = got c.ok_or.ensures.ok_part c.in_ok-part.was in
    let part = startable-is d [] c.args.component c.startable.ensures found in
    let free = is_free _ c.next_number-n.ensures (omega (arith, c.if-n-gt64.false)) in
    c.done.ensures
    ∙ ap (λ o. done Nothing (or_else 0 o)) (sym free)
    ∙ ends
    ∙ passes NoRoom [] _ (sym (there free)) refl
    ∙ passes NotPermitted _ _ (c.barred.ensures ∙ test-some _ _ part) c.if-barred.false
    ∙ passes NoSuchInstance _ _ c.no_caller.ensures c.if-no_caller.false
    ∙ passes NoSuchComponent _ _ (sym (there part)) refl
