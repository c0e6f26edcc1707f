-- `on_withdraw` meets its contract: a refusal leaves all, and else the loans left are those of the next state.
use Rattle.monitor.proofs.Kit.{refl, ◌∙◌, kept, refused-stays, loans-steps, withdraw-unasked}
use Rattle.rules.specs.Action.{withdraw}
use Rattle.state.specs.Effects.{loans_after}
use Rattle.state.specs.Stored.{model_of}
use Rattle.monitor.proofs.on_withdraw.Goals as goal

pub returns-in-Err : goal.returns-in-Err
returns-in-Err c =
    c.unchanged.ensures
    ∙ refused-stays _ _ _ _ _ (kept c.args.on c.well_formed.0)
    (c.withdraw-answer.ensures ∙ withdraw-unasked c.args.on.device c.args.on.lent _ _ _ _) c.in-Err.is

pub returns-in-Ok : goal.returns-in-Ok
unfolding loans_after model_of
returns-in-Ok c =
    c.with_loans.ensures
    ∙ loans-steps _ _ (kept c.args.on c.well_formed.0) _ _ _ c.in-Ok.is
    (withdraw c.args.operations c.args.provider c.args.instance c.args.uri)
    (c.withdraw-answer.ensures ∙ withdraw-unasked c.args.on.device c.args.on.lent _ _ _ _) _
    (let e = c.reduce_withdraw-left.ensures in rw c.loans.ensures at e) _ refl
