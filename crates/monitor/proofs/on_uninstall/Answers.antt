-- `on_uninstall` meets its contract: a refusal leaves all, and else the tables and the loans left are those of the
-- next state.
use Rattle.monitor.proofs.Kit.{ap, ◌∙◌, kept, refused-stays, uninstall-steps, apps-unasked}
use Rattle.state.specs.Effects.{loans_after}
use Rattle.state.specs.Stored.{model_of}
use Rattle.state.specs.declared.Device.{Device}
use Rattle.monitor.specs.Made.{with_lent}
use Rattle.monitor.proofs.on_uninstall.Goals as goal

pub returns-in-Err : goal.returns-in-Err
returns-in-Err c =
    c.unchanged.ensures
    ∙ refused-stays _ _ _ _ _ (kept c.args.on c.well_formed.0)
    (c.uninstall-answer.ensures ∙ apps-unasked c.args.on.device c.args.on.lent _) c.in-Err.is

pub returns-in-Ok : goal.returns-in-Ok
unfolding loans_after model_of
returns-in-Ok c =
    c.with_loans.ensures
    ∙ uninstall-steps _ _ (kept c.args.on c.well_formed.0) _ _ _ c.in-Ok.is c.args.app
    (c.uninstall-answer.ensures ∙ apps-unasked c.args.on.device c.args.on.lent _) _
    (let e = c.reduce_uninstall-left.ensures in rw c.loans.ensures at e) _
    (ap (λ (d : Device). with_lent d c.reduce_uninstall-left.result.count) c.uninstall_made.ensures)
