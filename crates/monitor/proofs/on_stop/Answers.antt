-- `on_stop` meets its contract: a refusal leaves all, and else the instances and the loans left are those of the next
-- state.
use Rattle.monitor.proofs.Kit.{ap, ◌∙◌, kept, refused-stays, stop-steps, runs-unasked}
use Rattle.state.specs.Effects.{loans_after}
use Rattle.state.specs.Stored.{model_of}
use Rattle.state.specs.declared.Device.{Device}
use Rattle.monitor.specs.Made.{with_lent}
use Rattle.monitor.proofs.on_stop.Goals as goal

pub returns-in-Err : goal.returns-in-Err
returns-in-Err c =
    c.unchanged.ensures
    ∙ refused-stays _ _ _ _ _ (kept c.args.on c.well_formed.0)
    (c.stop-answer.ensures ∙ runs-unasked c.args.on.device c.args.on.lent _) c.in-Err.is

pub returns-in-Ok : goal.returns-in-Ok
unfolding loans_after model_of
returns-in-Ok c =
    c.with_loans.ensures
    ∙ stop-steps _ _ (kept c.args.on c.well_formed.0) _ _ _ c.in-Ok.is c.args.instance
    (c.stop-answer.ensures ∙ runs-unasked c.args.on.device c.args.on.lent _) _
    (let e = c.reduce_stop-left.ensures in rw c.loans.ensures at e) _
    (ap (λ (d : Device). with_lent d c.reduce_stop-left.result.count) c.stop_made.ensures)
