-- `on_write` meets its contract: a refusal leaves all, and else the written resources are those of the next state.
use Rattle.monitor.proofs.Kit.{◌∙◌, kept, refused-stays, write-steps}
use Rattle.monitor.proofs.on_write.Goals as goal

pub returns-in-Err : goal.returns-in-Err
returns-in-Err c =
    c.unchanged.ensures
    ∙ refused-stays _ _ _ _ _ (kept c.args.on c.well_formed.0) c.write-answer.ensures c.in-Err.is

pub returns-in-Ok : goal.returns-in-Ok
returns-in-Ok c =
    write-steps _ _ (kept c.args.on c.well_formed.0) _ _ _ c.in-Ok.is _ _ _ _ c.write-answer.ensures _
    c.write_made.ensures
