-- `step` meets its contract: the part of the tape that it lends is the record's bytes.
use Rattle.monitor.specs.Stepped.{stepped as whole_step}
use Rattle.history.specs.Run.{monitor_steps}
use Rattle.tape.proofs.Handing.{step-made}
use Rattle.tape.proofs.Tape.step.Goals as goal

pub returns : goal.returns
unfolding monitor_steps whole_step
returns c =
    let t = c.args.self.now in
    step-made _ c.args.d c.args.lent t.records c.args.i t.first _ c.u16_at-place.ensures c.manifest.ensures
    c.step_table.ensures
