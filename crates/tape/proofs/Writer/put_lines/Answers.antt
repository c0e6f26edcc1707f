-- `put_lines` meets its contract: at each turn device and lent table are those of the run and the lines so far are
-- written.
use Rattle.tape.proofs.Kit.{refl, ◌∙◌, arith}
use Rattle.tape.specs.Written.{SameBuffer}
use Rattle.tape.proofs.Running.{ran-none, ran-more, ran_to}
use Rattle.tape.proofs.Writer.put_lines.Goals as goal

pub loop-i-init : goal.loop-i-init
loop-i-init c = (omega arith, (refl, refl), ran-none _ _ _ _)

pub loop-i-preserved : goal.loop-i-preserved
loop-i-preserved c =
    let before = c.loop-i.invariant in
    let line = c.put_line.ensures in
    let same : SameBuffer c.args.self.now c.put_line.new.self
    = (line.lent.0 ∙ before.1.0, line.lent.1 ∙ before.1.1) in
    (omega arith, same, ran-more before.2 c.step-next.result c.args.tape.now.first c.step-next.ensures line.written)

pub returns-clause-ran_at : goal.returns-clause-ran_at
returns-clause-ran_at c = ran_to (omega arith) c.loop-i.invariant.2
