-- `put_run` meets its contract: the lines are those of a run from the fresh device, and the counts are of what it left.
use Rattle.tape.proofs.Running.{ran-all}
use Rattle.tape.proofs.Writer.put_run.Goals as goal

pub returns-clause-written : goal.returns-clause-written
returns-clause-written c =
    ran-all c.fresh_device.ensures c.zero_loans.ensures c.put_lines.ensures.ran_at _ c.running_count-running.ensures
    c.put_counts.ensures.written
