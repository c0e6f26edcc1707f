-- `step` meets its contract: a table of 128 records is stepped, and the records written back make it the next one; any
-- other is refused and stays.
use Rattle.monitor.specs.LendingLaws.{refused-lent, stepped-lent}
use Rattle.monitor.proofs.step.Goals as goal

pub returns-then-out-ne128 : goal.returns-then-out-ne128
returns-then-out-ne128 c = refused-lent _ _ _ _ _ c.copy_out-out.ensures c.if-out-ne128.true

pub returns : goal.returns
returns c =
    let s = c.step_table-s in
    stepped-lent _ _ _ _ _ c.copy_out-out.ensures c.if-out-ne128.false _ s.ensures s.type_inv.1.1.1.0.1.0.1
    _ c.changed-range.ensures _ c.write_records.ensures
