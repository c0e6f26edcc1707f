-- `write_records` meets its contract: the records of the range that both tables have.
use Rattle.std.proofs.Common.{◌-◌, sym, arith}
use Rattle.loans.proofs.Sizes.{table-long}
use Rattle.loans.specs.LentLaws.{none_written, middle_written}
use Rattle.loans.proofs.write_records.Goals as goal

pub returns-then-from-end : goal.returns-then-from-end
returns-then-from-end c =
    let a = c.args in
    let long = table-long a.table c.well_formed.1.0 in
    rw c.copy_from_slice.ensures.after
    (middle_written a.range.from (c.min-end.result - a.range.from) a.range.to a.table a.lent.now (omega arith))

pub returns-else-from-end : goal.returns-else-from-end
returns-else-from-end c =
    let a = c.args in
    let long = table-long a.table c.well_formed.1.0 in
    sym (none_written a.range.from a.range.to a.table a.lent.now (omega arith))
