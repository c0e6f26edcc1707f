-- `append_instance` meets its contract: a full table comes back, and else the entry stands at the count.
use borrow.Author.Tests.{le-leb, lt-leb}
use Rattle.tables.specs.Changing.{append_instance}
use Rattle.tables.proofs.append_instance.Goals as goal

pub returns-then-t-lt64 : goal.returns-then-t-lt64
unfolding append_instance
returns-then-t-lt64 c =
    rw (lt-leb _ _ c.if-t-lt64.true, c.push.ensures, c.digit_of.ensures, c.from.ensures)

pub returns-else-t-lt64 : goal.returns-else-t-lt64
unfolding append_instance
returns-else-t-lt64 c = rw (le-leb _ _ c.if-t-lt64.false)
