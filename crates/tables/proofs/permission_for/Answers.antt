-- `permission_for` meets its contract: each operation has its permission.
use Rattle.rules.specs.Grounds.{permission_for}
use Rattle.tables.proofs.permission_for.Goals as goal

pub returns-in-Read : goal.returns-in-Read
unfolding permission_for
returns-in-Read c = rw c.in-Read.is

pub returns-in-Write : goal.returns-in-Write
unfolding permission_for
returns-in-Write c = rw c.in-Write.is
