-- `hold_signature` meets its contract: the two tests in their order.
use Rattle.tables.specs.Looking.{hold_signature}
use Rattle.tables.proofs.hold_signature.Goals as goal

pub returns-then-known-app : goal.returns-then-known-app
unfolding hold_signature
returns-then-known-app c = rw c.if-known-app.true

pub returns-then-known-app-2 : goal.returns-then-known-app-2
unfolding hold_signature
returns-then-known-app-2 c = rw (c.if-known-app.false, c.if-known-app-2.true)

pub returns : goal.returns
unfolding hold_signature
returns c = rw (c.if-known-app.false, c.if-known-app-2.false)
