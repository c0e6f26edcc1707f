use Rattle.std.proofs.Common.{refl}
use Rattle.std.proofs.lemmas.Bool.{lt-leb, le-leb}
use Rattle.state.specs.Listed.{appended}
use Rattle.state.proofs.Table.push.Goals as goal

pub returns-then-self : goal.returns-then-self
unfolding appended
returns-then-self g c = rw (lt-leb g.row.ROOM c.args.self.now.count c.if-self.true) refl

pub returns-else-self : goal.returns-else-self
unfolding appended
returns-else-self g c = rw (le-leb g.row.ROOM c.args.self.now.count c.if-self.false) refl
