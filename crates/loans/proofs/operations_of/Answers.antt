-- `operations_of` meets its contract: a read counts 1 and a write 2.
use Rattle.std.proofs.Common.{◌≡◌, ◌+◌, ◌*◌, Bool, true, false, refl}
use mir.Val.{bool_byte}
use Rattle.rules.specs.Action.{operations_of}
use Rattle.loans.specs.Held.{by_op}
use Rattle.loans.proofs.operations_of.Goals as goal

counted : (r w : Bool) → bool_byte r + 2 * bool_byte w ≡ operations_of (by_op r w)
unfolding operations_of
counted true true = refl
counted true false = refl
counted false true = refl
counted false false = refl

pub returns : goal.returns
returns c = rw (c.from.ensures, c.from-2.ensures) (counted c.args.reads c.args.writes)
