-- `is_to` meets its contract: the loan has the kind and the number of the receiver.
use Rattle.state.specs.Tables.{is_to}
use Rattle.tables.specs.LookingLaws.{same-kind, same-number}
use Rattle.loans.proofs.is_to.Goals as goal

pub returns : goal.returns
unfolding is_to
returns c = rw (c.kind.ensures, same-kind c.args.receiver, c.number.ensures, same-number c.args.receiver)
