-- `loan_of` meets its contract: the kind and the number are those of the receiver.
use Rattle.state.specs.Effects.{loan_of}
use Rattle.tables.specs.LookingLaws.{same-kind, same-number}
use Rattle.loans.proofs.loan_of.Goals as goal

pub returns : goal.returns
unfolding loan_of
returns c = rw (c.kind.ensures, same-kind c.args.receiver, c.number.ensures, same-number c.args.receiver)
