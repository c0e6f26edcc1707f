-- `is_loan` meets its contract: the receiver is that of the loan, and so is the resource.
use Rattle.state.specs.Tables.{is_to, is_on, is_loan}
use Rattle.tables.specs.LookingLaws.{same-kind, same-number}
use Rattle.answers.proofs.is_loan.Goals as goal

pub returns : goal.returns
unfolding is_loan is_to is_on
returns c =
    rw (
      c.kind.ensures,
      same-kind c.args.receiver,
      c.number.ensures,
      same-number c.args.receiver,
      c.from.ensures,
    )
