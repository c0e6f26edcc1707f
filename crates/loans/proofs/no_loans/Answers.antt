-- `no_loans` meets its contract: the repeated value is the zero loan.
use Rattle.loans.specs.Lent.{no_loans}
use Rattle.loans.proofs.Making.{loan-zero}
use Rattle.loans.proofs.no_loans.Goals as goal

pub returns : goal.returns
unfolding no_loans
returns c = rw (loan-zero c.default.result c.default.ensures)
