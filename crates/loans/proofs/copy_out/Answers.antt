-- `copy_out` meets its contract: the records that fit, and zero past them.
use Rattle.std.proofs.Common.{ap, List, length}
use Rattle.rules.specs.declared.Loan.{Loan}
use Rattle.loans.specs.Lent.{lent_as, lent_from}
use Rattle.loans.specs.LentLaws.{copied_front}
use Rattle.loans.proofs.copy_out.Goals as goal

pub returns : goal.returns
unfolding lent_from
returns c =
    let l = c.args.lent.now in
    ap (λ (t : List Loan). lent_as t (length l))
    (rw (c.copy_from_slice.ensures.after, c.no_loans-table.ensures) (copied_front l c.min-n.result c.min-n.ensures))
