-- `append` meets its contract: the table of the same loans, and one more where there is room.
use Rattle.std.proofs.Common.{rules, ap, ◌∙◌}
use Rattle.std.proofs.lemmas.List.{map-id}
use Rattle.rules.specs.declared.Loan.{Loan}
use Rattle.loans.specs.Held.{loans_in, loans_table}
use Rattle.loans.proofs.Making.{one-more}
use Rattle.loans.proofs.append.Goals as goal

pub returns : goal.returns
returns c =
    let l = loans_in c.args.loans in
    let same = c.each-made.ensures (λ (x : Loan). x) (λ x r k. search rules) ∙ ap loans_table (map-id l) in
    c.push.ensures ∙ rw same (one-more l c.args.loan)
