-- `is_lent` meets its contract: the library's search over the loans that are held.
use Rattle.std.proofs.Common.{rules, ◌∙◌, ◌&&◌}
use Rattle.std.proofs.lemmas.Iterator.{YieldsList-from_slice}
use Rattle.std.proofs.lemmas.Iterator.Search.{any_from_yields_List}
use borrow.Author.Tests.{tests}
use Rattle.rules.specs.declared.Loan.{Loan}
use Rattle.rules.specs.Action.{carries}
use Rattle.state.specs.Stored.{model_of}
use Rattle.state.specs.Tables.{view_of, is_loan, lent_in}
use Rattle.tables.specs.Looking.{op_of, receiver_of}
use Rattle.answers.proofs.is_lent.Goals as goal

pub returns : goal.returns
unfolding view_of model_of lent_in
returns c =
    any_from_yields_List (λ (x : Loan). is_loan (receiver_of c.args.receiver) c.args.provider c.args.uri x
    && carries (op_of c.args.operation) x.operations) _ _ c.any.result c.any.ensures.ran
    (YieldsList-from_slice _ (c.iter.ensures.rest ∙ c.held.ensures.value ∙ c.loans_of-loans.ensures))
    (λ x b q k. search (rules, tests))
