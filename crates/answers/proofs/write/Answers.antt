-- `write` meets its contract: an access, with the value that is written.
use Rattle.std.proofs.Common.{sym, ap, ◌∙◌}
use Rattle.answers.specs.Answering.{view_in}
use Rattle.answers.specs.GroundsLaws.{with_value, written}
use Rattle.answers.proofs.Conditions.{handed}
use Rattle.answers.proofs.write.Goals as goal

pub returns-in_err-done : goal.returns-in_err-done
unfolding with_value
returns-in_err-done c =
    let args = c.args in
    handed c.from_residual.ensures.1 ∙ ap (with_value args.value) (sym c.in_err-done.was ∙ c.access.ensures)
    ∙ written (view_in args.d args.lent) args.provider args.instance args.uri args.value

pub returns : goal.returns
unfolding with_value
returns c =
    let args = c.args in
    ap (with_value args.value) (sym c.in_ok-done.was ∙ c.access.ensures)
    ∙ written (view_in args.d args.lent) args.provider args.instance args.uri args.value
