-- `remove_instance` meets its contract: the closure tells the instances of other numbers.
use Rattle.std.proofs.Common.{rules, not}
use borrow.Author.Tests.{tests}
use Rattle.rules.specs.declared.Instance.{Instance}
use Rattle.state.proofs.Zeros.{instance-zero}
use Rattle.tables.specs.Finding.{is_instance}
use Rattle.tables.specs.Changing.{remove_instance}
use Rattle.tables.proofs.remove_instance.Goals as goal

pub returns : goal.returns
unfolding remove_instance
returns c =
    let left = c.kept.ensures (λ (i : Instance). not (is_instance c.args.number i)) (λ x r k. search (rules, tests)) in
    rw (rw (instance-zero c.default.result c.default.ensures) at left, c.digit_of.ensures)
