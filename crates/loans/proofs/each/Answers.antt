-- `each` meets its contract: at each turn the table holds what is made of the loans passed.
use Rattle.std.proofs.Common.{refl, ap, ◌∙◌, map}
use Rattle.std.proofs.lemmas.Fn.{says}
use Rattle.loans.specs.Held.{loans_table}
use Rattle.loans.proofs.Making.{loan-zero, made-more, made_all}
use Rattle.loans.proofs.each.Goals as goal

pub loop-loan-init : goal.loop-loan-init
loop-loan-init g c = λ to gives. c.empty-made.ensures ∙ rw (loan-zero c.default.result c.default.ensures)

pub loop-loan-preserved : goal.loop-loan-preserved
loop-loan-preserved g c =
    λ to gives.
    c.push.ensures
    ∙ rw (c.loop-loan.invariant to gives)
    (made-more to _ _ _ _ c.loop-loan-test.true (gives _ _ (says g.F.Fn c.change.ensures refl))
    c.held-loan-items.ensures.room)

pub returns : goal.returns
returns g c =
    λ to gives.
    c.loop-loan.invariant to gives
    ∙ ap loans_table (made_all to _ _ c.loop-loan-test.false ∙ ap (map to) c.held-loan-items.ensures.value)
