-- `left` meets its contract: at each turn the table holds what is left of the loans passed.
use Rattle.std.proofs.Common.{refl, sym, ap, ◌∙◌, map, List}
use Rattle.std.proofs.lemmas.Fn.{says}
use Rattle.rules.specs.declared.Loan.{Loan}
use Rattle.rules.specs.Lists.{keep}
use Rattle.state.specs.Effects.{carries_any}
use Rattle.loans.specs.Held.{loans_table}
use Rattle.loans.proofs.Making.{loan-zero, left-more, left_same, made_all}
use Rattle.loans.proofs.left.Goals as goal
use Rattle.loans.proofs.left.Goals.{then-carries_any, else-carries_any}

pub loop-loan-init : goal.loop-loan-init
loop-loan-init g c = λ to gives. c.empty-made.ensures ∙ rw (loan-zero c.default.result c.default.ensures)

pub loop-loan-preserved : goal.loop-loan-preserved
loop-loan-preserved g c =
    λ to gives.
    let before = c.loop-loan.invariant to gives in
    let rest = gives _ _ (says g.F.Fn c.change-rest.ensures refl) in
    let told = sym c.carries_any.ensures in
    elim c.if-carries_any.branch [
      | then-carries_any w ↦
          w.made-is ∙ w.push.ensures
          ∙ rw before
          (left-more to _ _ _ _ c.loop-loan-test.true rest c.held-loan-items.ensures.room
          (told ∙ w.if-carries_any.true))
      | else-carries_any w ↦
          w.made-is ∙ before ∙ left_same to _ _ _ _ c.loop-loan-test.true rest (told ∙ w.if-carries_any.false)
    ]

pub returns : goal.returns
returns g c =
    λ to gives.
    c.loop-loan.invariant to gives
    ∙ ap (λ (l : List Loan). loans_table (keep carries_any l))
    (made_all to _ _ c.loop-loan-test.false ∙ ap (map to) c.held-loan-items.ensures.value)
