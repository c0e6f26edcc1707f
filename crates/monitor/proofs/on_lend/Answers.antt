-- `on_lend` meets its contract: a refusal leaves all, a receiver of a number that does not fit is not there, and else
-- the loans with the one lent are those of the next state.
use Rattle.monitor.proofs.Kit.{refl, sym, ap, ◌∙◌, kept, refused-stays, loans-steps, lend-left, lend-stays}
use Rattle.monitor.proofs.Kit.{numbers-narrow, narrow-same, narrow-none}
use Rattle.rules.specs.Action.{lend, Receiver}
use Rattle.state.specs.Stored.{model_of}
use Rattle.loans.specs.Held.{loans_table, lend_in}
use Rattle.tables.specs.Looking.{receiver_of}
use Rattle.monitor.proofs.on_lend.Goals as goal
use Rattle.monitor.proofs.on_lend.Goals.{in_default-via-in-Ok+in_default, in_default-via-in_default}

pub returns-in-Ok-Some : goal.returns-in-Ok-Some
unfolding model_of
returns-in-Ok-Some c =
    let a = c.args in
    let on = kept a.on c.well_formed.0 in
    let to = narrow-same a.receiver c.in-Ok-Some.to (sym c.narrow.ensures ∙ c.in-Ok-Some.is-1) in
    let lent = (let e = c.lend-left.ensures in rw c.loans.ensures at e) in
    c.with_loans.ensures
    ∙ loans-steps _ _ on _ _ _ c.in-Ok-Some.is-0
    (lend a.operations a.provider a.giver a.uri (receiver_of a.receiver)) c.lend-answer.ensures _
    (lent ∙ ap (λ (q : Receiver). loans_table (lend_in q a.provider a.uri a.operations
    (model_of a.on.device a.on.lent).loans)) to
    ∙ lend-left _ _ on _ _ _ c.in-Ok-Some.is-0 _ _ _ _ _ c.lend-answer.ensures) _ refl

pub returns-in_default : goal.returns-in_default
returns-in_default c =
    let on = kept c.args.on c.well_formed.0 in
    c.unchanged.ensures ∙ elim c.in_default.branch [
      | in_default-via-in-Ok+in_default w ↦
          lend-stays _ _ _ _ _ _ (receiver_of c.args.receiver) _ on
          (numbers-narrow c.args.on.device c.well_formed.0.1.1.0) c.lend-answer.ensures
          (narrow-none c.args.receiver (sym c.narrow.ensures ∙ w.in_default.is-1))
      | in_default-via-in_default w ↦ refused-stays _ _ _ _ _ on c.lend-answer.ensures w.in_default.is-0
    ]
