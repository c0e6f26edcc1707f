-- `on_change` meets its contract: a refusal leaves all, and else the changed apps are those of the next state.
use Rattle.monitor.proofs.Kit.{◌≡◌, sym, ◌∙◌, arith, model_of, kept, refused-stays, grant-steps, member-low}
use Rattle.monitor.proofs.Kit.{grants-unasked}
use Rattle.rules.specs.Action.{on_grants}
use Rattle.monitor.specs.Made.{asking}
use Rattle.monitor.specs.Stepped.{answer_to}
use Rattle.monitor.proofs.on_change.Goals as goal
use Rattle.monitor.proofs.on_change.Goals.{After-change_answer-answer}

given : (c : After-change_answer-answer) → c.change_answer-answer.result
    ≡ answer_to (model_of c.args.on.device c.args.on.lent) (on_grants (asking c.args.change c.args.app c.args.member))
given c = c.change_answer-answer.ensures ∙ grants-unasked c.args.on.device c.args.on.lent _

pub overflow_cast-member : goal.overflow_cast-member
overflow_cast-member c =
    let a = c.args in
    let asked = given (goal.at.overflow_cast-member c).After-change_answer-answer in
    let low = member-low (model_of a.on.device a.on.lent) a.change a.app a.member _ _
    (kept a.on c.well_formed.0).valid (sym asked ∙ c.in-Ok.is) in
    omega arith

pub returns-in-Err : goal.returns-in-Err
returns-in-Err c =
    c.unchanged.ensures ∙ refused-stays _ _ _ _ _ (kept c.args.on c.well_formed.0)
    (given (goal.at.returns-in-Err c).After-change_answer-answer) c.in-Err.is

pub returns-in-Ok : goal.returns-in-Ok
returns-in-Ok c =
    grant-steps _ _ (kept c.args.on c.well_formed.0) _ _ _ c.in-Ok.is _ _ _
    (given (goal.at.returns-in-Ok c).After-change_answer-answer) _ c.change_made.ensures
