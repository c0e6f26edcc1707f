-- `on_start` meets its contract: the running numbers of a valid device are those of its list, so the number found in
-- them is the free one; a refusal leaves all, and else the instances with the new one are those of the next state.
use Rattle.monitor.proofs.Kit.{◌≡◌, refl, sym, ◌∙◌, arith, model_of, kept, running-kept, runs-unasked, refused-stays}
use Rattle.monitor.proofs.Kit.{start-steps, number-low}
use mathlib.Core.List.{[]}
use Rattle.rules.specs.Action.{on_runs, start}
use Rattle.answers.specs.StartingLaws.{start-formed}
use Rattle.monitor.specs.Stepped.{answer_to}
use Rattle.monitor.proofs.on_start.Goals as goal
use Rattle.monitor.proofs.on_start.Goals.{After-start-answer}

given : (c : After-start-answer) → c.start-answer.result
    ≡ answer_to (model_of c.args.on.device c.args.on.lent) (on_runs (start c.args.component c.args.caller))
given c =
    let d = c.args.on.device in
    let running = running-kept d c.args.on.lent (kept c.args.on c.well_formed.0) in
    c.start-answer.ensures ∙ start-formed d [] running c.args.component c.args.caller ∙ runs-unasked d c.args.on.lent _

pub overflow_cast-value : goal.overflow_cast-value
overflow_cast-value c =
    let asked = given (goal.at.overflow_cast-value c).After-start-answer in
    let low = number-low (model_of c.args.on.device c.args.on.lent) c.args.component c.args.caller _ _
    (sym asked ∙ c.in-Ok.is) in
    omega arith

pub returns-in-Err : goal.returns-in-Err
returns-in-Err c =
    c.unchanged.ensures ∙ refused-stays _ _ _ _ _ (kept c.args.on c.well_formed.0)
    (given (goal.at.returns-in-Err c).After-start-answer) c.in-Err.is

pub returns-in-Ok : goal.returns-in-Ok
returns-in-Ok c =
    start-steps _ _ (kept c.args.on c.well_formed.0) _ _ _ refl _ _
    (sym c.in-Ok.is ∙ given (goal.at.returns-in-Ok c).After-start-answer) _ c.start_made.ensures
