-- `step_table` meets its contract: a valid device is stepped, and any other is refused and stays.
use Rattle.std.specs.Prelude.{Option, true}
use Rattle.monitor.proofs.Kit.{◌≡◌, refl, sym, ap, ◌∙◌, query-stays}
use Rattle.monitor.proofs.Sizes.{sizes}
use Rattle.rules.specs.Action.{Action, malformed}
use Rattle.rules.specs.Answer.{answer, decide}
use Rattle.rules.specs.Refusals.{refusals}
use Rattle.state.specs.Stored.{valid_stored}
use Rattle.loans.specs.declared.Asked.{Asked}
use Rattle.loans.specs.Asked.{action_for, asked_of}
use Rattle.loans.specs.AskedLaws.{asked-action}
use Rattle.monitor.specs.Stepped.{stepped_by, stepped}
use Rattle.monitor.specs.StepLaws.{stored-kept, stepped-valid, stepped-not}
use Rattle.monitor.proofs.step_table.Goals as goal
use Rattle.monitor.proofs.step_table.Goals.{Then-valid}

valid : (c : Then-valid) → valid_stored c.args.d c.args.lent ≡ true
valid c = sym c.valid.ensures ∙ c.if-valid.true

-- a step is that of what the bytes are decoded to
decoded : (c : Then-valid) (q : Option Asked) → q ≡ asked_of c.args.action.now
    → stepped_by c.args.d c.args.lent (action_for q c.args.bytes.now)
    ≡ stepped c.args.d c.args.lent c.args.action.now c.args.bytes.now
decoded c q e =
    let a = c.args in
    ap (λ (r : Option Asked). stepped_by a.d a.lent (action_for r a.bytes.now)) e
    ∙ ap (λ (x : Action). stepped_by a.d a.lent x) (asked-action a.action.now a.bytes.now)
    ∙ stepped-valid _ _ _ _ (valid c)

pub returns-in-Some : goal.returns-in-Some
returns-in-Some c =
    c.on_asked.ensures ∙ decoded (goal.at.returns-in-Some c).Then-valid _ (sym c.in-Some.is ∙ c.decode.ensures)

pub returns-in-None : goal.returns-in-None
unfolding answer decide refusals
returns-in-None c =
    let start = (goal.at.returns-in-None c).Then-valid in
    c.unchanged.ensures
    ∙ query-stays _ _ malformed _ (stored-kept _ _ (sizes c.args.d c.well_formed.0) (valid start)) refl
    ∙ decoded start _ (sym c.in-None.is ∙ c.decode.ensures)

pub returns : goal.returns
returns c = stepped-not _ _ _ _ (sym c.valid.ensures ∙ c.if-valid.false)
