-- `ground_of` meets its contract: the right of the app first, then a loan to the instance, then one to the app.
use Rattle.std.proofs.Common.{sym, ◌∙◌}
use Rattle.rules.specs.Permissions.{known, hold, holds, allows}
use Rattle.rules.specs.Grounds.{right_ground}
use Rattle.state.specs.Stored.{model_of}
use Rattle.state.specs.Tables.{view_of}
use Rattle.tables.specs.Looking.{view_by}
use Rattle.answers.proofs.Grounds.{some-is, by-right, by-instance, by-app, by-none}
use Rattle.answers.proofs.ground_of.Goals as goal

pub returns-then-ne : goal.returns-then-ne
unfolding right_ground allows holds hold known view_by view_of model_of
returns-then-ne c =
    by-right _ _ _ _ _ _ c.ground_right-right.ensures
    (sym (some-is c.ground_right-right.result) ∙ sym c.ne.ensures ∙ c.if-ne.true)

pub returns-then-is_lent : goal.returns-then-is_lent
unfolding right_ground allows holds hold known view_by view_of model_of
returns-then-is_lent c =
    by-instance _ _ _ _ _ _ c.ground_right-right.ensures
    (sym (some-is c.ground_right-right.result) ∙ sym c.ne.ensures ∙ c.if-ne.false)
    (sym (rw c.from.ensures at c.is_lent.ensures) ∙ c.if-is_lent.true)

pub returns-then-is_lent-2 : goal.returns-then-is_lent-2
unfolding right_ground allows holds hold known view_by view_of model_of
returns-then-is_lent-2 c =
    by-app _ _ _ _ _ _ c.ground_right-right.ensures
    (sym (some-is c.ground_right-right.result) ∙ sym c.ne.ensures ∙ c.if-ne.false)
    (sym (rw c.from.ensures at c.is_lent.ensures) ∙ c.if-is_lent.false)
    (sym (rw c.from-2.ensures at c.is_lent-2.ensures) ∙ c.if-is_lent-2.true)

pub returns : goal.returns
unfolding right_ground allows holds hold known view_by view_of model_of
returns c =
    by-none _ _ _ _ _ _ c.ground_right-right.ensures
    (sym (some-is c.ground_right-right.result) ∙ sym c.ne.ensures ∙ c.if-ne.false)
    (sym (rw c.from.ensures at c.is_lent.ensures) ∙ c.if-is_lent.false)
    (sym (rw c.from-2.ensures at c.is_lent-2.ensures) ∙ c.if-is_lent-2.false)
