-- One step of the monitor for every device, lent table and bytes: the answer, the next device and the next loan table.
-- Document 01, "Numbers that come back": refusal 1, and that a refusal leaves state and loan table unchanged.
use Rattle.std.specs.Prelude.{ℕ, cond, List}
use Rattle.rules.specs.declared.Loan.{Loan}
use Rattle.rules.specs.declared.Reason.TheVariants.{StateNotValid}
use Rattle.rules.specs.Limits.{large}
use Rattle.rules.specs.Record.{action_of}
use Rattle.rules.specs.Answer.{Answer, refused, answer}
use Rattle.state.specs.declared.Device.{Device}
use Rattle.state.specs.Tables.{State, view_of}
use Rattle.state.specs.Effects.{after}
use Rattle.state.specs.Stored.{model_of, device_of, lent_of, valid_stored}

module _ (d : Device) (lent : List Loan) (action manifest : List ℕ) where
  -- of a state that is valid
  unfoldable pub inner_answer : Answer
  inner_answer = answer large (view_of (model_of d lent)) (action_of action manifest)

  unfoldable pub inner_state : State
  inner_state = after (model_of d lent) (action_of action manifest) inner_answer

  unfoldable pub step_answer : Answer
  step_answer = cond (valid_stored d lent) inner_answer (refused StateNotValid)

  unfoldable pub step_device : Device
  step_device = cond (valid_stored d lent) (device_of inner_state) d

  unfoldable pub step_lent : List Loan
  step_lent = cond (valid_stored d lent) (lent_of 128 inner_state) lent
