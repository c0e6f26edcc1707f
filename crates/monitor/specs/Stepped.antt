-- What an action makes of a valid device and its loan table: the answer of the rules, and the tables that hold what is
-- left. Document 01, "Conditions and effects".
use Rattle.std.specs.Prelude.{ℕ, List}
use Rattle.rules.specs.declared.Loan.{Loan}
use Rattle.rules.specs.Limits.{large}
use Rattle.rules.specs.Action.{Action}
use Rattle.rules.specs.Answer.{Answer, answer}
use Rattle.state.specs.declared.Device.{Device}
use Rattle.state.specs.Tables.{State, view_of}
use Rattle.state.specs.Effects.{after}
use Rattle.state.specs.Stored.{model_of, device_of, lent_of}
use Rattle.state.specs.Step.{step_answer, step_device, step_lent}
use Rattle.monitor.specs.declared.Stepped.{Stepped}

abbrev pub answer_to : State → Action → Answer
answer_to s x = answer large (view_of s) x

-- a state after an answer, with the answer
unfoldable pub stepped_to : State → Answer → Stepped
stepped_to s a = record { device = device_of s; lent = lent_of 128 s; answer = a }

unfoldable pub stepped_by : Device → List Loan → Action → Stepped
stepped_by d lent x =
    let s = model_of d lent in
    stepped_to (after s x (answer_to s x)) (answer_to s x)

-- a whole step, of any device, loan table and bytes
unfoldable pub stepped : Device → List Loan → (action manifest : List ℕ) → Stepped
stepped d lent action manifest =
    record {
      device = step_device d lent action manifest;
      lent = step_lent d lent action manifest;
      answer = step_answer d lent action manifest;
    }
