-- The device and the log agree on every run from fresh, with any manifests: on what is there, on the answer to every
-- action, on the counts, and on the bytes of the sheet. Document 01, "The log rule".
use Rattle.std.specs.Prelude.{ℕ, ◌≡◌, refl, List, [], ◌∷◌, length}
use Rattle.std.proofs.Common.{ap}
use Rattle.rules.specs.Limits.{Limits, large}
use Rattle.rules.specs.Action.{Action}
use Rattle.rules.specs.View.{View}
use Rattle.rules.specs.Answer.{answer, line_of}
use Rattle.state.specs.Tables.{State, view_of}
use Rattle.state.specs.Effects.{device}
use Rattle.state.specs.Ok.{valid→ok}
use Rattle.state.proofs.Keeps.{reached-valid}
use Rattle.history.specs.Log.{Past, history, log_count, log_running, log_loans, view_of_log, log, log_alone}
use Rattle.history.specs.Tape.{actions_of}
use Rattle.history.specs.Sheet.{sheet, sheet_of_log}
use Rattle.history.proofs.Agree.{agrees, same-views}

-- every question of the rules
pub views-agree : (L : Limits) (xs : List Action) → view_of (device L xs) ≡ view_of_log (history (log L xs))
views-agree L xs =
    same-views L (device L xs) (history (log L xs)) (valid→ok L (device L xs) (reached-valid L xs)) (agrees L xs)

-- every action's answer, done or refused
pub answers_agree : (L : Limits) (xs : List Action) (x : Action)
    → answer L (view_of (device L xs)) x ≡ answer L (view_of_log (history (log L xs))) x
answers_agree L xs x = ap (λ (v : View). answer L v x) (views-agree L xs)

-- and so its number, ground and value
pub lines-agree : (L : Limits) (xs : List Action) (x : Action)
    → line_of (answer L (view_of (device L xs)) x) ≡ line_of (answer L (view_of_log (history (log L xs))) x)
lines-agree L xs x = ap line_of (answers_agree L xs x)

-- the log as the device answers is the log worked out with no device
pub logs-agree : (L : Limits) (xs : List Action) → log L xs ≡ log_alone L xs
unfolding log log_alone
logs-agree L [] = refl
logs-agree L (x ∷ xs) = rw (answers_agree L xs x, logs-agree L xs)

-- the counts of apps, running instances and loans that end the sheet
pub record CountsAgree (s : State) (h : List Past) : Type 0 where
  pub apps : length s.rows ≡ log_count (λ m. 1) h
  pub running : length s.instances ≡ log_running h
  pub loans : length s.loans ≡ log_loans h

pub counts-agree : (L : Limits) (xs : List Action) → CountsAgree (device L xs) (history (log_alone L xs))
unfolding view_of view_of_log
counts-agree L xs = rw (← logs-agree L xs) (record {
  apps = ap (λ (v : View). v.apps) (views-agree L xs);
  running = ap (λ (v : View). v.running) (views-agree L xs);
  loans = ap (λ (v : View). v.loans) (views-agree L xs);
})

-- the sheet of any bytes by the device is the sheet by the log
pub sheets-agree : (s : List ℕ) → sheet s ≡ sheet_of_log s
unfolding sheet sheet_of_log
sheets-agree s = rw (views-agree large (actions_of s), logs-agree large (actions_of s))
