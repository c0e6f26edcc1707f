-- The run of a tape by the steps of the definitions gives the sheet of the definitions: device and lent table are at
-- every record the arrays of the state that the actions before it reach, which is valid.
use Prim.Native.Nat.{ℕ, zero, suc}
use Rattle.std.proofs.Math.Path.{◌≡◌, refl, ap}
use Rattle.std.proofs.Common.{◌∙◌}
use Rattle.std.specs.Prelude.{true, length}
use mathlib.Core.List.{List}
use Rattle.rules.specs.Limits.{large}
use Rattle.rules.specs.Action.{Action}
use Rattle.rules.specs.Record.{action_of}
use Rattle.rules.specs.Answer.{answer}
use Rattle.state.specs.Tables.{State, view_of}
use Rattle.state.specs.Effects.{after, device}
use Rattle.state.specs.Valid.{valid}
use Rattle.state.proofs.Keeps.{reached-valid}
use Rattle.state.specs.Stored.{device_of, lent_of}
use Rattle.state.proofs.StoredLaws.{model-back, valid-stored, ones-running}
use Rattle.state.specs.Step.{inner_answer, inner_state, step_answer, step_device, step_lent}
use Rattle.history.specs.Log.{log}
use Rattle.history.specs.Tape.{action_at, actions_before, action_count, record_bytes, place_named}
use Rattle.history.specs.Tape.{handed}
use Rattle.history.specs.Sheet.{lines_text, end_line, sheet_of, sheet, sheet_of_log}
use Rattle.history.proofs.Demand3.{sheets-agree}
use Rattle.history.specs.Run.{monitor_steps, Held, fresh_held, held_at, answer_to, counts_text, last_text, run_lines}
use Rattle.history.specs.Run.{run_text, run_sheet}

-- ---- a step at the arrays of a valid state
module _ (s : State) (reached : valid large s ≡ true) (action manifest : List ℕ) where
  abbrev told : Action
  told = action_of action manifest

  pub step-answers : step_answer (device_of s) (lent_of 128 s) action manifest ≡ answer large (view_of s) told
  unfolding step_answer inner_answer
  step-answers = rw (valid-stored s reached, model-back s)

  reaches : inner_state (device_of s) (lent_of 128 s) action manifest ≡ after s told (answer large (view_of s) told)
  unfolding inner_state inner_answer
  reaches = rw (model-back s)

  pub step-device : step_device (device_of s) (lent_of 128 s) action manifest
      ≡ device_of (after s told (answer large (view_of s) told))
  unfolding step_device
  step-device = rw (valid-stored s reached, reaches)

  pub step-lent : step_lent (device_of s) (lent_of 128 s) action manifest
      ≡ lent_of 128 (after s told (answer large (view_of s) told))
  unfolding step_lent
  step-lent = rw (valid-stored s reached, reaches)

-- ---- the records of a tape
module _ (s : List ℕ) where
  -- the state after the first n actions
  abbrev state_at : ℕ → State
  state_at n = device large (actions_before s n)

  abbrev stored_at : ℕ → Held
  stored_at n = record { device = device_of (state_at n); lent = lent_of 128 (state_at n) }

  state_at-next : (n : ℕ) → state_at (suc n)
      ≡ after (state_at n) (action_at s n) (answer large (view_of (state_at n)) (action_at s n))
  unfolding device actions_before
  state_at-next n = refl

  pub run-held : (n : ℕ) → held_at monitor_steps s fresh_held n ≡ stored_at n
  unfolding held_at
  run-held zero = unfold device actions_before in refl
  run-held (suc n) = rw (run-held n, state_at-next n) (go (record_bytes s n) (handed s (place_named s n)))
    where
      go : (a m : List ℕ) → ◌≡◌ {A = Held}
          (record {
            device = monitor_steps.device (device_of (state_at n)) (lent_of 128 (state_at n)) a m;
            lent = monitor_steps.lent (device_of (state_at n)) (lent_of 128 (state_at n)) a m;
          })
          (record {
            device = device_of (after (state_at n) (action_of a m)
                (answer large (view_of (state_at n)) (action_of a m)));
            lent = lent_of 128 (after (state_at n) (action_of a m)
                (answer large (view_of (state_at n)) (action_of a m)));
          })
      go a m = unfold monitor_steps in
          rw (
            step-device (state_at n) (reached-valid large (actions_before s n)) a m,
            step-lent (state_at n) (reached-valid large (actions_before s n)) a m,
          )

  -- each record is answered as the log has it
  pub run-answers : (n : ℕ) → answer_to monitor_steps s (held_at monitor_steps s fresh_held n) n
      ≡ answer large (view_of (state_at n)) (action_at s n)
  unfolding monitor_steps
  run-answers n = rw (run-held n)
      (step-answers (state_at n) (reached-valid large (actions_before s n)) (record_bytes s n)
      (handed s (place_named s n)))

  log-length : (n : ℕ) → length (log large (actions_before s n)) ≡ n
  unfolding log actions_before
  log-length zero = refl
  log-length (suc n) = ap suc (log-length n)

  pub run-lines : (n : ℕ) → run_lines monitor_steps s fresh_held n ≡ lines_text s (log large (actions_before s n))
  unfolding run_lines lines_text log actions_before
  run-lines zero = refl
  run-lines (suc n) = rw (run-lines n, log-length n, run-answers n)

  -- and the counts at the end are those of the state
  pub run-counts : (n : ℕ) → last_text (held_at monitor_steps s fresh_held n).device ≡ end_line (view_of (state_at n))
  unfolding end_line counts_text view_of device_of
  run-counts n = rw (run-held n, ones-running (state_at n) (reached-valid large (actions_before s n)))

  -- the sheet of a run is that of the definitions, and so the one worked out from the log alone
  pub run-sheet : run_sheet monitor_steps s ≡ sheet s
  unfolding run_sheet run_text sheet sheet_of
  run-sheet = rw (run-lines (action_count s), run-counts (action_count s))

  pub run-sheet-of-log : run_sheet monitor_steps s ≡ sheet_of_log s
  run-sheet-of-log = run-sheet ∙ sheets-agree s
