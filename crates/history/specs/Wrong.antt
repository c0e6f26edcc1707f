-- What it is to meet the contracts, and the five monitors that they have to shut out: document 01, "What the contracts
-- have to say". Each of the five is said of runs from the fresh device alone: the less it says, the more is shut out.
use Rattle.std.specs.Prelude.{ℕ, suc, ◌<◌, ◌≡◌, true, false, List, ◌++◌}
use Rattle.rules.specs.declared.Loan.{Loan}
use Rattle.rules.specs.Answer.{Answer}
use Rattle.rules.specs.Limits.{large}
use Rattle.rules.specs.View.{View}
use Rattle.state.specs.declared.Device.{Device}
use Rattle.state.specs.Step.{step_answer, step_device, step_lent}
use Rattle.history.specs.Log.{history, view_of_log, log_alone}
use Rattle.history.specs.Tape.{is_tape, action_count, actions_of}
use Rattle.history.specs.Sheet.{sheet}
use Rattle.history.specs.Run.{Steps, fresh_held, counts_text, answer_to, held_at}
use Rattle.history.specs.Security.{is_done}

-- ---- the contracts
-- of `monitor::step`: answer, next device and next loan table are those of the definitions
pub record Meets (m : Steps) : Type 0 where
  pub answer : (d : Device) (lent : List Loan) (action manifest : List ℕ)
      → m.answer d lent action manifest ≡ step_answer d lent action manifest
  pub device : (d : Device) (lent : List Loan) (action manifest : List ℕ)
      → m.device d lent action manifest ≡ step_device d lent action manifest
  pub lent : (d : Device) (lent : List Loan) (action manifest : List ℕ)
      → m.lent d lent action manifest ≡ step_lent d lent action manifest

-- of `tape::sheet_of`: the sheet of any bytes is that of the definitions
abbrev pub MeetsSheet : (List ℕ → List ℕ) → Type 0
MeetsSheet sheets = (s : List ℕ) → sheets s ≡ sheet s

-- ---- the five
-- at every record n of every tape s; the first record is number 0
abbrev pub AtEveryRecord : (List ℕ → ℕ → Type 0) → Type 0
AtEveryRecord At = (s : List ℕ) → is_tape s ≡ true → (n : ℕ) → n < action_count s → At s n

module _ (m : Steps) where
  -- the answer to record n of a tape
  abbrev pub answer_at : List ℕ → ℕ → Answer
  answer_at s n = answer_to m s (held_at m s fresh_held n) n

  -- one that refuses everything
  abbrev pub RefusesEverything : Type 0
  RefusesEverything = AtEveryRecord (λ s n. is_done (answer_at s n) ≡ false)

  -- one that answers done to everything
  abbrev pub DoneToEverything : Type 0
  DoneToEverything = AtEveryRecord (λ s n. is_done (answer_at s n) ≡ true)

  -- one that never changes the state, whatever it does to the loan table
  abbrev pub NeverChanges : Type 0
  NeverChanges = AtEveryRecord (λ s n. (held_at m s fresh_held (suc n)).device ≡ fresh_held.device)

  -- one that repeats the first answer, whether or not that one was right
  abbrev pub RepeatsFirst : Type 0
  RepeatsFirst = AtEveryRecord (λ s n. answer_at s n ≡ answer_at s 0)

-- what the log of a tape tells
abbrev pub log_view : List ℕ → View
log_view s = view_of_log (history (log_alone large (actions_of s)))

-- one with invented sheet counts: on some tape the last line, whatever stands before it, has other counts than the log
pub record InventsCounts (sheets : List ℕ → List ℕ) : Type 0 where
  pub tape : List ℕ
  pub whole : is_tape tape ≡ true
  pub front : List ℕ
  pub apps : ℕ
  pub running : ℕ
  pub lent : ℕ
  pub shown : sheets tape ≡ front ++ counts_text apps running lent
  pub invented : apps ≡ (log_view tape).apps → running ≡ (log_view tape).running → lent ≡ (log_view tape).loans → ⊥

-- ---- none of the five meets the contracts
pub record ShutOut : Type 0 where
  pub refuses : (m : Steps) → Meets m → RefusesEverything m → ⊥
  pub done : (m : Steps) → Meets m → DoneToEverything m → ⊥
  pub still : (m : Steps) → Meets m → NeverChanges m → ⊥
  pub repeats : (m : Steps) → Meets m → RepeatsFirst m → ⊥
  pub counts : (sheets : List ℕ → List ℕ) → MeetsSheet sheets → InventsCounts sheets → ⊥
