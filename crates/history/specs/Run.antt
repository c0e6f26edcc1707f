-- What a monitor makes of a tape's records, one after the other, at any device and the table lent to it, and the sheet
-- that it gives from the fresh ones: document 01, "The tape and the answer sheet".
use Rattle.std.specs.Prelude.{ℕ, zero, suc, ◌+◌, cond, List, [], ◌++◌}
use Rattle.std.specs.Int.Count.{ones}
use Rattle.rules.specs.declared.Loan.{Loan}
use Rattle.rules.specs.Answer.{Answer}
use Rattle.state.specs.declared.Device.{Device}
use Rattle.state.specs.Tables.{fresh}
use Rattle.state.specs.Stored.{device_of, lent_of}
use Rattle.state.specs.Step.{step_answer, step_device, step_lent}
use Rattle.history.specs.Tape.{is_tape, action_count, code_at, record_bytes, place_named, handed}
use Rattle.history.specs.Sheet.{field, space, newline, refused_text, answers_text, end_text, running_text, lent_text}
use Rattle.history.specs.Sheet.{line_text}

-- a monitor's step: the answer, the next device and the next loan table
pub record Steps : Type 0 where
  pub answer : Device → List Loan → (action manifest : List ℕ) → Answer
  pub device : Device → List Loan → (action manifest : List ℕ) → Device
  pub lent : Device → List Loan → (action manifest : List ℕ) → List Loan

-- the monitor's of the definitions
unfoldable pub monitor_steps : Steps
monitor_steps = record { answer = step_answer; device = step_device; lent = step_lent }

-- a device and the table lent to it
pub record Held : Type 0 where
  pub device : Device
  pub lent : List Loan

abbrev pub fresh_held : Held
fresh_held = record { device = device_of fresh; lent = lent_of 128 fresh }

-- the last line, from what the device holds: its counts, and the ones of its running numbers
unfoldable pub counts_text : (apps running lent : ℕ) → List ℕ
counts_text apps running lent =
    end_text ++ (field apps space
    ++ (running_text ++ (field running space ++ (lent_text ++ field lent newline))))

abbrev pub last_text : Device → List ℕ
last_text d = counts_text d.apps.count (ones d.instances.running) d.lent

module _ (m : Steps) (s : List ℕ) where
  -- what the monitor makes of record i, with the manifest that it names
  abbrev pub answer_to : Held → ℕ → Answer
  answer_to h i = m.answer h.device h.lent (record_bytes s i) (handed s (place_named s i))

  abbrev pub held_after : Held → ℕ → Held
  held_after h i =
      record {
        device = m.device h.device h.lent (record_bytes s i) (handed s (place_named s i));
        lent = m.lent h.device h.lent (record_bytes s i) (handed s (place_named s i));
      }

  -- after the first n records
  unfoldable pub held_at : Held → ℕ → Held
  held_at h zero = h
  held_at h (suc n) = held_after (held_at h n) n

  -- the lines of the first n records
  unfoldable pub run_lines : Held → ℕ → List ℕ
  run_lines h zero = []
  run_lines h (suc n) = run_lines h n ++ line_text (n + 1) (code_at s n) (answer_to (held_at h n) n)

  -- from the fresh device: the lines, and the last line
  unfoldable pub run_text : ℕ → List ℕ
  run_text n = run_lines fresh_held n ++ last_text (held_at fresh_held n).device

  unfoldable pub run_sheet : List ℕ
  run_sheet =
      cond (is_tape s) (answers_text ++ (field (action_count s) newline ++ run_text (action_count s))) refused_text
