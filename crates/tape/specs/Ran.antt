-- A run of a tape's records at any device and the table lent to it, as the steps of the monitor one after the other:
-- what it leaves, and the lines that it writes.
use Rattle.std.specs.Prelude.{ℕ, ◌*◌, ◌≡◌, cond, List, length, ltb}
use Rattle.history.specs.Tape.{is_tape, action_count}
use Rattle.history.specs.Sheet.{refused_text}
use Rattle.history.specs.Run.{monitor_steps, Held, held_at, run_lines}
use Rattle.tape.specs.declared.Ran.{Ran}
use Rattle.tape.specs.Written.{Written}
use Rattle.tape.specs.Filled.{wrote}

-- after n records: what is held, and their lines in the buffer from a place on
pub record RanAt (s : List ℕ) (first : Held) (old : List ℕ) (from n : ℕ) (last : Held) (out : List ℕ) (at : ℕ)
    : Type 0 where
  pub held : last ≡ held_at monitor_steps s first n
  pub lines : Written old from (run_lines monitor_steps s first n) out at

-- ---- all records of a tape; bytes that are no tape change nothing and are refused by one line
abbrev pub lines_room : List ℕ → ℕ
lines_room s = cond (is_tape s) (24 * action_count s) 13

unfoldable pub lines_of : List ℕ → Held → List ℕ
lines_of s h = cond (is_tape s) (run_lines monitor_steps s h (action_count s)) refused_text

unfoldable pub left_by : List ℕ → Held → Held
left_by s h = cond (is_tape s) (held_at monitor_steps s h (action_count s)) h

-- in a buffer: one that is too short is refused, and nothing is run
unfoldable pub ran : List ℕ → Held → (out : List ℕ) → Ran
ran s h out =
    let left = cond (ltb (length out) (lines_room s)) h (left_by s h) in
    record {
      device = left.device;
      lent = left.lent;
      wrote = wrote (lines_room s) (lines_of s h) out;
    }
