-- A text at the front of a lent buffer: what is answered and what stands in the buffer then, and when the buffer is
-- refused as too short.
use Rattle.std.specs.Prelude.{ℕ, ◌+◌, ◌*◌, cond, List, ◌++◌, length, drop, ltb, Result, Ok, Err}
use Rattle.history.specs.Tape.{is_tape, action_count}
use Rattle.tape.specs.declared.TooShort.{TooShort}

-- how many bytes are written, or that the buffer is too short
abbrev pub Wrote : Type 0
Wrote = Result ℕ TooShort

abbrev pub too_short : Wrote
too_short = Err (record {})

-- a buffer that has not the room asked for is refused and stays as it was
unfoldable pub wrote : (room : ℕ) (text out : List ℕ) → Wrote
wrote room text out = cond (ltb (length out) room) too_short (Ok (length text))

unfoldable pub filled : (room : ℕ) (text out : List ℕ) → List ℕ
filled room text out = cond (ltb (length out) room) out (text ++ drop (length text) out)

-- room that is enough for every sheet of as many actions: at most 24 bytes a line, 13 for the first line and 85 for the
-- last, whose counts are numbers of 64 bits
abbrev pub sheet_room : List ℕ → ℕ
sheet_room s = cond (is_tape s) (24 * action_count s + 98) 13
