-- The bytes of the answer sheet, from the device and from the log alone: document 01, "The tape and the answer sheet".
use Rattle.std.specs.Prelude.{ℕ, zero, suc, ◌+◌, ◌/◌, ◌%◌, cond, List, [], ◌∷◌, ◌++◌, length, ltb}
use Rattle.std.proofs.Math.Option.{Option, none, some}
use Rattle.rules.specs.Limits.{large}
use Rattle.rules.specs.View.{View}
use Rattle.rules.specs.Answer.{Answer, line_of}
use Rattle.state.specs.Tables.{view_of}
use Rattle.state.specs.Effects.{device}
use Rattle.history.specs.Log.{Entry, history, view_of_log, log, log_alone}
use Rattle.history.specs.Tape.{is_tape, action_count, code_at, actions_of}

-- ---- numbers in decimal: the last digit is the remainder, and those before it are the digits of a tenth
unfoldable pub digits_within : ℕ → ℕ → List ℕ
digits_within zero n = []
digits_within (suc k) n = cond (ltb n 10) ((48 + n) ∷ []) (digits_within k (n / 10) ++ ((48 + n % 10) ∷ []))

-- twenty digits are enough for every number of 64 bits
unfoldable pub decimal : ℕ → List ℕ
decimal n = digits_within 20 n

-- a number and the byte after it; `-` for none
abbrev pub field : ℕ → ℕ → List ℕ
field n ending = decimal n ++ (ending ∷ [])

unfoldable pub field_or_none : Option ℕ → ℕ → List ℕ
field_or_none none ending = 45 ∷ ending ∷ []
field_or_none (some n) ending = field n ending

abbrev pub space : ℕ
space = 32

abbrev pub newline : ℕ
newline = 10

-- ---- the words
-- `tape refused` and a newline
abbrev pub refused_text : List ℕ
refused_text = 116 ∷ 97 ∷ 112 ∷ 101 ∷ 32 ∷ 114 ∷ 101 ∷ 102 ∷ 117 ∷ 115 ∷ 101 ∷ 100 ∷ 10 ∷ []

-- `answers `
abbrev pub answers_text : List ℕ
answers_text = 97 ∷ 110 ∷ 115 ∷ 119 ∷ 101 ∷ 114 ∷ 115 ∷ 32 ∷ []

-- `end apps `
abbrev pub end_text : List ℕ
end_text = 101 ∷ 110 ∷ 100 ∷ 32 ∷ 97 ∷ 112 ∷ 112 ∷ 115 ∷ 32 ∷ []

-- `running `
abbrev pub running_text : List ℕ
running_text = 114 ∷ 117 ∷ 110 ∷ 110 ∷ 105 ∷ 110 ∷ 103 ∷ 32 ∷ []

-- `lent `
abbrev pub lent_text : List ℕ
lent_text = 108 ∷ 101 ∷ 110 ∷ 116 ∷ 32 ∷ []

-- ---- lines
-- answer, ground and value, to the line's end
unfoldable pub answer_text : Answer → List ℕ
answer_text a =
    field (line_of a).number space
    ++ (field_or_none (line_of a).ground space ++ field_or_none (line_of a).value newline)

-- the line of an action: its place from 1, its code, and what was answered
unfoldable pub line_text : (place code : ℕ) → Answer → List ℕ
line_text place code a = field place space ++ (field code space ++ answer_text a)

-- the lines of a log, newest first, of the actions of a tape
unfoldable pub lines_text : List ℕ → List Entry → List ℕ
lines_text s [] = []
lines_text s (e ∷ l) = lines_text s l ++ line_text (length l + 1) (code_at s (length l)) e.answer

-- the last line: the counts of apps, running instances and loans
unfoldable pub end_line : View → List ℕ
end_line v =
    end_text ++ (field v.apps space
    ++ (running_text ++ (field v.running space ++ (lent_text ++ field v.loans newline))))

-- `answers` and the count, a line per action, and the last line
unfoldable pub sheet_of : List ℕ → List Entry → View → List ℕ
sheet_of s entries v = answers_text ++ (field (action_count s) newline ++ (lines_text s entries ++ end_line v))

-- ---- the sheet of a tape, as the device answers
unfoldable pub sheet : List ℕ → List ℕ
sheet s =
    cond (is_tape s) (sheet_of s (log large (actions_of s)) (view_of (device large (actions_of s)))) refused_text

-- and worked out from the log alone
unfoldable pub sheet_of_log : List ℕ → List ℕ
sheet_of_log s =
    cond (is_tape s)
    (sheet_of s (log_alone large (actions_of s)) (view_of_log (history (log_alone large (actions_of s)))))
    refused_text
