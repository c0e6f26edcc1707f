-- The tape and the sheet that document 01 shows, byte by byte, computed from the device and from the log alone:
-- document 01, "The tape and the answer sheet".
use Rattle.std.specs.Prelude.{ℕ, ◌≡◌, refl, List, [], ◌∷◌}
use Rattle.history.specs.Tape.{manifest_place, lengths_fit, is_tape, actions_before}
use Rattle.history.specs.Sheet.{digits_within, decimal, field_or_none, answer_text, line_text, lines_text, end_line}
use Rattle.history.specs.Sheet.{sheet_of, sheet, sheet_of_log}
use Rattle.history.specs.Marked.{log_lines}

abbrev pub example_tape : List ℕ
example_tape =
    -- one manifest of 34 bytes: app 10, signer 5, no uses, no definitions
    1 ∷ 34 ∷ 0 ∷
    10 ∷ 0 ∷ 5 ∷ 0 ∷ 0 ∷ 0 ∷ 0 ∷ 0 ∷
    -- two components, 100 an exported activity and 101 a provider; one resource, 1 of 101
    2 ∷
    100 ∷ 0 ∷ 1 ∷ 1 ∷ 0 ∷ 0 ∷ 0 ∷ 0 ∷
    101 ∷ 0 ∷ 4 ∷ 0 ∷ 0 ∷ 0 ∷ 0 ∷ 0 ∷
    1 ∷ 101 ∷ 0 ∷ 1 ∷ 0 ∷ 0 ∷ 0 ∷ 0 ∷ 0 ∷
    -- four actions: install, start 100, read 1 of 101, read 2 of 101
    4 ∷ 0 ∷
    1 ∷ 0 ∷ 0 ∷ 0 ∷ 0 ∷ 0 ∷ 0 ∷ 0 ∷ 0 ∷ 0 ∷ 0 ∷ 0 ∷
    7 ∷ 0 ∷ 100 ∷ 0 ∷ 0 ∷ 0 ∷ 0 ∷ 0 ∷ 0 ∷ 0 ∷ 0 ∷ 0 ∷
    9 ∷ 0 ∷ 101 ∷ 0 ∷ 1 ∷ 0 ∷ 1 ∷ 0 ∷ 0 ∷ 0 ∷ 0 ∷ 0 ∷
    9 ∷ 0 ∷ 101 ∷ 0 ∷ 1 ∷ 0 ∷ 2 ∷ 0 ∷ 0 ∷ 0 ∷ 0 ∷ 0 ∷ []

abbrev pub example_sheet : List ℕ
example_sheet =
    -- answers 4
    97 ∷ 110 ∷ 115 ∷ 119 ∷ 101 ∷ 114 ∷ 115 ∷ 32 ∷ 52 ∷ 10 ∷
    -- 1 1 0 0 0
    49 ∷ 32 ∷ 49 ∷ 32 ∷ 48 ∷ 32 ∷ 48 ∷ 32 ∷ 48 ∷ 10 ∷
    -- 2 7 0 0 1
    50 ∷ 32 ∷ 55 ∷ 32 ∷ 48 ∷ 32 ∷ 48 ∷ 32 ∷ 49 ∷ 10 ∷
    -- 3 9 0 1 0
    51 ∷ 32 ∷ 57 ∷ 32 ∷ 48 ∷ 32 ∷ 49 ∷ 32 ∷ 48 ∷ 10 ∷
    -- 4 9 8 - -
    52 ∷ 32 ∷ 57 ∷ 32 ∷ 56 ∷ 32 ∷ 45 ∷ 32 ∷ 45 ∷ 10 ∷
    -- end apps 1 running 1 lent 0
    101 ∷ 110 ∷ 100 ∷ 32 ∷ 97 ∷ 112 ∷ 112 ∷ 115 ∷ 32 ∷ 49 ∷ 32 ∷ 114 ∷ 117 ∷ 110 ∷
    110 ∷ 105 ∷ 110 ∷ 103 ∷ 32 ∷ 49 ∷ 32 ∷ 108 ∷ 101 ∷ 110 ∷ 116 ∷ 32 ∷ 48 ∷ 10 ∷ []

pub record Example : Type 0 where
  pub device : sheet example_tape ≡ example_sheet
  pub log : sheet_of_log example_tape ≡ example_sheet

pub example : Example
unfolding log_lines manifest_place lengths_fit is_tape actions_before digits_within decimal field_or_none answer_text
    line_text lines_text end_line sheet_of sheet sheet_of_log
example = record { device = refl; log = refl }
