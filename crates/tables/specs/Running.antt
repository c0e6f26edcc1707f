-- The running numbers as the code keeps them: the digit of one number, and the lowest number that is free.
use Rattle.std.specs.Prelude.{ℕ, ◌+◌, ◌-◌, ◌^◌, eqb}
use Rattle.std.specs.Int.Count.{count_trailing_zeros}
use Rattle.state.specs.Stored.{digits_of}

-- the number whose one digit is that of instance n; 0 where n is none of 1 to 64
unfoldable pub digit_of : ℕ → ℕ
digit_of n = digits_of (eqb n) 1 64

-- all digits but those of m
abbrev pub without : ℕ → ℕ
without m = (2 ^ 64 - 1) - m

-- the lowest of 1 to 64 whose digit is not in m, and else 65
abbrev pub next_of : ℕ → ℕ
next_of m = count_trailing_zeros 64 (without m) + 1
