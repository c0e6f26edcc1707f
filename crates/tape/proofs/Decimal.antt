-- The decimal of a number below 2 ^ 64 is what the library prints.
use Prim.Native.Nat.{ℕ, ◌<◌, ◌^◌}
use mathlib.Core.Path.{◌≡◌}
use native.Mathlib.Omega.{arith}
use borrow.Author.Tests.{lt-ltb, le-ltb}
use Rattle.std.specs.Fmt.{decimal as printed}
use Rattle.std.proofs.lemmas.Fmt.{AppendsLastDigit, decimal_from_appends, length-decimal-le}
use Rattle.history.specs.Sheet.{digits_within, decimal}

last-digit : AppendsLastDigit digits_within
unfolding digits_within
last-digit = record { one = λ k n h. rw (lt-ltb n 10 h); more = λ k n h. rw (le-ltb n 10 h) }

pub as-printed : (n : ℕ) → n < 2 ^ 64 → decimal n ≡ printed n
unfolding decimal
as-printed n h =
    decimal_from_appends digits_within last-digit 20 n h (length-decimal-le 20 n (omega arith) (omega arith) h)
