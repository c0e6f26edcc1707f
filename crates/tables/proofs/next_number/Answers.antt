-- `next_number` meets its contract: there are at most 64 trailing zeros, so that one more fits.
use Prim.Native.Nat.{◌^◌}
use Rattle.std.proofs.Common.{◌-◌, arith}
use lib.Count.{trailing_le}
use Rattle.tables.proofs.next_number.Goals as goal

pub overflow_add-result : goal.overflow_add-result
overflow_add-result c = omega (arith, trailing_le 64 ((2 ^ 64 - 1) - c.args.instances.running))
