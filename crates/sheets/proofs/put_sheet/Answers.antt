-- `put_sheet` meets its contract: the sheet is within the part of the buffer that was lent for it.
use Rattle.std.proofs.Common.{arith, refl}
use Rattle.tape.specs.FilledLaws.{bytes_inside}
use Rattle.sheets.proofs.put_sheet.Goals as goal

pub overflow_sub-room-2 : goal.overflow_sub-room-2
overflow_sub-room-2 c =
    omega (
      arith,
      (bytes_inside _ _ _ refl c.in-Ok.ensures.value c.in-Ok.ensures.out_after).0,
      c.sheet_of.auto.out,
    )
