-- `main` is safe: the bytes that it writes are within the buffer that holds the sheet.
use Rattle.std.proofs.Common.{refl}
use Rattle.tape.specs.FilledLaws.{bytes_inside}
use Rattle.sheet.proofs.main.Goals as goal

pub slice_bounds-out-end : goal.slice_bounds-out-end
slice_bounds-out-end c = (bytes_inside _ _ _ refl c.in-Ok.ensures.value c.in-Ok.ensures.out_after).0

pub slice_bounds-write_or_say-end : goal.slice_bounds-write_or_say-end
slice_bounds-write_or_say-end c = (bytes_inside _ _ _ refl c.in-Ok.ensures.value c.in-Ok.ensures.out_after).1
