-- `put` meets its contract: the bytes replace as many from the end on.
use Rattle.tape.proofs.Kit.{refl}
use Rattle.tape.proofs.Writing.{pasted, same-length}
use Rattle.tape.proofs.Writer.put.Goals as goal

pub returns : goal.returns
returns c =
    let written = pasted c.copy_from_slice.ensures.after c.requires in
    record { written = written; lent = (refl, same-length written) }
