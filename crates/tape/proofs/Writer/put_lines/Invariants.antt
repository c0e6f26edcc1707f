-- `put_lines` meets its contract: at each turn device and lent table are those of the run and the lines so far are
-- written.
use Rattle.tape.proofs.Kit.{◌+◌, ◌*◌, ◌≤◌}
use Rattle.tape.specs.Written.{SameBuffer}
use Rattle.tape.specs.Reading.{held_by}
use Rattle.tape.specs.Ran.{RanAt}
use Rattle.tape.proofs.Writer.put_lines.Given as goal

abbrev pub invariant-loop-i : goal.invariant-loop-i
invariant-loop-i l =
    (l.self.end ≤ l.initial.self.end + 24 * l.i)
    × SameBuffer l.initial.self l.self
    × RanAt l.tape.bytes.now (held_by l.initial.d l.initial.lent) l.initial.self.buffer.now l.initial.self.end l.i
    (held_by l.d l.lent) l.self.buffer.now l.self.end
