-- `put_refused` meets its contract: the one line is written where it has room.
use Rattle.std.proofs.Common.{rules}
use Rattle.tape.proofs.Kit.{◌≡◌, arith}
use Rattle.history.specs.Sheet.{refused_text}
use Rattle.tape.specs.Filled.{filled}
use Rattle.tape.specs.FilledLaws.{room-short}
use Rattle.tape.proofs.Whole.{done}
use Rattle.tape.proofs.put_refused.Goals as goal

pub returns-then-out-lt13 : goal.returns-then-out-lt13
returns-then-out-lt13 c = let both = room-short _ _ _ (omega arith) in record { value = both.0; out_after = both.1 }

pub returns : goal.returns
returns c =
    let line = c.put.ensures.written in
    let both = done (omega arith) line (omega (arith, line.next)) in
    let after : c.put.new.self.buffer.now ≡ filled 13 refused_text c.args.out.now = both.1 in
    record { value = both.0; out_after = search rules }
