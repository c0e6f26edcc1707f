-- `run` meets its contract: the two tests are those of the definition, and the lines are those of the run.
use Rattle.std.proofs.Common.{rules}
use Rattle.tape.proofs.Kit.{◌≡◌, arith}
use Rattle.tape.specs.Reading.{held_by}
use Rattle.tape.specs.Filled.{filled}
use Rattle.tape.specs.Ran.{lines_room, lines_of}
use Rattle.tape.proofs.Whole.{no_run, short-run, done-run}
use Rattle.tape.proofs.run.Goals as goal

pub returns-in_default : goal.returns-in_default
returns-in_default c =
    let a = c.args in
    let both = no_run a.tape.now a.out.now (held_by a.d a.lent) c.in_default.ensures c.put_refused.ensures.value
    c.put_refused.ensures.out_after in
    record { value = both.0; out_after = both.1 }

pub returns-then-out-tape : goal.returns-then-out-tape
returns-then-out-tape c =
    let a = c.args in
    let t = c.in-Some.tape in
    let b = c.in-Some.ensures in
    let both = short-run a.tape.now a.out.now (held_by a.d a.lent) (rw b at t.good) (rw b at t.all) (omega arith) in
    record { value = both.0; out_after = both.1 }

pub returns : goal.returns
returns c =
    let a = c.args in
    let t = c.in-Some.tape in
    let b = c.in-Some.ensures in
    let both = done-run a.tape.now a.out.now (held_by a.d a.lent) (rw b at t.good) (rw b at t.all) (omega arith)
    (rw b at c.put_lines.ensures.ran_at) (omega arith) in
    let after : c.put_lines.new.self.buffer.now
    ≡ filled (lines_room a.tape.now) (lines_of a.tape.now (held_by a.d a.lent)) a.out.now
    = both.1 in
    record { value = both.0; out_after = search rules }
