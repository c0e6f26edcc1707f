-- `sheet_of` meets its contract: the two tests are those of the definition, and first line, lines and last line are
-- written one after the other.
use Rattle.std.proofs.Common.{rules}
use Rattle.tape.proofs.Kit.{◌≡◌, arith}
use Rattle.history.specs.Sheet.{sheet}
use Rattle.tape.specs.Filled.{filled, sheet_room}
use Rattle.tape.proofs.Fields.{place-field}
use Rattle.tape.proofs.Whole.{no-sheet, short-sheet, done-sheet}
use Rattle.tape.proofs.sheet_of.Goals as goal

pub returns-in_default : goal.returns-in_default
returns-in_default c =
    let both = no-sheet c.args.tape.now c.args.out.now c.in_default.ensures c.put_refused.ensures.value
    c.put_refused.ensures.out_after in
    record { value = both.0; out_after = both.1 }

pub returns-then-out-tape : goal.returns-then-out-tape
returns-then-out-tape c =
    let t = c.in-Some.tape in
    let b = c.in-Some.ensures in
    let both = short-sheet c.args.tape.now c.args.out.now (rw b at t.good) (rw b at t.all) (omega arith) in
    record { value = both.0; out_after = both.1 }

pub put_field-requires : goal.put_field-requires
put_field-requires c = omega (arith, place-field c.in-Some.tape.actions 10 (omega arith))

pub put_run-requires : goal.put_run-requires
put_run-requires c = omega (arith, place-field c.in-Some.tape.actions 10 (omega arith))

pub returns : goal.returns
returns c =
    let a = c.args in
    let t = c.in-Some.tape in
    let b = c.in-Some.ensures in
    let both = done-sheet a.tape.now a.out.now (rw b at t.good) (rw b at t.all) (omega arith)
    c.put.ensures.written c.put_field.ensures.written (rw b at c.put_run.ensures.written)
    (omega (arith, place-field t.actions 10 (omega arith))) in
    let after : c.put_run.new.self.buffer.now ≡ filled (sheet_room a.tape.now) (sheet a.tape.now) a.out.now
    = both.1 in
    record { value = both.0; out_after = search rules }
