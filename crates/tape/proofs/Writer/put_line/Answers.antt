-- `put_line` meets its contract: the place has at most four digits and the code three, and the answer follows them.
use Rattle.tape.proofs.Kit.{arith}
use Rattle.tape.proofs.Fields.{code-field, place-field, same-field, line-written}
use Rattle.tape.proofs.Writer.put_line.Goals as goal

pub put_field-requires : goal.put_field-requires
put_field-requires c = omega (arith, place-field c.args.place 32 c.requires.0)

pub put_field-requires-2 : goal.put_field-requires-2
put_field-requires-2 c =
    omega (arith, place-field c.args.place 32 c.requires.0, code-field c.from.result 32 (omega (arith, c.from.ensures)))

pub put_answer-requires : goal.put_answer-requires
put_answer-requires c =
    omega (arith, place-field c.args.place 32 c.requires.0, code-field c.from.result 32 (omega (arith, c.from.ensures)))

pub returns-clause-written : goal.returns-clause-written
returns-clause-written c =
    let a = c.args in
    line-written a.place a.code a.answer c.put_field.ensures.written
    (same-field 32 c.from.ensures c.put_field-2.ensures.written) c.put_answer.ensures.written

pub returns-clause-upper_bound : goal.returns-clause-upper_bound
returns-clause-upper_bound c =
    omega (arith, place-field c.args.place 32 c.requires.0, code-field c.from.result 32 (omega (arith, c.from.ensures)))
