-- `put_counts` meets its contract: three words, each with its count after it.
use Rattle.tape.proofs.Kit.{arith}
use Rattle.tape.proofs.Fields.{count-field, counts-written}
use Rattle.tape.proofs.Writer.put_counts.Goals as goal

pub put_field-requires : goal.put_field-requires
put_field-requires c = omega (arith, count-field c.args.apps 32 (omega arith))

pub put-requires-2 : goal.put-requires-2
put-requires-2 c = omega (arith, count-field c.args.apps 32 (omega arith))

pub put_field-requires-2 : goal.put_field-requires-2
put_field-requires-2 c =
    let a = c.args in
    omega (arith, count-field a.apps 32 (omega arith), count-field a.running 32 (omega arith))

pub put-requires-3 : goal.put-requires-3
put-requires-3 c =
    let a = c.args in
    omega (arith, count-field a.apps 32 (omega arith), count-field a.running 32 (omega arith))

pub put_field-requires-3 : goal.put_field-requires-3
put_field-requires-3 c =
    let a = c.args in
    omega (
      arith,
      count-field a.apps 32 (omega arith),
      count-field a.running 32 (omega arith),
      count-field a.lent 10 (omega arith),
    )

pub returns-clause-written : goal.returns-clause-written
returns-clause-written c =
    let a = c.args in
    counts-written a.apps a.running a.lent c.put.ensures.written c.put_field.ensures.written c.put-2.ensures.written
    c.put_field-2.ensures.written c.put-3.ensures.written c.put_field-3.ensures.written

pub returns-clause-upper_bound : goal.returns-clause-upper_bound
returns-clause-upper_bound c =
    let a = c.args in
    omega (
      arith,
      count-field a.apps 32 (omega arith),
      count-field a.running 32 (omega arith),
      count-field a.lent 10 (omega arith),
    )
