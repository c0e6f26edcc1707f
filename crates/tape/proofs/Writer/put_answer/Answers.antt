-- `put_answer` meets its contract: a ground has one digit, a refusal at most two and a value at most ten.
use Rattle.tape.proofs.Kit.{arith}
use Rattle.tape.proofs.Fields.{ground-field, number-field, value-field, done-written, refused-written}
use Rattle.tape.proofs.Writer.put_answer.Goals as goal

pub put_field-requires : goal.put_field-requires
put_field-requires c = omega (arith, ground-field _ 32 c.in-Ok.is c.from.ensures)

pub put_field-requires-in-Ok : goal.put_field-requires-in-Ok
put_field-requires-in-Ok c =
    omega (arith, ground-field _ 32 c.in-Ok.is c.from.ensures, value-field c.in-Ok.field-0.value 10 (omega arith))

pub put_field-requires-in-Err : goal.put_field-requires-in-Err
put_field-requires-in-Err c = omega (arith, number-field _ 32 c.in-Err.is c.from-in-Err.ensures)

pub put-requires-in-Err : goal.put-requires-in-Err
put-requires-in-Err c = omega (arith, number-field _ 32 c.in-Err.is c.from-in-Err.ensures)

pub returns-in-Ok-clause-written : goal.returns-in-Ok-clause-written
returns-in-Ok-clause-written c =
    done-written c.in-Ok.is c.from.ensures c.put.ensures.written c.put_field.ensures.written
    c.put_field-in-Ok.ensures.written

pub returns-in-Ok-clause-upper_bound : goal.returns-in-Ok-clause-upper_bound
returns-in-Ok-clause-upper_bound c =
    omega (arith, ground-field _ 32 c.in-Ok.is c.from.ensures, value-field c.in-Ok.field-0.value 10 (omega arith))

pub returns-in-Err-clause-written : goal.returns-in-Err-clause-written
returns-in-Err-clause-written c =
    refused-written c.in-Err.is c.from-in-Err.ensures c.put_field-in-Err.ensures.written c.put-in-Err.ensures.written

pub returns-in-Err-clause-upper_bound : goal.returns-in-Err-clause-upper_bound
returns-in-Err-clause-upper_bound c = omega (arith, number-field _ 32 c.in-Err.is c.from-in-Err.ensures)
