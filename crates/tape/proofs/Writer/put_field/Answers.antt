-- `put_field` meets its contract: the number as it is printed, then one byte.
use Rattle.tape.proofs.Kit.{◌≡◌, ap, ◌∙◌, arith}
use Rattle.std.specs.Prelude.{ℕ, length}
use Rattle.std.specs.Fmt.{decimal as printed}
use Rattle.tape.proofs.Decimal.{as-printed}
use Rattle.tape.proofs.Writing.{then}
use Rattle.tape.proofs.Fields.{length-printed}
use Rattle.tape.proofs.Writer.put_field.Goals as goal

-- what is printed is the number, however the code says it
number : (n : ℕ) {m : ℕ} → m ≡ n → printed m ≡ printed n
number n e = ap printed e

pub put-requires : goal.put-requires
put-requires c =
    let text = c.as_bytes.ensures.value ∙ c.format.ensures.text ∙ number c.args.n (omega arith) in
    omega (arith, ap length text, length-printed c.args.n c.args.ending (omega arith))

pub put-requires-2 : goal.put-requires-2
put-requires-2 c =
    let text = c.as_bytes.ensures.value ∙ c.format.ensures.text ∙ number c.args.n (omega arith) in
    omega (arith, ap length text, length-printed c.args.n c.args.ending (omega arith))

pub returns-clause-written : goal.returns-clause-written
returns-clause-written c =
    let text = c.as_bytes.ensures.value ∙ c.format.ensures.text ∙ number c.args.n (omega arith) in
    then (rw (as-printed c.args.n (omega arith)) (rw text at c.put.ensures.written)) c.put-2.ensures.written
