-- `read` meets its contract: at each turn the manifests passed are short enough; after them the definition asks for
-- the same tests of the actions.
use Rattle.tape.proofs.Kit.{◌+◌, ap, ◌∙◌, arith}
use Rattle.tape.proofs.Places.{empty, first-byte, too_many, passed_none, passed-more, passed-cut}
use Rattle.tape.proofs.Places.{passed-long, passed-all, records-many, records-ill, records-whole, counted}
use Rattle.tape.proofs.Tape.read.Goals as goal

pub returns-in_err-first : goal.returns-in_err-first
returns-in_err-first c = rw c.from_residual.ensures (empty _ c.in_err-first.ensures.value)

pub returns-then-count-gt32 : goal.returns-then-count-gt32
returns-then-count-gt32 c = too_many _ (omega (arith, c.from-count.ensures, first-byte _ c.in_ok-first.ensures.value))

pub loop-passed-init : goal.loop-passed-init
loop-passed-init c = (c.from-count.ensures ∙ first-byte _ c.in_ok-first.ensures.value, passed_none _)

pub returns-in_err-length : goal.returns-in_err-length
returns-in_err-length c =
    rw c.from_residual-in_err-length.ensures
    (passed-cut c.loop-passed.invariant.1 (omega arith) c.in_err-length.ensures)

pub returns-then-length-gt1024 : goal.returns-then-length-gt1024
returns-then-length-gt1024 c =
    passed-long c.loop-passed.invariant.1 _ (omega arith) c.in_ok-length.ensures.0 (omega arith)

pub loop-passed-preserved : goal.loop-passed-preserved
loop-passed-preserved c =
    (omega arith, passed-more c.loop-passed.invariant.1 _ c.in_ok-length.ensures.0 (omega arith))

pub returns-in_err-actions : goal.returns-in_err-actions
returns-in_err-actions c =
    rw c.from_residual-in_err-actions.ensures
    (passed-cut c.loop-passed.invariant.1 (omega arith) c.in_err-actions.ensures)

pub returns-then-actions-gt2048 : goal.returns-then-actions-gt2048
returns-then-actions-gt2048 c =
    records-many (passed-all c.loop-passed.invariant.1 (omega arith)) _ c.in_ok-actions.ensures.0 (omega arith)

pub returns-else-records-actions : goal.returns-else-records-actions
returns-else-records-actions c =
    records-ill (passed-all c.loop-passed.invariant.1 (omega arith)) _ c.in_ok-actions.ensures.0
    c.if-records-actions.false

pub invariant_of-result : goal.invariant_of-result
invariant_of-result c =
    let p = passed-all c.loop-passed.invariant.1 (omega arith) in
    let n = c.in_ok-actions.ensures.0 in
    record {
      good = records-whole p _ (omega arith) n (omega arith) (omega arith);
      first = ap (λ at. at + 2) p.place;
      all = counted p n;
      ends = c.if-records-actions.true;
      few = omega arith;
    }
