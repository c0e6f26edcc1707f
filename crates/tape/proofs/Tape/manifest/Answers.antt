-- `manifest` meets its contract: in a tape every manifest that is passed is there.
use Rattle.tape.proofs.Kit.{arith}
use Rattle.history.specs.TapeLaws.{place-first}
use Rattle.tape.proofs.Places.{place-ends, place-there}
use Rattle.tape.proofs.Tape.manifest.Goals as goal

pub loop-passed-init : goal.loop-passed-init
loop-passed-init c = place-first _

pub overflow_add-at : goal.overflow_add-at
overflow_add-at c =
    let l = c.loop-passed in
    omega (arith, place-ends _ c.args.self.now.good l._passed (omega arith) l.invariant)

pub u16_at-requires : goal.u16_at-requires
u16_at-requires c =
    let l = c.loop-passed in
    omega (arith, place-ends _ c.args.self.now.good l._passed (omega arith) l.invariant)

pub loop-passed-preserved : goal.loop-passed-preserved
loop-passed-preserved c = place-there _ _ c.loop-passed.invariant c.u16_at.ensures

pub overflow_add-at-in-loop-passed : goal.overflow_add-at-in-loop-passed
overflow_add-at-in-loop-passed c =
    let l = c.loop-passed in
    omega (arith, place-ends _ c.args.self.now.good l._passed (omega arith) l.invariant)

pub overflow_add-first : goal.overflow_add-first
overflow_add-first c =
    let l = c.loop-passed in
    omega (arith, place-ends _ c.args.self.now.good l._passed (omega arith) l.invariant)

pub u16_at-requires-2 : goal.u16_at-requires-2
u16_at-requires-2 c =
    let l = c.loop-passed in
    omega (arith, place-ends _ c.args.self.now.good l._passed (omega arith) l.invariant)

pub overflow_add-last : goal.overflow_add-last
overflow_add-last c =
    let l = c.loop-passed in
    omega (arith, place-ends _ c.args.self.now.good l._passed (omega arith) l.invariant)

pub slice_bounds-result-end-2 : goal.slice_bounds-result-end-2
slice_bounds-result-end-2 c =
    let l = c.loop-passed in
    omega (arith, place-ends _ c.args.self.now.good l._passed (omega arith) l.invariant)
