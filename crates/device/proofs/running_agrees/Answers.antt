-- Each turn brings one instance more of the list.
use Rattle.std.proofs.Common.{◌∙◌, ◌<◌, get_or, arith, length, take, take_all, length-take}
use Rattle.std.proofs.lemmas.List.{take_more}
use Rattle.state.specs.Stored.{zero_instance}
use Rattle.state.proofs.Zeros.{instance-zero}
use Rattle.tables.specs.HeldLaws.{instance-more}
use Rattle.device.specs.LookupLaws.{mask-none}
use Rattle.device.proofs.running_agrees.Goals as goal

pub loop-instance-init : goal.loop-instance-init
loop-instance-init c =
    rw (c.empty.ensures, instance-zero c.default.result c.default.ensures, mask-none)

pub loop-instance-preserved : goal.loop-instance-preserved
loop-instance-preserved c =
    let i = c.loop-instance.instance-index in
    let l = c.held-instance-items.result.now in
    let below = c.loop-instance-test.true in
    let few : length (take i l) < 64 = omega (arith, length-take i l, c.held-instance-items.ensures.room) in
    c.append_instance-brought.ensures
    ∙ rw (c.loop-instance.invariant, take_more l i zero_instance below)
    (instance-more (take i l) (get_or l i zero_instance) few)

pub returns : goal.returns
returns c =
    rw (c.loop-instance.invariant, take_all _ _ c.loop-instance-test.false, c.held-instance-items.ensures.value)
