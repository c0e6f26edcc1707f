-- `changed` meets its contract: at each turn one entry more of the list is changed.
use Rattle.std.proofs.Common.{◌≡◌, ◌<◌, refl, ap, ◌∙◌, length, take, arith, length-take}
use Rattle.std.proofs.lemmas.Fn.{says}
use Rattle.std.proofs.lemmas.List.Edits.{map_over_more}
use Rattle.tables.proofs.Turns.{front, back}
use Rattle.tables.proofs.changed.Goals as goal

pub loop-i-preserved : goal.loop-i-preserved
loop-i-preserved g c =
    let read = c.index-t-i.is in
    let made = rw (← read) at c.change.ensures in
    let t = c.args.table in
    let h : c.loop-i.i < length t.entries =
    omega (arith, rw c.held-i-end.ensures.value at c.loop-i-test.true, length-take t.count t.entries) in (
      c.loop-i.invariant.0,
      λ to gives.
          rw (gives _ _ (says g.F.Fn made refl))
          (map_over_more to t.entries c.loop-i.t.entries c.loop-i.i c.index-t-i.result h
          (c.loop-i.invariant.1 to gives) read),
    )

pub returns : goal.returns
returns g c =
    let t = c.args.table in
    let end : c.loop-i.i ≡ length c.held-i-end.result.now = omega arith in
    let i : c.loop-i.i ≡ length (take t.count t.entries) = end ∙ ap length c.held-i-end.ensures.value in
    λ to gives.
    let entries = rw (i, front, back) at (c.loop-i.invariant.1 to gives) in
    λ j. record { entries = entries j; count = c.loop-i.invariant.0 j }
