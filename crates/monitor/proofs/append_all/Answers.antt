-- `append_all` meets its contract: at each turn the whole table is the table for the entries that are left.
use Rattle.monitor.proofs.Kit.{◌+◌, ◌-◌, ◌*◌, ◌<◌, ◌≡◌, refl, sym, ◌∙◌, arith, section-next, section-ends}
use Rattle.std.proofs.Math.Nat.{mul-suc}
use Rattle.std.proofs.lemmas.Fn.{says}
use Rattle.monitor.proofs.append_all.Goals as goal

pub loop-k-preserved : goal.loop-k-preserved
loop-k-preserved g c =
    λ step steps.
    let a = c.args in
    let k = c.loop-k.k in
    let made = rw c.from.ensures at c.append-t.ensures in
    let more : 0 < a.section.count - k = omega arith in
    let next : a.section.first + a.size * k + a.size ≡ a.section.first + a.size * (k + 1) =
    omega (arith, mul-suc a.size k) in
    let left : a.section.count - k - 1 ≡ a.section.count - (k + 1) = omega arith in
    let turn = section-next step (λ at. at) a.size c.loop-k.t c.append-t.result (a.section.first + a.size * k)
    (a.section.count - k) _ more refl (steps _ _ _ (says g.F.Fn made refl)) in
    c.loop-k.invariant step steps ∙ (rw (next, left) at turn)

pub returns : goal.returns
returns g c =
    λ step steps.
    sym (c.loop-k.invariant step steps ∙ section-ends step (λ at. at) c.args.size _ _ _ (omega arith))
