-- Each turn leaves the answer to the entries after it, with the room and the key that are left.
use Rattle.std.proofs.Common.{refl, sym, ◌∙◌}
use Rattle.std.proofs.lemmas.Fn.{says_at}
use Rattle.device.proofs.Turns.{rises-skip, rises-next, rises-stop, rises-end}
use Rattle.device.proofs.few_rising.Goals as goal
use Rattle.device.proofs.few_rising.Goals.{then-is_mine+else-not-fits, else-is_mine}

pub returns-then-not-fits : goal.returns-then-not-fits
returns-then-not-fits g c =
    λ mine by ok tells says good.
    sym (c.loop-entry.invariant mine by ok tells says good
    ∙ rises-stop mine by ok c.loop-entry.left c.loop-entry.low _ _ _ c.loop-entry-test.true c.entry-item.is
    (sym (tells _ _ (says_at g.M.Fn c.is_mine.ensures refl)) ∙ c.if-is_mine.true)
    (rw (
      ← says _ _ (says_at g.K.Fn c.key-next.ensures refl),
      ← good _ _ (says_at g.G.Fn c.is_good.ensures refl),
    ) c.if-not-fits.true))

pub loop-entry-preserved : goal.loop-entry-preserved
loop-entry-preserved g c =
    λ mine by ok tells says good.
    let told = sym (tells _ _ (says_at g.M.Fn c.is_mine.ensures refl)) in
    c.loop-entry.invariant mine by ok tells says good
    ∙ elim c.if-is_mine.branch [
      | then-is_mine+else-not-fits w ↦
          let next = says _ _ (says_at g.K.Fn w.key-next.ensures refl) in
          rises-next mine by ok c.loop-entry.left c.loop-entry.low _ _ _ c.loop-entry-test.true c.entry-item.is
          (told ∙ w.if-is_mine.true)
          (rw (← next, ← good _ _ (says_at g.G.Fn w.is_good.ensures refl)) w.if-not-fits.false)
          ∙ rw (w.left-is, w.low-is, next)
      | else-is_mine w ↦
          rises-skip mine by ok c.loop-entry.left c.loop-entry.low _ _ _ c.loop-entry-test.true c.entry-item.is
          (told ∙ w.if-is_mine.false)
          ∙ rw (w.left-is, w.low-is)
    ]

pub returns : goal.returns
returns g c =
    λ mine by ok tells says good.
    sym (c.loop-entry.invariant mine by ok tells says good ∙ rises-end mine by ok _ _ _ _ c.loop-entry-test.false)
