-- Each turn leaves the answer to the entries after it.
use Rattle.std.proofs.Common.{refl, sym, ◌∙◌, ◌≡◌, Bool, true, arith, length, [], List, ◌∷◌}
use Rattle.std.proofs.lemmas.Fn.{says_at_two}
use Rattle.rules.specs.Lists.{any, distinct}
use Rattle.device.proofs.Turns.{any-here, any-end}
use Rattle.device.proofs.distinct.Goals as goal

pub loop-other-preserved : goal.loop-other-preserved
loop-other-preserved g c =
    λ equal tells.
    c.loop-other.invariant equal tells
    ∙ any-here (equal _) _ _ _ c.loop-other-test.true c.other-item.is
    ∙ rw (sym (tells _ _ _ (says_at_two g.F.Fn c.same.ensures refl)) ∙ c.if-same.false)

pub returns-then-same : goal.returns-then-same
unfolding distinct
returns-then-same g c =
    λ equal tells.
    let found : any (equal c.in-Some.entry.now) c.in-Some.rest.now ≡ true =
    c.loop-other.invariant equal tells
    ∙ any-here (equal _) _ _ _ c.loop-other-test.true c.other-item.is
    ∙ rw (sym (tells _ _ _ (says_at_two g.F.Fn c.same.ensures refl)) ∙ c.if-same.true) in
    sym (c.loop-entry.invariant equal tells ∙ rw (c.in-Some.ensures.cases.0, found))

pub loop-entry-preserved : goal.loop-entry-preserved
unfolding distinct
loop-entry-preserved g c =
    λ equal tells.
    let none = c.loop-other.invariant equal tells ∙ any-end (equal _) _ _ c.loop-other-test.false in
    c.loop-entry.invariant equal tells ∙ rw (c.in-Some.ensures.cases.0, none)

none_left : {A : Type 0} (equal : A → A → Bool) (l : List A) → length l ≡ 0 → distinct equal l ≡ distinct equal []
none_left equal [] e = refl
none_left equal (x ∷ l) e = absurd (omega arith)

pub returns : goal.returns
unfolding distinct
returns g c =
    λ equal tells.
    sym (c.loop-entry.invariant equal tells ∙ none_left equal c.loop-entry.left.now c.in_default.ensures.cases)
