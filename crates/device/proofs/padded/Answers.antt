-- The places past the count are all empty; where the count is past the array, the test fails.
use Rattle.std.proofs.Common.{ℕ, ◌≡◌, ◌≤◌, ◌-◌, Bool, List, length, take, take_all, drop, length-drop}
use Rattle.std.proofs.Common.{refl, sym, ◌∙◌, arith}
use Rattle.std.proofs.lemmas.Bool.{le-leb}
use Rattle.std.proofs.lemmas.Fn.{says_at}
use Rattle.rules.specs.Lists.{all}
use Rattle.state.specs.Stored.{pads}
use Rattle.device.proofs.Turns.{all-here, all-end}
use Rattle.device.proofs.padded.Goals as goal

-- the test of a table whose count is not past its array
unused : {A : Type 0} (test : A → Bool) (l : List A) (room count : ℕ) → length l ≡ room → count ≤ length l
    → (rest : List A) → rest ≡ take (length l - count) (drop count l) → pads test room l count ≡ all test rest
unused test l room count size below rest is =
    rw (
      le-leb count room (omega arith),
      is ∙ take_all (length l - count) (drop count l) (omega (arith, length-drop count l)),
    )

pub loop-entry-preserved : goal.loop-entry-preserved
loop-entry-preserved g c =
    λ test tells.
    c.loop-entry.invariant test tells
    ∙ all-here test _ _ _ c.loop-entry-test.true c.entry-item.is
    ∙ rw (sym (tells _ _ (says_at g.F.Fn c.is_empty.ensures refl)) ∙ c.if-not-is_empty.false)

pub returns-then-not-is_empty : goal.returns-then-not-is_empty
returns-then-not-is_empty g c =
    λ test tells.
    let size : length c.args.table.now.entries ≡ g.row.ROOM = omega arith in
    let told = c.in-Some.ensures.lookup.0 in
    sym (unused test _ g.row.ROOM _ size told.0 c.in-Some.unused.now told.2
    ∙ c.loop-entry.invariant test tells
    ∙ all-here test _ _ _ c.loop-entry-test.true c.entry-item.is
    ∙ rw (sym (tells _ _ (says_at g.F.Fn c.is_empty.ensures refl)) ∙ c.if-not-is_empty.true))

pub returns : goal.returns
returns g c =
    λ test tells.
    let size : length c.args.table.now.entries ≡ g.row.ROOM = omega arith in
    let told = c.in-Some.ensures.lookup.0 in
    sym (unused test _ g.row.ROOM _ size told.0 c.in-Some.unused.now told.2
    ∙ c.loop-entry.invariant test tells
    ∙ all-end test _ _ c.loop-entry-test.false)
