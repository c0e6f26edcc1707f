-- `any_entry` meets its contract: an entry passes, or the search goes on with the rest.
use Rattle.std.proofs.Common.{refl, sym, ◌∙◌}
use Rattle.std.proofs.lemmas.Fn.{says}
use Rattle.answers.proofs.Entries.{begin, one-more, none_more}
use Rattle.answers.proofs.any_entry.Goals as goal

pub loop-k-init : goal.loop-k-init
loop-k-init g c = λ test gives. begin test c.args.size c.args.section.first c.args.section.count

pub returns-then-passes : goal.returns-then-passes
returns-then-passes g c =
    λ test gives.
    let told = gives _ _ (says g.F.Fn c.passes.ensures refl) in
    sym
    (c.loop-k.invariant test gives
    ∙ one-more test c.args.size c.args.section.first c.args.section.count c.loop-k.k (rw c.from-k-end.ensures at c.loop-k-test.true)
    ∙ rw (sym told ∙ c.if-passes.true))

pub loop-k-preserved : goal.loop-k-preserved
loop-k-preserved g c =
    λ test gives.
    let told = gives _ _ (says g.F.Fn c.passes.ensures refl) in
    c.loop-k.invariant test gives
    ∙ one-more test c.args.size c.args.section.first c.args.section.count c.loop-k.k (rw c.from-k-end.ensures at c.loop-k-test.true)
    ∙ rw (sym told ∙ c.if-passes.false)

pub returns : goal.returns
returns g c =
    λ test gives.
    sym
    (c.loop-k.invariant test gives
    ∙ none_more test c.args.size c.args.section.first c.args.section.count c.loop-k.k (rw c.from-k-end.ensures at c.loop-k-test.false))
