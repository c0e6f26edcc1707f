-- The uses are few, good and rise.
use Rattle.std.proofs.Common.{rules, ◌∙◌, ap, true, ℕ}
use borrow.Author.Tests.{tests}
use Rattle.manifest.specs.Good.{good_use, good_uses}
use Rattle.state.specs.Listed.{list_in}
use Rattle.device.specs.Rising.{few_rising}
use Rattle.device.specs.LookupLaws.{keep-all}
use Rattle.device.proofs.uses_good.Goals as goal

pub returns : goal.returns
returns c =
    c.few_rising.ensures (λ (p : ℕ). true) (λ p. p) good_use
    (λ x r k. search (rules, tests)) (λ x r k. search rules) (λ x r k. search (rules, tests))
    ∙ ap (few_rising (λ p. true) (λ p. p) good_use 32 0) c.held.ensures.value
    ∙ ap good_uses (keep-all (list_in c.args.t.now))
