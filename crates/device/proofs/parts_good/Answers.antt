-- The app's components are few, good and rise by their numbers.
use Rattle.std.proofs.Common.{rules, ◌∙◌, sym, ap, eqb}
use borrow.Author.Tests.{tests}
use Rattle.manifest.specs.Good.{good_component}
use Rattle.rules.specs.declared.Part.{Part}
use Rattle.device.specs.Rising.{few_rising}
use Rattle.device.specs.LookupLaws.{few-map}
use Rattle.device.proofs.parts_good.Goals as goal

pub returns : goal.returns
returns c =
    c.few_rising.ensures (λ (k : Part). eqb k.app c.args.app) (λ k. k.component.number)
    (λ k. good_component k.component) (λ x r k. search (rules, tests)) (λ x r k. search rules) (λ x r k. search rules)
    ∙ ap (few_rising _ _ _ 16 0) c.held.ensures.value
    ∙ sym (few-map (λ k. k.component) (λ k. eqb k.app c.args.app) (λ k. k.number) good_component 16 0 _)
