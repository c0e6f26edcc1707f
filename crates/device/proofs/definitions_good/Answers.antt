-- The app's definitions are few, good and rise by their permissions.
use Rattle.std.proofs.Common.{rules, ◌∙◌, sym, ap, eqb}
use borrow.Author.Tests.{tests}
use Rattle.manifest.specs.Good.{good_define}
use Rattle.rules.specs.declared.Definition.{Definition}
use Rattle.device.specs.Rising.{few_rising}
use Rattle.device.specs.LookupLaws.{few-map}
use Rattle.device.proofs.definitions_good.Goals as goal

pub returns : goal.returns
returns c =
    c.few_rising.ensures (λ (d : Definition). eqb d.app c.args.app) (λ d. d.define.permission)
    (λ d. good_define d.define) (λ x r k. search (rules, tests)) (λ x r k. search rules) (λ x r k. search rules)
    ∙ ap (few_rising _ _ _ 16 0) c.held.ensures.value
    ∙ sym (few-map (λ d. d.define) (λ d. eqb d.app c.args.app) (λ d. d.permission) good_define 16 0 _)
