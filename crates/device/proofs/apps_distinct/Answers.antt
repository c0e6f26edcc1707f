-- Apps differ exactly if their rows do.
use Rattle.std.proofs.Common.{rules, ◌∙◌, sym, eqb, ap}
use borrow.Author.Tests.{tests}
use Rattle.rules.specs.Lists.{distinct}
use Rattle.rules.specs.ListsLaws.{distinct-image}
use Rattle.state.specs.declared.App.{App}
use Rattle.state.specs.Valid.{same_app}
use Rattle.state.specs.Stored.{row_of}
use Rattle.device.proofs.apps_distinct.Goals as goal

pub returns : goal.returns
returns c =
    c.distinct.ensures (λ (a b : App). eqb a.number b.number) (λ x y r k. search (rules, tests))
    ∙ ap (distinct _) c.held.ensures.value
    ∙ sym (distinct-image same_app row_of _)
