-- `granted` meets its contract: the search over the apps is the one over their rows.
use Rattle.std.proofs.Common.{rules, ◌∙◌, sym, ◌&&◌, eqb}
use Rattle.std.proofs.lemmas.Iterator.{YieldsList-from_slice}
use Rattle.std.proofs.lemmas.Iterator.Search.{any_from_yields_List}
use borrow.Author.Tests.{tests}
use Rattle.rules.specs.Lists.{mem}
use Rattle.state.specs.declared.App.{App}
use Rattle.state.specs.Listed.{list_in}
use Rattle.tables.specs.LookingLaws.{granted-any}
use Rattle.tables.proofs.granted.Goals as goal

pub returns : goal.returns
returns c =
    any_from_yields_List (λ (a : App). eqb a.number c.args.app && mem c.args.permission (list_in a.grants)) _ _
    c.any.result c.any.ensures.ran (YieldsList-from_slice _ (c.iter.ensures.rest ∙ c.held.ensures.value))
    (λ x b q k. search (rules, tests))
    ∙ sym (granted-any _ c.args.app c.args.permission)
