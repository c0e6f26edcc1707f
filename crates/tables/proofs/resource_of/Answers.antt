-- `resource_of` meets its contract: the library's search over the list.
use Rattle.std.proofs.Common.{rules, ◌∙◌}
use Rattle.std.proofs.lemmas.Iterator.{YieldsList-from_slice}
use Rattle.std.proofs.lemmas.Iterator.Search.{find_from_yields_List}
use borrow.Author.Tests.{tests}
use Rattle.state.specs.Tables.{is_resource}
use Rattle.tables.proofs.resource_of.Goals as goal

pub returns : goal.returns
returns c =
    c.copied.ensures
    ∙ find_from_yields_List (is_resource c.args.provider c.args.uri) _ _ c.find.result c.find.ensures.ran
    (YieldsList-from_slice _ (c.iter.ensures.rest ∙ c.held.ensures.value)) (λ x b q k. search (rules, tests))
