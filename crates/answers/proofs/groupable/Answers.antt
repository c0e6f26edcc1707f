-- `groupable` meets its contract: the library's search over what the app lists.
use Rattle.std.proofs.Common.{rules, ℕ, ◌∙◌, ◌&&◌, [], eqb}
use Rattle.std.proofs.lemmas.Iterator.{YieldsList-from_slice}
use Rattle.std.proofs.lemmas.Iterator.Search.{any_from_yields_List}
use borrow.Author.Tests.{tests}
use Rattle.rules.specs.Lists.{test}
use Rattle.rules.specs.Permissions.{known, dangerous}
use Rattle.rules.specs.Refusals.{groupable}
use Rattle.answers.specs.Answering.{view_in}
use Rattle.answers.proofs.groupable.Goals as goal

pub returns : goal.returns
unfolding groupable
returns c =
    any_from_yields_List
    (λ (p : ℕ). test (known (view_in c.args.d []) p) (λ k. dangerous k && eqb k.group c.args.group)) _ _ c.any.result
    c.any.ensures.ran (YieldsList-from_slice _ (c.iter.ensures.rest ∙ c.held.ensures.value))
    (λ x b q k. search (rules, tests))
