-- Each byte is a group.
use Rattle.std.proofs.Common.{rules, ◌∙◌}
use Rattle.std.proofs.lemmas.Iterator.{YieldsList-from_slice}
use Rattle.std.proofs.lemmas.Iterator.Search.{all_from_yields_List}
use borrow.Author.Tests.{tests}
use Rattle.rules.specs.Refusals.{is_group}
use Rattle.device.proofs.bytes_are_groups.Goals as goal

pub returns : goal.returns
unfolding is_group
returns c =
    all_from_yields_List is_group _ _ c.all.result c.all.ensures.ran
    (YieldsList-from_slice _ (c.iter.ensures.rest ∙ c.held.ensures.value)) (λ x b q k. search (rules, tests))
