-- `first_change` meets its contract: the library's search over the pairs of records.
use Rattle.std.proofs.Common.{rules, ◌∙◌, ap, Option}
use Rattle.std.specs.Option.{unwrap_or}
use Rattle.std.specs.Slice.Iter.{iter_rest}
use Rattle.std.proofs.lemmas.Iterator.{YieldsList-from_slice, YieldsList-from_zip}
use Rattle.std.proofs.lemmas.Iterator.Search.{position_from_yields_List}
use borrow.Author.Tests.{tests}
use Rattle.loans.proofs.Same.{differing, first_found}
use Rattle.loans.proofs.Sizes.{table-long}
use Rattle.loans.proofs.first_change.Goals as goal

pub returns : goal.returns
returns c =
    let a = c.args in
    c.unwrap_or.ensures
    ∙ ap (λ (r : Option _). unwrap_or r 128)
    (position_from_yields_List differing c.position.new.self _ c.position.result c.position.ensures.ran
    (YieldsList-from_zip (YieldsList-from_slice a.old (ap iter_rest c.zip.ensures.first ∙ c.iter.ensures.rest))
    (YieldsList-from_slice a.new (ap iter_rest c.zip.ensures.second ∙ c.iter-2.ensures.rest)))
    (λ x b q k. search (rules, tests)))
    ∙ first_found a.old a.new 128 (table-long a.old c.well_formed.0) (table-long a.new c.well_formed.1.0)
