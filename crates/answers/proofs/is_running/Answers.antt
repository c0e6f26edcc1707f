-- `is_running` meets its contract: the library's search over the numbers 1 to 64.
use Rattle.std.proofs.Common.{rules, ℕ, [], refl}
use Rattle.std.proofs.lemmas.Iterator.{YieldsList-from_range}
use Rattle.std.proofs.lemmas.Iterator.Search.{any_from_yields_List}
use borrow.Author.Tests.{tests}
use Rattle.rules.specs.Lists.{upto}
use Rattle.rules.specs.Refusals.{is_running}
use Rattle.answers.specs.Answering.{view_in, is_of}
use Rattle.answers.proofs.is_running.Goals as goal

pub returns : goal.returns
unfolding is_running upto
returns c =
    any_from_yields_List (λ (n : ℕ). is_of (view_in c.args.d []) c.args.app n) _ _ c.any.result c.any.ensures.ran
    (YieldsList-from_range 1 65 64 refl refl) (λ x b q k. search (rules, tests))
