-- The search over the apps is the one over their rows.
use Rattle.std.proofs.Common.{rules, ◌∙◌, sym, ltb}
use Rattle.std.proofs.lemmas.Iterator.{YieldsList-from_slice}
use Rattle.std.proofs.lemmas.Iterator.Search.{all_from_yields_List}
use borrow.Author.Tests.{tests}
use Rattle.rules.specs.ListsLaws.{all_map}
use Rattle.state.specs.declared.App.{App}
use Rattle.state.specs.Tables.{app_number}
use Rattle.state.specs.Stored.{row_of}
use Rattle.tables.specs.Held.{apps_in}
use Rattle.device.proofs.apps_numbered.Goals as goal

pub returns : goal.returns
returns c =
    all_from_yields_List (λ (a : App). ltb 0 a.number) _ _ c.all.result c.all.ensures.ran
    (YieldsList-from_slice _ (c.iter.ensures.rest ∙ c.held.ensures.value)) (λ x b q k. search (rules, tests))
    ∙ sym (all_map (λ r. ltb 0 (app_number r)) row_of (apps_in c.args.t.now))
