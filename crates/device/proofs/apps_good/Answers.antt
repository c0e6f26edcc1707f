-- The search over the apps is the one over their rows.
use Rattle.std.proofs.Common.{rules, ◌∙◌, sym, map}
use Rattle.std.proofs.lemmas.Iterator.{YieldsList-from_slice}
use Rattle.std.proofs.lemmas.Iterator.Search.{all_from_yields_List}
use Rattle.rules.specs.ListsLaws.{all_map}
use Rattle.state.specs.declared.App.{App}
use Rattle.state.specs.Stored.{row_of}
use Rattle.tables.specs.Held.{apps_in, rows_in, definitions_in, parts_in, resources_in}
use Rattle.device.specs.Tests.{with_provider, dangerous_in, good_row_by}
use Rattle.device.proofs.apps_good.Goals as goal

pub returns : goal.returns
returns c =
    let d = c.args.d.now in
    let good =
    good_row_by (definitions_in d.definitions) (parts_in d.parts)
    (map (with_provider (parts_in d.parts)) (resources_in d.resources))
    (dangerous_in (rows_in d.apps) (definitions_in d.definitions)) in
    all_from_yields_List (λ (a : App). good (row_of a)) _ _ c.all.result c.all.ensures.ran
    (YieldsList-from_slice _ (c.iter.ensures.rest ∙ c.held.ensures.value)) (λ x b q k. search rules)
    ∙ sym (all_map good row_of (apps_in d.apps))
