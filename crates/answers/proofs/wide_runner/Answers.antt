-- `wide_runner` meets its contract: instance, component and app are the first of their numbers.
use Rattle.std.proofs.Common.{rules, sym, ◌∙◌}
use Rattle.std.proofs.lemmas.Iterator.{YieldsList-from_slice}
use Rattle.std.proofs.lemmas.Iterator.Search.{find_from_yields_List}
use borrow.Author.Tests.{tests}
use Rattle.rules.specs.Lists.{bind, map_option}
use Rattle.state.specs.Tables.{part_at, run_in}
use Rattle.tables.specs.Finding.{is_app, is_instance}
use Rattle.tables.specs.Held.{apps_in}
use Rattle.tables.specs.FindingLaws.{first, first-some, first_none}
use Rattle.tables.specs.Looking.{runner_in}
use Rattle.answers.proofs.wide_runner.Goals as goal
use Rattle.answers.proofs.wide_runner.Goals.{Start}

pub returns-in_err-instance : goal.returns-in_err-instance
unfolding runner_in run_in map_option bind
returns-in_err-instance c =
    let asked = c.copied.ensures
    ∙ find_from_yields_List (is_instance c.args.number) _ _ c.find.result c.find.ensures.ran
    (YieldsList-from_slice _ (c.iter.ensures.rest ∙ c.held.ensures.value)) (λ x b q k. search (rules, tests)) in
    c.from_residual.ensures ∙ rw (first_none _ _ (sym asked ∙ c.in_err-instance.was))

pub returns-in_err-part : goal.returns-in_err-part
unfolding runner_in run_in part_at map_option bind
returns-in_err-part c =
    let asked = c.copied.ensures
    ∙ find_from_yields_List (is_instance c.args.number) _ _ c.find.result c.find.ensures.ran
    (YieldsList-from_slice _ (c.iter.ensures.rest ∙ c.held.ensures.value)) (λ x b q k. search (rules, tests)) in
    c.from_residual-in_err-part.ensures
    ∙ rw (
      first-some _ _ _ (sym asked ∙ c.in_ok-instance.was),
      first_none _ _ (sym c.part_of.ensures ∙ c.in_err-part.was),
    )

pub returns : goal.returns
unfolding runner_in run_in part_at map_option bind
returns c =
    let asked = c.copied.ensures
    ∙ find_from_yields_List (is_instance c.args.number) _ _ c.find.result c.find.ensures.ran
    (YieldsList-from_slice _ (c.iter.ensures.rest ∙ c.held.ensures.value)) (λ x b q k. search (rules, tests)) in
    c.app_of.ensures ∙ first (is_app c.in_ok-part.part.app) (apps_in c.args.d.apps)
    ∙ rw (
      first-some _ _ _ (sym asked ∙ c.in_ok-instance.was),
      first-some _ _ _ (sym c.part_of.ensures ∙ c.in_ok-part.was),
    )
