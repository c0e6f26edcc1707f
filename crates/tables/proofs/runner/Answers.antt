-- `runner` meets its contract: the instance, its component and that component's app are the first of their numbers.
use Rattle.std.proofs.Common.{sym, ◌∙◌}
use Rattle.rules.specs.Lists.{bind, map_option}
use Rattle.state.specs.Tables.{part_at, run_in}
use Rattle.tables.specs.Finding.{is_app}
use Rattle.tables.specs.Held.{apps_in}
use Rattle.tables.specs.FindingLaws.{first, first-some, first_none}
use Rattle.tables.specs.Looking.{runner_in}
use Rattle.tables.proofs.runner.Goals as goal

pub returns-in_err-instance : goal.returns-in_err-instance
unfolding runner_in run_in map_option bind
returns-in_err-instance c =
    c.from_residual.ensures ∙ rw (first_none _ _ (sym c.instance_of.ensures ∙ c.in_err-instance.was))

pub returns-in_err-part : goal.returns-in_err-part
unfolding runner_in run_in part_at map_option bind
returns-in_err-part c =
    c.from_residual-in_err-part.ensures
    ∙ rw (
      first-some _ _ _ (sym c.instance_of.ensures ∙ c.in_ok-instance.was),
      first_none _ _ (sym c.part_of.ensures ∙ c.in_err-part.was),
    )

pub returns : goal.returns
unfolding runner_in run_in part_at map_option bind
returns c =
    c.app_of.ensures ∙ first (is_app c.in_ok-part.part.app) (apps_in c.args.apps)
    ∙ rw (
      first-some _ _ _ (sym c.instance_of.ensures ∙ c.in_ok-instance.was),
      first-some _ _ _ (sym c.part_of.ensures ∙ c.in_ok-part.was),
    )
