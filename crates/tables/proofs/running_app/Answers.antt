-- `running_app` meets its contract: the instance, its component and that component's app are the first of their
-- numbers.
use Rattle.std.proofs.Common.{sym, ◌∙◌}
use Rattle.rules.specs.Lists.{map_option, or_else}
use Rattle.state.specs.Tables.{part_at, run_in}
use Rattle.tables.specs.FindingLaws.{first-some, first_none}
use Rattle.tables.specs.Looking.{owner_place, running_place}
use Rattle.tables.proofs.running_app.Goals as goal

pub returns-in_err-instance : goal.returns-in_err-instance
unfolding running_place run_in map_option or_else
returns-in_err-instance c =
    c.from_residual.ensures ∙ rw (first_none _ _ (sym c.instance_of.ensures ∙ c.in_err-instance.was))

pub returns-in_err-part : goal.returns-in_err-part
unfolding running_place owner_place run_in part_at map_option or_else
returns-in_err-part c =
    c.from_residual-in_err-part.ensures
    ∙ rw (
      first-some _ _ _ (sym c.instance_of.ensures ∙ c.in_ok-instance.was),
      first_none _ _ (sym c.part_of.ensures ∙ c.in_err-part.was),
    )

pub returns : goal.returns
unfolding running_place owner_place run_in part_at map_option or_else
returns c =
    c.find_app.ensures
    ∙ rw (
      first-some _ _ _ (sym c.instance_of.ensures ∙ c.in_ok-instance.was),
      first-some _ _ _ (sym c.part_of.ensures ∙ c.in_ok-part.was),
    )
