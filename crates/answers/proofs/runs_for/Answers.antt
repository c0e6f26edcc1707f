-- `runs_for` meets its contract: the instance and its component are the first of their numbers.
use Rattle.std.proofs.Common.{sym, ◌∙◌}
use Rattle.rules.specs.Lists.{test, map_option}
use Rattle.state.specs.Stored.{model_of}
use Rattle.state.specs.Tables.{view_of, part_at, run_in}
use Rattle.tables.specs.FindingLaws.{first-some, first_none}
use Rattle.answers.proofs.runs_for.Goals as goal

pub returns-in_default : goal.returns-in_default
unfolding test view_of model_of run_in map_option
returns-in_default c = rw (first_none _ _ (sym c.instance_of.ensures ∙ c.in_default.is))

pub returns-in-None : goal.returns-in-None
unfolding test view_of model_of run_in part_at map_option
returns-in-None c =
    rw (
      first-some _ _ _ (sym c.instance_of.ensures ∙ c.in-Some.is),
      first_none _ _ (sym c.part_of.ensures ∙ c.in-None.is),
    )

pub returns-in-Some-part_of : goal.returns-in-Some-part_of
unfolding test view_of model_of run_in part_at map_option
returns-in-Some-part_of c =
    rw (
      first-some _ _ _ (sym c.instance_of.ensures ∙ c.in-Some.is),
      first-some _ _ _ (sym c.part_of.ensures ∙ c.in-Some-part_of.is),
    )
