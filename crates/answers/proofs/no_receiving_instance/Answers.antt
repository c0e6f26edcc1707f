-- `no_receiving_instance` meets its contract: an instance has to run.
use Rattle.std.proofs.Common.{[], ◌∙◌}
use Rattle.rules.specs.Refusals.{no_receiving_instance}
use Rattle.answers.proofs.Conditions.{runner-missing}
use Rattle.answers.proofs.no_receiving_instance.Goals as goal

pub returns-in-Instance : goal.returns-in-Instance
unfolding no_receiving_instance
returns-in-Instance c =
    runner-missing c.args.d [] c.in-Instance.n c.wide_runner.ensures c.is_none.ensures ∙ rw c.in-Instance.is

pub returns-in-App : goal.returns-in-App
unfolding no_receiving_instance
returns-in-App c = rw c.in-App.is
