-- `no_receiving_app` meets its contract: an app has to be installed.
use Rattle.std.proofs.Common.{not, ap, ◌∙◌}
use Rattle.rules.specs.Lists.{missing}
use Rattle.rules.specs.Refusals.{no_receiving_app}
use Rattle.state.specs.Stored.{model_of}
use Rattle.state.specs.Tables.{view_of}
use Rattle.tables.specs.Held.{apps_in}
use Rattle.answers.specs.AnsweringLaws.{app-here}
use Rattle.answers.proofs.no_receiving_app.Goals as goal

pub returns-in-Instance : goal.returns-in-Instance
unfolding no_receiving_app
returns-in-Instance c = rw c.in-Instance.is

pub returns-in-App : goal.returns-in-App
unfolding no_receiving_app missing view_of model_of
returns-in-App c =
    ap not (c.has_wide_app.ensures ∙ app-here (apps_in c.args.d.apps) c.in-App.n) ∙ rw c.in-App.is
