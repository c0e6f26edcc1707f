-- `known_from` meets its contract: the app that is found is the first of that number.
use Rattle.std.proofs.Common.{sym, ◌∙◌}
use Rattle.rules.specs.Lists.{map_option}
use Rattle.state.specs.Tables.{known_from}
use Rattle.tables.specs.FindingLaws.{first-some, first_none}
use Rattle.tables.specs.LookingLaws.{app-found, app-missing}
use Rattle.tables.proofs.known_from.Goals as goal

pub returns-in_err-app : goal.returns-in_err-app
unfolding known_from map_option
returns-in_err-app c =
    c.from_residual.ensures ∙ rw (app-missing _ _ (first_none _ _ (sym c.app_of.ensures ∙ c.in_err-app.was)))

pub returns : goal.returns
unfolding known_from map_option
returns c = rw (app-found _ _ _ (first-some _ _ _ (sym c.app_of.ensures ∙ c.in_ok-app.was)))
