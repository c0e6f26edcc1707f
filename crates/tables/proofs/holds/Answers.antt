-- `holds` meets its contract: an undefined permission is not held, and the hold rule decides on a defined one.
use Rattle.std.proofs.Common.{sym, ap, ◌∙◌, []}
use Rattle.std.proofs.Math.Option.{Option}
use Rattle.rules.specs.declared.Known.{Known}
use Rattle.rules.specs.Lists.{test}
use Rattle.rules.specs.Permissions.{known, hold, holds, is_held}
use Rattle.state.specs.Tables.{view_of}
use Rattle.tables.specs.Held.{rows_in, definitions_in}
use Rattle.tables.specs.Looking.{view_by}
use Rattle.tables.specs.OptionLaws.{option-some, option_none}
use Rattle.tables.proofs.holds.Goals as goal
use Rattle.tables.proofs.holds.Goals.{Start}

-- what was asked of the definitions
abbrev asked : Start → Option Known
asked c = known (view_by (rows_in c.args.apps) (definitions_in c.args.definitions) [] []) c.args.permission

pub returns-in-None : goal.returns-in-None
unfolding holds test
returns-in-None c =
    rw (option_none (asked (goal.at.returns-in-None c).Start) (sym c.known_of.ensures ∙ c.in-None.is))

pub returns-in-Some : goal.returns-in-Some
unfolding holds test hold view_by view_of
returns-in-Some c =
    c.is_held.ensures ∙ ap is_held c.hold.ensures
    ∙ rw (option-some (asked (goal.at.returns-in-Some c).Start) _ (sym c.known_of.ensures ∙ c.in-Some.is))
