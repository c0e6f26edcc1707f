-- `known_of` meets its contract: the platform's definition is the first of the two searches.
use Rattle.std.proofs.Common.{sym, ◌∙◌}
use Rattle.rules.specs.Lists.{or_find}
use Rattle.rules.specs.Permissions.{built_in, known}
use Rattle.state.specs.Tables.{view_of}
use Rattle.tables.specs.Looking.{view_by}
use Rattle.tables.specs.OptionLaws.{option-some, option_none}
use Rattle.tables.proofs.known_of.Goals as goal

pub returns-in-Some : goal.returns-in-Some
unfolding known or_find
returns-in-Some c = rw (option-some (built_in c.args.permission) _ (sym c.built_in.ensures ∙ c.in-Some.is))

pub returns-in-None : goal.returns-in-None
unfolding known or_find view_by view_of
returns-in-None c =
    c.defined_in.ensures ∙ rw (option_none (built_in c.args.permission) (sym c.built_in.ensures ∙ c.in-None.is))
