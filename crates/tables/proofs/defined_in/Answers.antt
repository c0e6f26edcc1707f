-- `defined_in` meets its contract: the definition that is found is the first of the permission.
use Rattle.std.proofs.Common.{sym, ◌∙◌}
use Rattle.rules.specs.Lists.{bind}
use Rattle.state.specs.Tables.{defined_in}
use Rattle.tables.specs.FindingLaws.{first-some, first_none}
use Rattle.tables.proofs.defined_in.Goals as goal

pub returns-in_err-definition_of : goal.returns-in_err-definition_of
unfolding defined_in bind
returns-in_err-definition_of c =
    c.from_residual.ensures
    ∙ rw (first_none _ _ (sym c.definition_of.ensures ∙ c.in_err-definition_of.was))

pub returns : goal.returns
unfolding defined_in bind
returns c =
    c.known_from.ensures ∙ rw (first-some _ _ _ (sym c.definition_of.ensures ∙ c.in_ok-definition_of.was))
