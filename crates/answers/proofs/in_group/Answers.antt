-- `in_group` meets its contract: the definition in force tells.
use Rattle.std.proofs.Common.{sym, ◌∙◌, []}
use Rattle.rules.specs.Lists.{test}
use Rattle.rules.specs.Permissions.{known}
use Rattle.tables.specs.OptionLaws.{option-some, option_none}
use Rattle.answers.specs.Answering.{view_in}
use Rattle.answers.proofs.Conditions.{known-asked}
use Rattle.answers.proofs.in_group.Goals as goal

pub returns-in-Some : goal.returns-in-Some
unfolding test
returns-in-Some c =
    let o = known (view_in c.args.d []) c.args.permission in
    rw (
      option-some o _ (sym (known-asked c.args.d [] c.from.ensures c.known_of.ensures) ∙ c.in-Some.is),
      c.from-in-Some.ensures,
    )

pub returns-in-None : goal.returns-in-None
unfolding test
returns-in-None c =
    let o = known (view_in c.args.d []) c.args.permission in
    rw (option_none o (sym (known-asked c.args.d [] c.from.ensures c.known_of.ensures) ∙ c.in-None.is))
