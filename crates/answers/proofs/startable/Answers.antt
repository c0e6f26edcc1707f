-- `startable` meets its contract: a component that is no provider.
use Rattle.std.proofs.Common.{rules, ◌∙◌, not}
use borrow.Author.Tests.{tests}
use Rattle.manifest.specs.Good.{is_provider}
use Rattle.rules.specs.declared.Part.{Part}
use Rattle.rules.specs.Lists.{find}
use Rattle.rules.specs.Grounds.{startable}
use Rattle.state.specs.Tables.{view_of, part_at}
use Rattle.tables.specs.Finding.{is_part}
use Rattle.tables.specs.FindingLaws.{first}
use Rattle.tables.specs.Held.{parts_in}
use Rattle.tables.specs.Looking.{view_by}
use Rattle.answers.proofs.Conditions.{filtered, unless}
use Rattle.answers.proofs.startable.Goals as goal

pub returns : goal.returns
unfolding startable view_by view_of part_at
returns c =
    let found = find (is_part c.args.number) (parts_in c.args.parts) in
    filtered (λ (k : Part). not (is_provider k.component)) _ (λ x b k. search (rules, tests)) found
    (c.part_of.ensures ∙ first _ _) c.filter.ensures
    ∙ unless (λ k. is_provider k.component) found
