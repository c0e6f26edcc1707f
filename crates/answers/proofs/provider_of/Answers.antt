-- `provider_of` meets its contract: a component that is a provider.
use Rattle.std.proofs.Common.{rules, ◌∙◌}
use borrow.Author.Tests.{tests}
use Rattle.manifest.specs.Good.{is_provider}
use Rattle.rules.specs.declared.Part.{Part}
use Rattle.rules.specs.Grounds.{provider}
use Rattle.state.specs.Tables.{view_of, part_at}
use Rattle.tables.specs.FindingLaws.{first}
use Rattle.tables.specs.Looking.{view_by}
use Rattle.answers.proofs.Conditions.{filtered}
use Rattle.answers.proofs.provider_of.Goals as goal

pub returns : goal.returns
unfolding provider view_by view_of part_at
returns c =
    filtered (λ (k : Part). is_provider k.component) _ (λ x b k. search (rules, tests)) _
    (c.part_of.ensures ∙ first _ _) c.filter.ensures
