-- The component that is found is the first of its number.
use Rattle.std.proofs.Common.{rules, ◌∙◌, not}
use borrow.Author.Tests.{tests}
use Rattle.manifest.specs.Good.{is_provider}
use Rattle.rules.specs.Lists.{find}
use Rattle.state.specs.Tables.{part_at}
use Rattle.tables.specs.Finding.{is_part}
use Rattle.tables.specs.Held.{parts_in}
use Rattle.tables.specs.FindingLaws.{first}
use Rattle.device.proofs.Options.{tested}
use Rattle.device.proofs.can_run.Goals as goal

pub returns : goal.returns
unfolding part_at
returns c =
    let mine = is_part c.args.component in
    let l = parts_in c.args.parts in
    tested (λ k. not (is_provider k.component)) (find mine l) (c.part_of.ensures ∙ first mine l) c.is_some_and.ensures
    (λ x e. search (rules, tests))
