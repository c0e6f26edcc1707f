-- `install` meets its contract: the verdict tells whether the manifest is good, and where its sections stand.
use Rattle.std.proofs.Common.{sym, refl, ◌∙◌}
use Rattle.std.proofs.lemmas.List.{length-map}
use Rattle.rules.specs.declared.Reason.TheVariants.{MalformedManifest}
use Rattle.rules.specs.Refusals.{refusals}
use Rattle.rules.specs.Answer.{decide, answer, ground_for, value_for}
use Rattle.state.specs.Stored.{row_of, model_of}
use Rattle.state.specs.Tables.{view_of}
use Rattle.tables.specs.Held.{apps_in}
use Rattle.answers.specs.AnsweringLaws.{refuses as is_refused}
use Rattle.answers.specs.InstallingLaws.{malformed, read-good, crowded-is}
use Rattle.answers.proofs.install.Goals as goal

pub clashes-requires : goal.clashes-requires
clashes-requires c = sym c.check.ensures ∙ c.in-Some.is

pub returns-in_default : goal.returns-in_default
unfolding answer refusals
returns-in_default c =
    let bad = malformed c.args.bytes.now (sym c.check.ensures ∙ c.in_default.is) in
    is_refused MalformedManifest _ _ (sym bad) refl

pub returns-then-clashes : goal.returns-then-clashes
unfolding answer refusals decide
returns-then-clashes c =
    let r = read-good c.args.bytes.now c.in-Some.m (sym c.check.ensures ∙ c.in-Some.is) in
    rw (r.fine, r.whole, sym c.clashes.ensures ∙ c.if-clashes.true)

pub returns-then-is_crowded : goal.returns-then-is_crowded
unfolding answer refusals decide view_of model_of
returns-then-is_crowded c =
    let r = read-good c.args.bytes.now c.in-Some.m (sym c.check.ensures ∙ c.in-Some.is) in
    rw (
      r.fine,
      r.whole,
      sym c.clashes.ensures ∙ c.if-clashes.false,
      crowded-is r _,
      length-map (apps_in c.args.d.apps) row_of,
      sym c.is_crowded.ensures ∙ c.if-is_crowded.true,
    )

pub returns : goal.returns
unfolding answer refusals decide ground_for value_for view_of model_of
returns c =
    let r = read-good c.args.bytes.now c.in-Some.m (sym c.check.ensures ∙ c.in-Some.is) in
    c.done.ensures
    ∙ rw (
      r.fine,
      r.whole,
      sym c.clashes.ensures ∙ c.if-clashes.false,
      crowded-is r _,
      length-map (apps_in c.args.d.apps) row_of,
      sym c.is_crowded.ensures ∙ c.if-is_crowded.false,
    )
