-- `on_install` meets its contract: a refusal leaves all, and else the bytes are a good manifest, whose sections make
-- the tables of the next state.
use Rattle.monitor.proofs.Kit.{◌≡◌, sym, ap, ◌∙◌, model_of, kept, refused-stays, installs-good, install-steps}
use Rattle.monitor.proofs.Kit.{sections-found, never-malformed, apps-unasked}
use mathlib.Core.Bool.{true}
use Rattle.manifest.specs.declared.Sections.{Sections}
use Rattle.manifest.specs.Layout.{manifest_of}
use Rattle.manifest.specs.Good.{good}
use Rattle.rules.specs.Action.{on_apps, install}
use Rattle.rules.specs.declared.Done.{Done}
use Rattle.std.specs.Prelude.{Ok}
use Rattle.monitor.specs.Stepped.{answer_to}
use Rattle.monitor.specs.Installing.{install_made}
use Rattle.monitor.proofs.on_install.Goals as goal
use Rattle.monitor.proofs.on_install.Goals.{After-install-answer}

given : (c : After-install-answer) → c.install-answer.result
    ≡ answer_to (model_of c.args.on.device c.args.on.lent)
    (on_apps (install c.args.image (manifest_of c.args.bytes.now)))
given c = c.install-answer.ensures ∙ apps-unasked c.args.on.device c.args.on.lent _

-- where the answer is done
done-good : (c : After-install-answer) {z : Done} → c.install-answer.result ≡ Ok z
    → good (manifest_of c.args.bytes.now) ≡ true
done-good c e = installs-good _ _ (kept c.args.on c.well_formed.0) _ _ _ e c.args.image _ (given c)

pub returns-in-Err : goal.returns-in-Err
returns-in-Err c =
    c.unchanged.ensures ∙ refused-stays _ _ _ _ _ (kept c.args.on c.well_formed.0)
    (given (goal.at.returns-in-Err c).After-install-answer) c.in-Err.is

pub returns-in-None : goal.returns-in-None
returns-in-None c =
    let start = (goal.at.returns-in-None c).After-install-answer in
    absurd (never-malformed _ (done-good start c.in-Ok.is) (sym c.check.ensures ∙ c.in-None.is))

pub returns-in-Some : goal.returns-in-Some
returns-in-Some c =
    let z = c.args.bytes.now in
    let start = (goal.at.returns-in-Some c).After-install-answer in
    let found = sections-found z (done-good start c.in-Ok.is) _ (sym c.check.ensures ∙ c.in-Some.is) in
    install-steps _ _ (kept c.args.on c.well_formed.0) _ _ _ c.in-Ok.is c.args.image z (given start) _
    (c.install_made.ensures ∙ ap (λ (m : Sections). install_made z c.args.image m c.args.on.device) found)
