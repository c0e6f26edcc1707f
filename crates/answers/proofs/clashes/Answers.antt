-- `clashes` meets its contract: the app's number, the components and the definitions are asked one after the other.
use Rattle.std.proofs.Common.{rules, ◌≡◌, [], sym, ap, ◌∙◌}
use borrow.Author.Tests.{tests}
use Rattle.std.specs.Option.{is_some as option_is_some}
use Rattle.manifest.specs.Layout.{entries, component_at, define_at}
use Rattle.manifest.specs.Verdict.{entry_at, zero_component, zero_define}
use Rattle.rules.specs.Lists.{any, is_some}
use Rattle.rules.specs.Permissions.{known}
use Rattle.state.specs.Stored.{model_of}
use Rattle.state.specs.Tables.{view_of}
use Rattle.tables.specs.Finding.{is_part}
use Rattle.tables.specs.Held.{apps_in, parts_in}
use Rattle.tables.specs.Looking.{option_of, view_by}
use Rattle.answers.specs.Answering.{view_in}
use Rattle.answers.specs.AnsweringLaws.{app-here, part-here, some-here}
use Rattle.answers.specs.InstallingLaws.{Read, read-good, components-fit, defines-fit, clash-is, entry-there}
use Rattle.answers.proofs.Entries.{asked-of}
use Rattle.answers.proofs.clashes.Goals as goal
use Rattle.answers.proofs.clashes.Goals.{Start, After-has_app, After-any_entry, After-any_entry-else-any_entry}

-- what the verdict tells
sections : (c : Start) → Read c.args.bytes.now c.args.m
sections c = read-good _ _ c.requires

-- the app's number is taken
taken : (c : After-has_app) → let args = c.args in
    c.has_app.result ≡ is_some ((view_in args.d []).app args.m.app)
unfolding view_of model_of
taken c =
    let args = c.args in
    c.has_app.ensures ∙ app-here (apps_in args.d.apps) args.m.app

-- a component's number is taken
component : (c : After-any_entry) → let m = c.args.m.components in
    c.any_entry.result
    ≡ any (λ k. is_some ((view_in c.args.d []).part k.number))
    (entries (component_at c.args.bytes.now) 8 m.first m.count)
unfolding view_of model_of
component c =
    let s = c.args.bytes.now in
    let parts = parts_in c.args.d.parts in
    c.any_entry.ensures (λ a. any (is_part (entry_at zero_component component_at 8 s a).number) parts)
    (λ x r k. search (rules, tests))
    ∙ asked-of (component_at s) _ _ 8 _
    (λ a h. ap (λ k. any (is_part k.number) parts) (entry-there zero_component component_at 8 s a h)
    ∙ part-here parts _)
    c.args.m.components.count c.args.m.components.first (components-fit (sections (search)))

-- a permission is defined already
permission : (c : After-any_entry-else-any_entry) → let m = c.args.m.defines in
    c.any_entry-else-any_entry.result
    ≡ any (λ p. is_some (known (view_in c.args.d []) p.permission))
    (entries (define_at c.args.bytes.now) 3 m.first m.count)
unfolding known view_by view_of model_of
permission c =
    let s = c.args.bytes.now in
    let known = known (view_in c.args.d []) in
    c.any_entry-else-any_entry.ensures
    (λ a. option_is_some (option_of (known (entry_at zero_define define_at 3 s a).permission)))
    (λ x r k. search (rules, tests))
    ∙ asked-of (define_at s) _ _ 3 _
    (λ a h. ap (λ p. option_is_some (option_of (known p.permission))) (entry-there zero_define define_at 3 s a h)
    ∙ some-here _)
    c.args.m.defines.count c.args.m.defines.first (defines-fit (sections (search)))

pub returns-then-has_app : goal.returns-then-has_app
returns-then-has_app c =
    let path = goal.at.returns-then-has_app c in
    c.if-has_app.true
    ∙ sym (clash-is (sections path.Start) _ ∙ rw (sym (taken path.After-has_app) ∙ c.if-has_app.true))

pub returns-then-any_entry : goal.returns-then-any_entry
returns-then-any_entry c =
    let path = goal.at.returns-then-any_entry c in
    c.if-any_entry.true
    ∙ sym (clash-is (sections path.Start) _ ∙ rw (
      sym (taken path.After-has_app) ∙ c.if-has_app.false,
      sym (component path.After-any_entry) ∙ c.if-any_entry.true,
    ))

pub returns-else-any_entry : goal.returns-else-any_entry
returns-else-any_entry c =
    let path = goal.at.returns-else-any_entry c in
    permission path.After-any_entry-else-any_entry
    ∙ sym (clash-is (sections path.Start) _ ∙ rw (
      sym (taken path.After-has_app) ∙ c.if-has_app.false,
      sym (component path.After-any_entry) ∙ c.if-any_entry.false,
    ))
