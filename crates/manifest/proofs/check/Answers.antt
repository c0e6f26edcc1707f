-- `check`: each part stands where the one before it ends.
use Rattle.std.proofs.Common.{rules, ◌∙◌}
use Rattle.manifest.proofs.Whole.{refused_uses, refused_defines, refused_components, refused_resources}
use Rattle.manifest.proofs.Whole.{all_found, was_found}
use Rattle.manifest.proofs.check.Goals as goal

pub returns-in_err-uses : goal.returns-in_err-uses
returns-in_err-uses c = search (rules, refused_uses)

pub returns-in_err-defines : goal.returns-in_err-defines
returns-in_err-defines c = search (rules, refused_defines)

pub returns-in_err-components : goal.returns-in_err-components
returns-in_err-components c =
    let h = c.in_ok-app.ensures in
    let u = c.in_ok-uses.ensures in
    let d = c.in_ok-defines.ensures in
    c.from_residual-in_err-components.ensures ∙ refused_components c.args.bytes.now
    (simp (d.same, d.passed, u.same, u.passed, h.same, h.passed) at c.in_err-components.ensures.value)

pub returns-in_err-resources : goal.returns-in_err-resources
returns-in_err-resources c =
    let h = c.in_ok-app.ensures in
    let u = c.in_ok-uses.ensures in
    let d = c.in_ok-defines.ensures in
    let cs = c.in_ok-components.ensures in
    let is = (was_found _ _ cs.value).0 in
    c.from_residual-in_err-resources.ensures ∙ refused_resources c.args.bytes.now
    (simp (is, cs.lists, cs.same, cs.passed, d.same, d.passed, u.same, u.passed, h.same, h.passed)
    at c.in_err-resources.ensures.value)

pub returns : goal.returns
returns c =
    let h = c.in_ok-app.ensures in
    let u = c.in_ok-uses.ensures in
    let d = c.in_ok-defines.ensures in
    let cs = c.in_ok-components.ensures in
    let rs = c.in_ok-resources.ensures in
    let is = (was_found _ _ cs.value).0 in
    let e = all_found c.args.bytes.now h.value
    (simp (h.same, h.passed) at u.value)
    (simp (u.same, u.passed, h.same, h.passed) at d.value)
    (simp (d.same, d.passed, u.same, u.passed, h.same, h.passed) at cs.value)
    (simp (is, cs.lists, cs.same, cs.passed, d.same, d.passed, u.same, u.passed, h.same, h.passed) at rs.value) in
    c.then_some.ensures ∙ (simp (rs.passed, cs.same, cs.passed, d.same, d.passed, u.same, u.passed, h.same, h.passed) e)
