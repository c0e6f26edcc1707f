-- `changed_at` meets its contract: the app of the number changes as the action asks, and any other stays.
use Rattle.std.proofs.Common.{rules, ℕ, not, eqb, ap}
use borrow.Author.Tests.{eq-eqb, ne_eqb, tests}
use Rattle.tables.specs.Changing.{regrant, regroup, changed, changed_at}
use Rattle.tables.proofs.changed_at.Goals as goal

pub returns-in-AddGrant : goal.returns-in-AddGrant
unfolding changed_at changed
returns-in-AddGrant c = rw (eq-eqb _ _ c.if-a-number.true, c.in-AddGrant.is) (ap (regrant c.args.app) c.push.ensures)

pub returns-in-TakeGrant : goal.returns-in-TakeGrant
unfolding changed_at changed
returns-in-TakeGrant c =
    rw (eq-eqb _ _ c.if-a-number.true, c.in-TakeGrant.is)
    (ap (regrant c.args.app)
    (c.kept-a.ensures (λ (m : ℕ). not (eqb m c.args.member)) (λ x r k. search (rules, tests))))

pub returns-in-AddGroup : goal.returns-in-AddGroup
unfolding changed_at changed
returns-in-AddGroup c =
    rw (eq-eqb _ _ c.if-a-number.true, c.in-AddGroup.is)
    (ap (regroup c.args.app) c.push-in-AddGroup.ensures)

pub returns-in-TakeGroup : goal.returns-in-TakeGroup
unfolding changed_at changed
returns-in-TakeGroup c =
    rw (eq-eqb _ _ c.if-a-number.true, c.in-TakeGroup.is)
    (ap (regroup c.args.app)
    (c.kept-a-in-TakeGroup.ensures (λ (m : ℕ). not (eqb m c.args.member)) (λ x r k. search (rules, tests))))

pub returns-else-a-number : goal.returns-else-a-number
unfolding changed_at
returns-else-a-number c = rw (ne_eqb _ _ c.if-a-number.false)
