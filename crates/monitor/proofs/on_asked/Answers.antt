-- `on_asked` meets its contract: each case is the action of its own function, and a question leaves all as it was.
use Rattle.monitor.proofs.Kit.{◌∙◌, kept, query-stays, ask-unasked}
use Rattle.rules.specs.Action.{read, ask}
use Rattle.loans.specs.Asked.{action_from}
use Rattle.monitor.proofs.on_asked.Goals as goal

pub returns-in-Read : goal.returns-in-Read
unfolding action_from
returns-in-Read c =
    let r = c.in-Read in
    c.unchanged.ensures
    ∙ query-stays _ _ (read r.provider r.instance r.uri) _ (kept c.args.on c.well_formed.0) c.read.ensures ∙ rw r.is

pub returns-in-Ask : goal.returns-in-Ask
unfolding action_from
returns-in-Ask c =
    c.unchanged-in-Ask.ensures
    ∙ query-stays _ _ (ask c.in-Ask.app c.in-Ask.permission) _ (kept c.args.on c.well_formed.0)
    (c.ask.ensures ∙ ask-unasked c.args.on.device c.args.on.lent _ _) ∙ rw c.in-Ask.is
