-- `kept` meets its contract: at each turn the table holds those of the entries passed that stay.
use Rattle.std.proofs.Common.{refl, sym, ap, ◌∙◌, take_all}
use Rattle.std.proofs.lemmas.Fn.{says_at}
use Rattle.rules.specs.Lists.{keep}
use Rattle.state.specs.Listed.{table_of}
use Rattle.tables.proofs.Turns.{keep-one, drop-one}
use Rattle.tables.proofs.kept.Goals as goal
use Rattle.tables.proofs.kept.Goals.{then-stays, else-stays}

pub loop-entry-preserved : goal.loop-entry-preserved
loop-entry-preserved g c =
    λ test tells.
    let before = c.loop-entry.invariant test tells in
    let told = sym (tells _ _ (says_at g.F.Fn c.stays.ensures refl)) in
    elim c.if-stays.branch [
      | then-stays w ↦
          w.left-is ∙ w.push.ensures
          ∙ rw before (keep-one test _ _ _ c.loop-entry-test.true c.entry-item.is c.args.zero g.row.ROOM
          c.held-entry-items.ensures.room (told ∙ w.if-stays.true))
      | else-stays w ↦
          w.left-is ∙ before
          ∙ ap (table_of c.args.zero g.row.ROOM)
          (drop-one test _ _ _ c.loop-entry-test.true c.entry-item.is (told ∙ w.if-stays.false))
    ]

pub returns : goal.returns
returns g c =
    λ test tells.
    c.loop-entry.invariant test tells
    ∙ ap (λ l. table_of c.args.zero g.row.ROOM (keep test l))
    (take_all _ _ c.loop-entry-test.false ∙ c.held-entry-items.ensures.value)
