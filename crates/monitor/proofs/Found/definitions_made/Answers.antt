-- `definitions_made` meets its contract: the closure puts the entry at each place.
use Rattle.std.proofs.Common.{rules, ◌∙◌}
use Rattle.manifest.specs.Layout.{define_at}
use Rattle.manifest.specs.Verdict.{entry_at, zero_define}
use Rattle.state.specs.Listed.{appended}
use Rattle.monitor.specs.InstallLaws.{entries-there}
use Rattle.monitor.proofs.Found.definitions_made.Goals as goal

pub returns : goal.returns
returns c =
    let s = c.args.self.now.bytes.now in
    let app = c.args.self.now.sections.app in
    c.append_all.ensures
    (λ t at. appended 256 t (record { app = app; define = entry_at zero_define define_at 3 s at }))
    (λ t at r k. search rules)
    ∙ entries-there (λ t x. appended 256 t (record { app = app; define = x })) zero_define define_at 3 s
    _ _ _ c.args.self.now.within.defines
