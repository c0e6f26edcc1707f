-- `parts_made` meets its contract: the closure puts the entry at each place.
use Rattle.std.proofs.Common.{rules, ◌∙◌}
use Rattle.manifest.specs.Layout.{component_at}
use Rattle.manifest.specs.Verdict.{entry_at, zero_component}
use Rattle.state.specs.Listed.{appended}
use Rattle.monitor.specs.InstallLaws.{entries-there}
use Rattle.monitor.proofs.Found.parts_made.Goals as goal

pub returns : goal.returns
returns c =
    let s = c.args.self.now.bytes.now in
    let app = c.args.self.now.sections.app in
    c.append_all.ensures
    (λ t at. appended 64 t (record { app = app; component = entry_at zero_component component_at 8 s at }))
    (λ t at r k. search rules)
    ∙ entries-there (λ t x. appended 64 t (record { app = app; component = x })) zero_component component_at 8 s
    _ _ _ c.args.self.now.within.components
