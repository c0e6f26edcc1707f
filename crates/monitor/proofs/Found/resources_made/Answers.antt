-- `resources_made` meets its contract: the closure puts the entry at each place.
use Rattle.std.proofs.Common.{rules, ◌∙◌}
use Rattle.manifest.specs.Layout.{resource_at}
use Rattle.manifest.specs.Verdict.{entry_at, zero_resource}
use Rattle.state.specs.Listed.{appended}
use Rattle.monitor.specs.InstallLaws.{entries-there}
use Rattle.monitor.proofs.Found.resources_made.Goals as goal

pub returns : goal.returns
returns c =
    let s = c.args.self.now.bytes.now in
    c.append_all.ensures (λ t at. appended 128 t (entry_at zero_resource resource_at 8 s at))
    (λ t at r k. search rules)
    ∙ entries-there (appended 128) zero_resource resource_at 8 s _ _ _ c.args.self.now.within.resources
