-- `app_made` meets its contract: the closure puts the use at each place to a new app.
use Rattle.std.proofs.Common.{rules, refl, ◌∙◌, length}
use Rattle.manifest.specs.Layout.{u8_at}
use Rattle.monitor.specs.Installing.{add_use}
use Rattle.monitor.specs.InstallLaws.{entries-placed}
use Rattle.monitor.proofs.Found.app_made.Goals as goal

pub returns : goal.returns
returns c =
    let s = c.args.self.now.bytes.now in
    c.append_all.ensures (λ t at. add_use t (u8_at s at)) (λ t at r k. search rules)
    ∙ entries-placed add_use (u8_at s) (u8_at s) 1 (length s) (λ a h. refl) _ _ _ c.args.self.now.within.uses
    ∙ rw c.new_app-a.ensures
