-- The search over the apps is the one over their rows.
use Rattle.std.proofs.Common.{◌∙◌, sym, eqb}
use Rattle.rules.specs.ListsLaws.{any-map}
use Rattle.state.specs.Tables.{app_number}
use Rattle.state.specs.Stored.{row_of}
use Rattle.device.proofs.installed.Goals as goal

pub returns : goal.returns
returns c = c.has_app.ensures ∙ sym (any-map (λ r. eqb (app_number r) c.args.number) row_of _)
