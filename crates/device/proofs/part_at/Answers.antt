-- The component that is found is the first of its number, and the default is all zero.
use Rattle.std.proofs.Common.{◌≡◌}
use Rattle.std.proofs.Math.Option.{Option as Rules, none, some}
use Rattle.std.specs.Option.{UnwrapsOrElse}
use Rattle.rules.specs.declared.Part.{Part}
use Rattle.rules.specs.Lists.{find, or_else}
use Rattle.state.specs.Tables.{part_at}
use Rattle.state.specs.Stored.{zero_part}
use Rattle.state.proofs.Zeros.{part-zero}
use Rattle.tables.specs.Finding.{is_part}
use Rattle.tables.specs.Held.{parts_in}
use Rattle.tables.specs.Looking.{option_of}
use Rattle.tables.specs.FindingLaws.{first}
use Rattle.device.proofs.part_at.Goals as goal

unwrapped : (is_default : Part → Type 0) → ((k : Part) → is_default k → k ≡ zero_part) → (o : Rules Part) (k : Part)
    → UnwrapsOrElse (option_of o) is_default k → k ≡ or_else zero_part o
unfolding or_else
unwrapped is_default zero none k e = zero k e
unwrapped is_default zero (some x) k e = e

pub returns : goal.returns
unfolding part_at
returns c =
    unwrapped _ part-zero (find (is_part c.args.number) (parts_in c.args.parts)) _
    (rw (← first (is_part c.args.number) (parts_in c.args.parts), ← c.part_of.ensures) c.unwrap_or_default.ensures)
