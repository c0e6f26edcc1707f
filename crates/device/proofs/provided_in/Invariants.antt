-- Each turn adds one resource more with its provider.
use Rattle.std.proofs.Common.{◌≡◌, take, map}
use Rattle.state.specs.Listed.{table_of}
use Rattle.state.specs.Stored.{zero_part, zero_resource}
use Rattle.tables.specs.Held.{parts_in}
use Rattle.device.specs.Tests.{with_provider}
use Rattle.device.proofs.provided_in.Given as goal

abbrev pub invariant-loop-resource : goal.invariant-loop-resource
invariant-loop-resource l =
    l.provided
    ≡ table_of (record { provider = zero_part; resource = zero_resource }) 128
    (map (with_provider (parts_in l.parts)) (take l.resource-index l.resource-items))
