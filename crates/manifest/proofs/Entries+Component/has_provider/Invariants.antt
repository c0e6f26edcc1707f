-- `has_provider`: at each turn the whole answer is the answer for the components that are left.
use Rattle.std.proofs.Common.{◌≡◌, ◌+◌, ◌-◌, ◌*◌}
use Rattle.manifest.specs.Layout.{component_at, entries}
use Rattle.manifest.specs.Good.{any, is_provider_of}
use Rattle.manifest.specs.Steps.{listed}
use Rattle.manifest.proofs.Entries+Component.has_provider.Given as goal

abbrev pub invariant-loop-k : goal.invariant-loop-k
invariant-loop-k l =
    let x = l.self.section in
    any (is_provider_of l.p) (listed component_at 8 l.self.src.now x)
    ≡ any (is_provider_of l.p) (entries (component_at l.self.src.now) 8 (x.first + 8 * l.k) (x.count - l.k))
