-- `rise_among`: at each turn the whole answer is the answer for the resources that are left.
use Rattle.std.proofs.Common.{◌≡◌, ◌+◌, ◌-◌, ◌*◌, true}
use Rattle.std.specs.Option.{IfSome}
use Rattle.manifest.specs.Layout.{component_at, resource_at, entries}
use Rattle.manifest.specs.Good.{any, is_provider_of, resources_rise}
use Rattle.manifest.specs.Steps.{listed}
use Rattle.manifest.proofs.Entries+Resource.rise_among.Given as goal

abbrev pub invariant-loop-k : goal.invariant-loop-k
invariant-loop-k l =
    let cs = listed component_at 8 l.components.src.now l.components.section in
    let x = l.self.section in
    (resources_rise cs 0 (listed resource_at 8 l.self.src.now x)
    ≡ resources_rise cs l.low (entries (resource_at l.self.src.now) 8 (x.first + 8 * l.k) (x.count - l.k)))
    × IfSome l.last (λ q. any (is_provider_of q) cs ≡ true)
