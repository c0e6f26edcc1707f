-- `rise`: at each turn the whole answer is the answer for the entries that are left.
use Rattle.std.proofs.Common.{◌≡◌, ◌+◌, ◌-◌, ◌*◌}
use Rattle.manifest.specs.Layout.{entries}
use Rattle.manifest.specs.Good.{rising}
use Rattle.manifest.specs.Steps.{listed}
use Rattle.manifest.proofs.Entries.rise.Given as goal

abbrev pub invariant-loop-k : goal.invariant-loop-k
invariant-loop-k g l =
    let e = g.E.Entry in
    let x = l.self.section in
    rising e.key e.good 0 (listed e.entry e.SIZE l.self.src.now x)
    ≡ rising e.key e.good l.low (entries (e.entry l.self.src.now) e.SIZE (x.first + e.SIZE * l.k) (x.count - l.k))
