-- `any_entry` meets its contract: an entry passes, or the search goes on with the rest.
use Rattle.std.proofs.Common.{ℕ, ◌≡◌, ◌+◌, ◌-◌, ◌*◌, Bool}
use Rattle.manifest.specs.Layout.{entries}
use Rattle.rules.specs.Lists.{any}
use Rattle.tables.specs.Closures.{Gives}
use Rattle.answers.proofs.any_entry.Given as goal

abbrev pub invariant-loop-k : goal.invariant-loop-k
invariant-loop-k g l =
    (test : ℕ → Bool) → Gives g.F.Fn l.passes test
    → any test (entries (λ at. at) l.fn.size l.fn.section.first l.fn.section.count)
    ≡ any test (entries (λ at. at) l.fn.size (l.fn.section.first + l.fn.size * l.k) (l.fn.section.count - l.k))
