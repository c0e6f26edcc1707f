-- `append_all` meets its contract: at each turn the whole table is the table for the entries that are left.
use Rattle.monitor.proofs.Kit.{ℕ, ◌+◌, ◌-◌, ◌*◌, ◌≡◌, entries, append_all}
use Rattle.monitor.specs.Installing.{Steps}
use Rattle.monitor.proofs.append_all.Given as goal

abbrev pub invariant-loop-k : goal.invariant-loop-k
invariant-loop-k g l =
    (step : g.row.T.Denot → ℕ → g.row.T.Denot) → Steps g.F.Fn l.append step
    → append_all step l.fn.table (entries (λ a. a) l.fn.size l.fn.section.first l.fn.section.count)
    ≡ append_all step l.t
    (entries (λ a. a) l.fn.size (l.fn.section.first + l.fn.size * l.k) (l.fn.section.count - l.k))
