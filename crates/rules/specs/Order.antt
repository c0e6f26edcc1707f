-- The order of refusals: document 01, "Where several apply, the smallest is the answer". Proved in OrderLaws.
use Rattle.std.specs.Prelude.{◌≤◌, ◌≡◌, true, ◌↔◌}
use mathlib.Core.List.{List, Memᴰ}
use Rattle.rules.specs.declared.Reason.{Reason}
use Rattle.rules.specs.Limits.{Limits}
use Rattle.rules.specs.Action.{Action}
use Rattle.rules.specs.View.{View}
use Rattle.rules.specs.Refusals.{Refusal, ◌when◌, refusals}
use Rattle.rules.specs.Answer.{done, refused, answer, ground_for, value_for, number_of}

-- the reason stands among the refusals, and its condition is true
abbrev pub Applies : List Refusal → Reason → Type 0
Applies rs n = Memᴰ (n when true) rs

-- done exactly if none applies; otherwise the answer applies, and every number that applies is at least the answer's
pub record Ordered (L : Limits) (v : View) (x : Action) : Type 0 where
  pub done : (answer L v x ≡ done (ground_for v x) (value_for L v x))
      ↔ ((n : Reason) → Applies (refusals L v x) n → ⊥)
  pub refused : (q : Reason) → answer L v x ≡ refused q
      → Applies (refusals L v x) q × ((n : Reason) → Applies (refusals L v x) n → number_of q ≤ number_of n)
