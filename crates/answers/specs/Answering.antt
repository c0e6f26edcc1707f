-- What the rules answer for a device and the table of loans lent to it.
use Rattle.std.specs.Prelude.{ℕ, Bool, List, eqb}
use Rattle.std.proofs.Math.Option.{Option, some}
use Rattle.rules.specs.declared.Loan.{Loan}
use Rattle.rules.specs.declared.Ground.{Ground}
use Rattle.rules.specs.declared.Ground.TheVariants.{Nothing}
use Rattle.rules.specs.Lists.{test, or_else}
use Rattle.rules.specs.Limits.{large}
use Rattle.rules.specs.Action.{Op, reading, writing, Action}
use Rattle.rules.specs.View.{View}
use Rattle.rules.specs.Grounds.{ground_of}
use Rattle.rules.specs.Refusals.{access}
use Rattle.rules.specs.Answer.{Answer, done, decide, answer}
use Rattle.state.specs.declared.Device.{Device}
use Rattle.state.specs.Tables.{view_of}
use Rattle.state.specs.Stored.{model_of}

abbrev pub view_in : Device → List Loan → View
view_in d lent = view_of (model_of d lent)

abbrev pub answer_in : Device → List Loan → Action → Answer
answer_in d lent x = answer large (view_in d lent) x

-- read and write alike: a done access names its ground and the stored value
unfoldable pub access_in : View → (provider instance uri : ℕ) → Op → Answer
access_in v p n u op =
    decide (access v p n u op) (done (or_else Nothing (ground_of v p n u op)) (or_else 0 (v.value p u)))

-- instance n is of app b
abbrev pub is_of : View → ℕ → ℕ → Bool
is_of v b n = test (v.runs n) (λ c. test (v.part c) (λ k. eqb k.app b))

-- a ground for each operation
abbrev pub grounds : Ground → Ground → Op → Option Ground
grounds r w reading = some r
grounds r w writing = some w
