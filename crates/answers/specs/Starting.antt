-- Start with the free number given. The code takes it from the digits of the running numbers, which are those of the
-- list where the device is formed; the refusals are those of the rules.
use Rattle.std.specs.Prelude.{ℕ, not, ◌&&◌, cond, [], ◌∷◌, eqb, ltb}
use Rattle.std.proofs.Math.Option.{Option, none, some}
use Rattle.rules.specs.declared.Ground.TheVariants.{Nothing}
use Rattle.rules.specs.declared.Reason.TheVariants.{NoSuchComponent, NoSuchInstance, NotPermitted, NoRoom}
use Rattle.rules.specs.Lists.{missing, test, or_else}
use Rattle.rules.specs.View.{View}
use Rattle.rules.specs.Grounds.{running_app, startable}
use Rattle.rules.specs.Refusals.{barred, ◌when◌}
use Rattle.rules.specs.Answer.{Answer, done, decide}
use Rattle.tables.specs.Running.{next_of}

unfoldable pub start_with : Option ℕ → View → (component caller : ℕ) → Answer
start_with free v c n =
    decide
    (NoSuchComponent when missing (startable v c) ∷
    NoSuchInstance when (not (eqb n 0) && missing (running_app v n)) ∷
    NotPermitted when test (startable v c) (λ k. barred v k n) ∷
    NoRoom when missing free ∷ [])
    (done Nothing (or_else 0 free))

-- the number that the running numbers leave free
unfoldable pub free_of : ℕ → Option ℕ
free_of m = cond (ltb (next_of m) 65) (some (next_of m)) none
