-- Start with the free number given is the start of the rules, in every device whose running numbers are its list's.
use Rattle.std.specs.Prelude.{ℕ, zero, suc, ◌≤◌, ◌<◌, ◌≡◌, refl, not, List}
use Rattle.std.proofs.Common.{sym, ap, ◌∙◌, lt-ltb, le-ltb}
use Rattle.std.proofs.Math.Option.{none, some}
use Rattle.rules.specs.declared.Loan.{Loan}
use Rattle.rules.specs.declared.Part.{Part}
use Rattle.rules.specs.Lists.{test}
use Rattle.rules.specs.Limits.{Limits, large}
use Rattle.rules.specs.Action.{start, on_runs}
use Rattle.rules.specs.View.{View}
use Rattle.rules.specs.Grounds.{running_app}
use Rattle.rules.specs.Refusals.{free_number, app_may_start, barred, refusals}
use Rattle.rules.specs.Answer.{answer, ground_for, value_for}
use Rattle.state.specs.declared.Device.{Device}
use Rattle.state.specs.Stored.{mask_of, model_of}
use Rattle.tables.specs.Held.{instances_in}
use Rattle.tables.specs.Running.{next_of}
use Rattle.tables.specs.RunningLaws.{next-is-free}
use Rattle.answers.specs.Answering.{view_in, answer_in}
use Rattle.answers.specs.Starting.{start_with, free_of}

pub start-with : (L : Limits) (v : View) (c n : ℕ) → start_with (free_number L v) v c n
    ≡ answer L v (on_runs (start c n))
unfolding start_with answer refusals ground_for value_for
start-with L v c n = refl

free-listed : (d : Device) (lent : List Loan)
    → free_of (mask_of (instances_in d.instances)) ≡ free_number large (view_in d lent)
unfolding free_of model_of
free-listed d lent = sym (next-is-free (model_of d lent))

-- what the code answers is the answer of the rules
pub start-formed : (d : Device) (lent : List Loan) → d.instances.running ≡ mask_of (instances_in d.instances)
    → (c n : ℕ) → start_with (free_of d.instances.running) (view_in d lent) c n ≡ answer_in d lent (on_runs (start c n))
start-formed d lent e c n = ap (λ o. start_with o (view_in d lent) c n) (ap free_of e ∙ free-listed d lent)
    ∙ start-with large (view_in d lent) c n

-- ---- the free number
pub is_free : (m : ℕ) {n : ℕ} → n ≡ next_of m → n < 65 → free_of m ≡ some n
unfolding free_of
is_free m e h = rw (sym e, lt-ltb _ 65 h)

pub none_free : (m : ℕ) {n : ℕ} → n ≡ next_of m → 65 ≤ n → free_of m ≡ none
unfolding free_of
none_free m e h = rw (sym e, le-ltb _ 65 h)

-- ---- a caller that is not the person
pub barred-by : (v : View) (k : Part) (n : ℕ) → (n ≡ 0 → ⊥)
    → barred v k n ≡ test (running_app v n) (λ a. not (app_may_start v a k))
unfolding barred
barred-by v k zero h = absurd (h refl)
barred-by v k (suc n) h = refl
