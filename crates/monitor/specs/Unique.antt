-- No two differing results meet the contract of a public function: it is one equation for the whole result,
-- and one for the whole lent list at exit.
-- Document 01, "What the contracts have to say".
use Rattle.std.specs.Prelude.{ℕ, ◌≡◌, List}
use Rattle.manifest.specs.Unique.{only_one}
use Rattle.rules.specs.declared.Loan.{Loan}
use Rattle.state.specs.declared.Device.{Device}
use Rattle.state.specs.Step.{step_answer, step_device, step_lent}
use Rattle.monitor.specs.declared.Stepped.{Stepped}
use Rattle.monitor.specs.declared.Outcome.{Outcome}
use Rattle.monitor.specs.Stepped.{stepped}

pub step-table-only : (d : Device) (lent : List Loan) (action manifest : List ℕ) (r r' : Stepped)
    → r ≡ stepped d lent action manifest → r' ≡ stepped d lent action manifest → r ≡ r'
step-table-only d lent action manifest = only_one (stepped d lent action manifest)

module _ (d : Device) (lent : List Loan) (action manifest : List ℕ) where
  abbrev Stepping : Outcome → List Loan → Type 0
  Stepping r l =
      (r ≡ record { device = step_device d lent action manifest; answer = step_answer d lent action manifest })
      × (l ≡ step_lent d lent action manifest)

  pub step-only : (r r' : Outcome) (l l' : List Loan) → Stepping r l → Stepping r' l' → (r ≡ r') × (l ≡ l')
  step-only r r' l l' p p' =
      (only_one _ r r' p.0 p'.0, only_one (step_lent d lent action manifest) l l' p.1 p'.1)
