-- What the monitor is handed for a record: its twelve bytes, and the bytes of the manifest that it names.
use Prim.Native.Nat.{ℕ, ◌+◌, ◌*◌, ◌-◌}
use mathlib.Core.Path.{◌≡◌, ap, ap₂, ◌∙◌}
use mathlib.Core.List.{List}
use lib.ListN.{take, drop}
use native.Mathlib.Omega.{arith}
use Rattle.manifest.specs.Layout.{u16_at}
use Rattle.rules.specs.declared.Loan.{Loan}
use Rattle.state.specs.declared.Device.{Device}
use Rattle.monitor.specs.declared.Stepped.{Stepped}
use Rattle.history.specs.Tape.{actions_place, record_bytes, place_named, handed}
use Rattle.history.specs.Run.{monitor_steps}
use Rattle.tape.specs.Reading.{stepped}

-- a part of a slice, as the code lends it
abbrev part : ℕ → ℕ → List ℕ → List ℕ
part a e s = take (e - a) (drop a s)

-- the monitor at a record, whose first stands at a place
module _ (s : List ℕ) (d : Device) (lent : List Loan) (records i : ℕ) (first : records ≡ actions_place s + 2) where
  abbrev from : ℕ
  from = records + 12 * i

  abbrev made : (action manifest : List ℕ) → Stepped
  made a m =
      record {
        device = monitor_steps.device d lent a m;
        lent = monitor_steps.lent d lent a m;
        answer = monitor_steps.answer d lent a m;
      }

  record-part : part from (from + 12) s ≡ record_bytes s i
  record-part =
      let e : from + 12 - from ≡ 12 = omega arith in
      rw (e, first)

  pub step-made : {r : Stepped} {m : List ℕ} (place : ℕ) → place ≡ u16_at s (from + 2) → m ≡ handed s place
      → r ≡ made (part from (from + 12) s) m → r ≡ stepped s d lent i
  step-made place named given e =
      let n : place ≡ place_named s i = named ∙ ap (λ (q : ℕ). u16_at s (q + 12 * i + 2)) first in
      e ∙ ap₂ made record-part (given ∙ ap (handed s) n)
