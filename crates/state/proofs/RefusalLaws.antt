-- A refusal leaves state and loans unchanged and has no ground and no value; a done answer has number 0 and both. So a
-- refusal and a stored zero never look alike. Document 01, "Numbers that come back", the text under the table.
use Rattle.std.specs.Prelude.{ℕ, ◌≤◌, ◌≡◌, refl, Bool, true, false, cond, List, ◌∷◌, eqb, length}
use Rattle.std.proofs.Common.{sym, ap, ◌∙◌, arith, eqb-true}
use Rattle.std.proofs.Math.Option.{none, some}
use Rattle.rules.specs.declared.Loan.{Loan}
use Rattle.rules.specs.declared.Ground.{Ground}
use Rattle.rules.specs.declared.Reason.{Reason}
use Rattle.rules.specs.declared.Reason.TheVariants.{StateNotValid, MalformedAction, MalformedManifest}
use Rattle.rules.specs.declared.Reason.TheVariants.{AlreadyThere, NoSuchApp, NoSuchComponent, NoSuchInstance}
use Rattle.rules.specs.declared.Reason.TheVariants.{NoSuchResource, Undefined, CannotBeGranted, NotPermitted}
use Rattle.rules.specs.declared.Reason.TheVariants.{NothingToTakeBack, InUse, PartOfTheImage, NoRoom}
use Rattle.rules.specs.Limits.{Limits}
use Rattle.rules.specs.Action.{Action}
use Rattle.rules.specs.ListsLaws.{and_left, and_right}
use Rattle.rules.specs.Record.{action_of}
use Rattle.rules.specs.Answer.{done, refused, Line, answer, number_of, ground_number, line_of}
use Rattle.state.specs.declared.Device.{Device}
use Rattle.state.specs.Tables.{State, view_of}
use Rattle.state.specs.Effects.{after, device}
use Rattle.state.specs.Stored.{model_of, device_of, lent_of, formed, valid_stored}
use Rattle.state.specs.FormedLaws.{Sized, same-device, same-lent}
use Rattle.state.specs.Step.{inner_answer, inner_state, step_answer, step_device, step_lent}

-- ---- state and loans
pub refused-changes-nothing : (s : State) (x : Action) (n : Reason) → after s x (refused n) ≡ s
unfolding after
refused-changes-nothing s x n = refl

pub refused-leaves-device : (L : Limits) (x : Action) (xs : List Action) (n : Reason)
    → answer L (view_of (device L xs)) x ≡ refused n → device L (x ∷ xs) ≡ device L xs
unfolding device
refused-leaves-device L x xs n e = rw e (refused-changes-nothing (device L xs) x n)

-- a state that is not valid is refused
pub invalid-refused : (d : Device) (lent : List Loan) (action manifest : List ℕ) → valid_stored d lent ≡ false
    → step_answer d lent action manifest ≡ refused StateNotValid
unfolding step_answer
invalid-refused d lent action manifest e = rw e

-- a refused step leaves the device and the lent table as they were, to the last place
pub record Unchanged (d : Device) (lent : List Loan) (action manifest : List ℕ) : Type 0 where
  pub device : step_device d lent action manifest ≡ d
  pub loans : step_lent d lent action manifest ≡ lent

pub refused-step : (d : Device) (lent : List Loan) (action manifest : List ℕ) (n : Reason) → Sized d
    → step_answer d lent action manifest ≡ refused n → Unchanged d lent action manifest
unfolding step_answer step_device step_lent inner_state valid_stored
refused-step d lent action manifest n s e = go (valid_stored d lent) refl e
  where
    go : (t : Bool) → valid_stored d lent ≡ t
        → cond t (inner_answer d lent action manifest) (refused StateNotValid) ≡ refused n
        → Unchanged d lent action manifest
    go false v e = record { device = rw v; loans = rw v }
    go true v e =
        let size = eqb-true (length lent) 128 (and_left (eqb (length lent) 128) _ v) in
        let stored = and_left (formed d lent) _ (and_right (eqb (length lent) 128) _ v) in
        let stays : inner_state d lent action manifest ≡ model_of d lent = rw e
        (refused-changes-nothing (model_of d lent) (action_of action manifest) n) in
        record {
          device = rw v (ap device_of stays ∙ same-device d lent s stored);
          loans = rw v (ap (lent_of 128) stays ∙ ap (λ (k : ℕ). lent_of k (model_of d lent)) (sym size)
              ∙ same-lent d lent stored);
        }

-- ---- number, ground and value
-- a refusal's number is 1 to 15, and it has no ground and no value
pub record RefusedLine (l : Line) : Type 0 where
  pub low : 1 ≤ l.number
  pub high : l.number ≤ 15
  pub ground : l.ground ≡ none
  pub value : l.value ≡ none

numbers : (n : Reason) → (1 ≤ number_of n) × (number_of n ≤ 15)
numbers StateNotValid = (omega arith, omega arith)
numbers MalformedAction = (omega arith, omega arith)
numbers MalformedManifest = (omega arith, omega arith)
numbers AlreadyThere = (omega arith, omega arith)
numbers NoSuchApp = (omega arith, omega arith)
numbers NoSuchComponent = (omega arith, omega arith)
numbers NoSuchInstance = (omega arith, omega arith)
numbers NoSuchResource = (omega arith, omega arith)
numbers Undefined = (omega arith, omega arith)
numbers CannotBeGranted = (omega arith, omega arith)
numbers NotPermitted = (omega arith, omega arith)
numbers NothingToTakeBack = (omega arith, omega arith)
numbers InUse = (omega arith, omega arith)
numbers PartOfTheImage = (omega arith, omega arith)
numbers NoRoom = (omega arith, omega arith)

pub refused-line : (n : Reason) → RefusedLine (line_of (refused n))
unfolding line_of
refused-line n = record { low = (numbers n).0; high = (numbers n).1; ground = refl; value = refl }

-- a done answer's number is 0, and it has its ground and its value
pub record DoneLine (g : Ground) (v : ℕ) (l : Line) : Type 0 where
  pub number : l.number ≡ 0
  pub ground : l.ground ≡ some (ground_number g)
  pub value : l.value ≡ some v

pub done-line : (g : Ground) (v : ℕ) → DoneLine g v (line_of (done g v))
unfolding line_of
done-line g v = record { number = refl; ground = refl; value = refl }

-- no refused line is a done line, whatever its value
pub never-alike : (n : Reason) (g : Ground) (v : ℕ) → line_of (refused n) ≡ line_of (done g v) → ⊥
never-alike n g v e =
    let low = (refused-line n).low in
    let same : (line_of (refused n)).number ≡ 0 = ap (λ (l : Line). l.number) e ∙ (done-line g v).number in
    omega arith
