-- The answer to an action, and the number, ground and value that the paper gives for each case of it.
-- Document 01, "Numbers that come back": the table and the text under it.
use Rattle.std.specs.Prelude.{ℕ, cond, List, [], ◌∷◌, Result, Ok, Err}
use Rattle.std.proofs.Math.Option.{Option, none, some}
use Rattle.rules.specs.declared.Ground.{Ground}
use Rattle.rules.specs.declared.Ground.TheVariants.{Nothing, Owner, Permission, LoanToInstance, LoanToApp}
use Rattle.rules.specs.declared.Reason.{Reason}
use Rattle.rules.specs.declared.Reason.TheVariants.{StateNotValid, MalformedAction, MalformedManifest}
use Rattle.rules.specs.declared.Reason.TheVariants.{AlreadyThere, NoSuchApp, NoSuchComponent, NoSuchInstance}
use Rattle.rules.specs.declared.Reason.TheVariants.{NoSuchResource, Undefined, CannotBeGranted, NotPermitted}
use Rattle.rules.specs.declared.Reason.TheVariants.{NothingToTakeBack, InUse, PartOfTheImage, NoRoom}
use Rattle.rules.specs.declared.Done.{Done}
use Rattle.rules.specs.Lists.{test, or_else}
use Rattle.rules.specs.Limits.{Limits}
use Rattle.rules.specs.Action.{reading, writing, bit, start, stop, read, ask, malformed, Action, on_apps, on_grants}
use Rattle.rules.specs.Action.{on_runs, write, on_loans, query}
use Rattle.rules.specs.View.{View}
use Rattle.rules.specs.Permissions.{holds}
use Rattle.rules.specs.Grounds.{ground_of}
use Rattle.rules.specs.Refusals.{Refusal, free_number, refusals}

-- a done read or write names its ground; other actions have ground 0
unfoldable pub ground_for : View → Action → Ground
ground_for v (on_apps z) = Nothing
ground_for v (on_grants z) = Nothing
ground_for v (on_runs z) = Nothing
ground_for v (write p n u x) = or_else Nothing (ground_of v p n u writing)
ground_for v (on_loans z) = Nothing
ground_for v (query (read p n u)) = or_else Nothing (ground_of v p n u reading)
ground_for v (query (ask b p)) = Nothing
ground_for v (query malformed) = Nothing

-- read, the stored value; write, the one written; start, the instance; ask, 1 held or 0 not; others 0
unfoldable pub value_for : Limits → View → Action → ℕ
value_for L v (on_apps z) = 0
value_for L v (on_grants z) = 0
value_for L v (on_runs (start c n)) = or_else 0 (free_number L v)
value_for L v (on_runs (stop n)) = 0
value_for L v (write p n u x) = x
value_for L v (on_loans z) = 0
value_for L v (query (read p n u)) = or_else 0 (v.value p u)
value_for L v (query (ask b p)) = bit (test (v.app b) (λ a. holds v a p))
value_for L v (query malformed) = 0

-- what comes back: done, with a ground and a value, or refused, for a reason
abbrev pub Answer : Type 0
Answer = Result Done Reason

abbrev pub done : Ground → ℕ → Answer
done g v = Ok (record { ground = g; value = v })

abbrev pub refused : Reason → Answer
refused n = Err n

-- the first refusal that applies, and else what is done
unfoldable pub decide : List Refusal → Answer → Answer
decide [] a = a
decide (r ∷ rs) a = cond r.applies (refused r.reason) (decide rs a)

unfoldable pub answer : Limits → View → Action → Answer
answer L v x = decide (refusals L v x) (done (ground_for v x) (value_for L v x))

abbrev pub number_of : Reason → ℕ
number_of StateNotValid = 1
number_of MalformedAction = 2
number_of MalformedManifest = 3
number_of AlreadyThere = 4
number_of NoSuchApp = 5
number_of NoSuchComponent = 6
number_of NoSuchInstance = 7
number_of NoSuchResource = 8
number_of Undefined = 9
number_of CannotBeGranted = 10
number_of NotPermitted = 11
number_of NothingToTakeBack = 12
number_of InUse = 13
number_of PartOfTheImage = 14
number_of NoRoom = 15

abbrev pub ground_number : Ground → ℕ
ground_number Nothing = 0
ground_number Owner = 1
ground_number Permission = 2
ground_number LoanToInstance = 3
ground_number LoanToApp = 4

-- the answer's number, and its ground and value; a refusal has no ground and no value
pub record Line : Type 0 where
  pub number : ℕ
  pub ground : Option ℕ
  pub value : Option ℕ

unfoldable pub line_of : Answer → Line
line_of (Ok d) = record { number = 0; ground = some (ground_number d.ground); value = some d.value }
line_of (Err n) = record { number = number_of n; ground = none; value = none }
