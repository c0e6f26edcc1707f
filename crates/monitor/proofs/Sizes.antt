-- What owning a device tells of its arrays: each has its length.
use mathlib.Core.Path.{◌≡◌, refl}
use mathlib.Core.Bool.{Bool, true}
use mathlib.Core.List.{List, [], ◌∷◌}
use native.Mathlib.Omega.{arith}
use borrow.Author.Tests.{eq-eqb, le-leb}
use lib.Dec.{leb}
use lib.ListN.{length}
use denote.Laws.{Is}
use denote.Array.{each}
use denote.Shadow.{shadow}
use denote.Struct.Declared.{row}
use mir.Val.{Val}
use Rattle.rules.specs.declared.Loan.{Loan}
use Rattle.rules.specs.Lists.{all}
use Rattle.rules.specs.ListsLaws.{both}
use Rattle.state.specs.contracts.Device as device-type
use Rattle.state.specs.contracts.App as app-type
use Rattle.state.specs.declared.Device.{Device}
use Rattle.state.specs.declared.App.{App}
use Rattle.state.specs.Stored.{valid_stored}
use Rattle.state.specs.FormedLaws.{is_sized, Sized}
use Rattle.monitor.specs.StepLaws.{Kept, stored-kept}
use Rattle.monitor.specs.contracts.Valid as valid-type
use Rattle.monitor.specs.declared.Valid.{Valid}

app-size : (a : App) (vs : List Val) → Is (row app-type.the_type) a vs → is_sized a ≡ true
unfolding is_sized
app-size a vs g =
    both (eq-eqb (length a.uses.entries) 32 (g.1.1.1.1.1.0.1.1.0.1.0.1))
    (both (eq-eqb (length a.grants.entries) 32 (g.1.1.1.1.1.1.0.1.1.0.1.0.1))
    (eq-eqb (length a.groups.entries) 15 (g.1.1.1.1.1.1.1.0.1.1.0.1.0.1)))

-- what each owned app passes, each of an array of apps does
each_app : (f : App → Bool) → ((a : App) (vs : List Val) → Is (row app-type.the_type) a vs → f a ≡ true)
    → (l : List App) (us : List Val)
    → shadow (each _ app-type.the_row.own_val l us) → all f l ≡ true
each_app f h [] us g = refl
each_app f h (a ∷ l) [] g = absurd g
each_app f h (a ∷ l) (u ∷ us) g = both (h a (u ∷ []) g.0) (each_app f h l us g.1)

pub sizes : (d : Device) {vs : List Val} → Is (row device-type.the_type) d vs → Sized d
sizes d g =
    record {
      apps = g.1.1.0.1.1.0.1.0.1;
      lists = each_app is_sized app-size d.apps.entries _ g.1.1.0.1.1.0.1.1;
      definitions = g.1.1.1.0.1.1.0.1.0.1;
      parts = g.1.1.1.1.0.1.1.0.1.0.1;
      resources = g.1.1.1.1.1.0.1.1.0.1.0.1;
      instances = g.1.1.1.1.1.1.0.1.1.0.1.1.0.1.0.1;
    }

-- a valid device that is owned
pub kept_by : {d : Device} {lent : List Loan} {vs : List Val} → Is (row device-type.the_type) d vs
    → valid_stored d lent ≡ true → Kept d lent
kept_by {d} {lent} g v = stored-kept d lent (sizes d g) v

pub kept : (on : Valid) {vs : List Val} → Is (row valid-type.the_type) on vs → Kept on.device on.lent
kept on g = kept_by g.1.1.0 on.valid

number-narrow : (a : App) (vs : List Val) → Is (row app-type.the_type) a vs → leb a.number 65535 ≡ true
number-narrow a vs g = let h = g.1.1.0 in le-leb a.number 65535 (omega arith)

-- an app's number is a number of two bytes
pub numbers-narrow : (d : Device) {vs : List Val} → Is (row device-type.the_type) d vs
    → all (λ a. leb a.number 65535) d.apps.entries ≡ true
numbers-narrow d g =
    each_app (λ a. leb a.number 65535) number-narrow d.apps.entries _ g.1.1.0.1.1.0.1.1
