-- A receiver and an app of the code against those of the rules, and which tables an answer depends on.
use Rattle.std.specs.Prelude.{ℕ, ◌≡◌, refl, ◌&&◌, List, map, eqb}
use Rattle.std.proofs.Common.{◌∙◌}
use Rattle.std.proofs.Math.Option.{none, some}
use Rattle.rules.specs.Lists.{any, mem, find, map_option}
use Rattle.rules.specs.Action.{receiver_kind, receiver_number}
use Rattle.rules.specs.ListsLaws.{any-map, find-map, map-map}
use Rattle.state.specs.declared.App.{App}
use Rattle.state.specs.Stored.{row_of}
use Rattle.state.specs.Tables.{app_number, apps_of, app_at, granted_in, grouped_in}
use Rattle.tables.specs.declared.Receiver.{Receiver}
use Rattle.tables.specs.declared.Receiver.TheVariants.{Instance as ToInstance, App as ToApp}
use Rattle.tables.specs.Finding.{is_app}
use Rattle.tables.specs.Looking.{receiver_of, kind_of, number_in}

-- ---- a receiver
pub same-kind : (r : Receiver ℕ) → kind_of r ≡ receiver_kind (receiver_of r)
unfolding receiver_kind
same-kind (ToInstance n) = refl
same-kind (ToApp b) = refl

pub same-number : (r : Receiver ℕ) → number_in r ≡ receiver_number (receiver_of r)
unfolding receiver_number
same-number (ToInstance n) = refl
same-number (ToApp b) = refl

-- ---- an app
same-search : (l : List App) (n : ℕ) → app_at (apps_of (map row_of l)) n
    ≡ map_option (λ a. (row_of a).app) (find (is_app n) l)
unfolding app_at
same-search l n = rw (map-map (λ r. r.app) row_of l) (find-map (λ a. eqb a.number n) (λ a. (row_of a).app) l)

pub app-found : (l : List App) (n : ℕ) (a : App) → find (is_app n) l ≡ some a
    → app_at (apps_of (map row_of l)) n ≡ some (row_of a).app
unfolding map_option
app-found l n a e = same-search l n ∙ rw e

pub app-missing : (l : List App) (n : ℕ) → find (is_app n) l ≡ none → app_at (apps_of (map row_of l)) n ≡ none
unfolding map_option
app-missing l n e = same-search l n ∙ rw e

pub granted-any : (l : List App) (b p : ℕ)
    → granted_in (map row_of l) b p ≡ any (λ a. eqb (app_number (row_of a)) b && mem p (row_of a).grants) l
unfolding granted_in
granted-any l b p = any-map (λ r. eqb (app_number r) b && mem p r.grants) row_of l

pub grouped-any : (l : List App) (b g : ℕ)
    → grouped_in (map row_of l) b g ≡ any (λ a. eqb (app_number (row_of a)) b && mem g (row_of a).groups) l
unfolding grouped_in
grouped-any l b g = any-map (λ r. eqb (app_number r) b && mem g r.groups) row_of l
