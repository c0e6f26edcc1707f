-- What an operation rests on: document 01, "Conditions and effects", grounds. No resource is looked up for it.
use Rattle.std.specs.Prelude.{ℕ, Bool, true, false, ◌&&◌, cond, eqb}
use Rattle.std.proofs.Math.Option.{Option, none, some}
use Rattle.manifest.specs.declared.Component.{Component}
use Rattle.manifest.specs.Good.{is_provider}
use Rattle.rules.specs.declared.Part.{Part}
use Rattle.rules.specs.declared.Ground.{Ground}
use Rattle.rules.specs.declared.Ground.TheVariants.{Nothing, Owner, Permission, LoanToInstance, LoanToApp}
use Rattle.rules.specs.Lists.{bind, map_option}
use Rattle.rules.specs.Action.{Op, reading, writing, an_instance, an_app}
use Rattle.rules.specs.View.{App, View}
use Rattle.rules.specs.Permissions.{allows}

abbrev pub is_exported : Component → Bool
is_exported c = eqb c.exported 1

abbrev pub is_sharing : Component → Bool
is_sharing c = eqb c.shares 1

-- a provider's permission for an operation
unfoldable pub permission_for : Op → Component → ℕ
permission_for reading c = c.read
permission_for writing c = c.write

unfoldable pub is_ground : Ground → Bool
is_ground Nothing = false
is_ground Owner = true
is_ground Permission = true
is_ground LoanToInstance = true
is_ground LoanToApp = true

-- 1 the app owns the provider; 2 the provider is exported and its permission for that operation is 0 or held by the app
unfoldable pub right_ground : View → App → Part → Op → Ground
right_ground v a k op =
    cond (eqb a.number k.app) Owner
    (cond (is_exported k.component && allows v a (permission_for op k.component)) Permission Nothing)

-- 3 a loan to this instance carries the operation; 4 a loan to the app carries it
unfoldable pub loan_ground : View → ℕ → App → (provider uri : ℕ) → Op → Ground
loan_ground v n a p u op =
    cond (v.lent (an_instance n) p u op) LoanToInstance
    (cond (v.lent (an_app a.number) p u op) LoanToApp Nothing)

-- the first of the four, for an operation by instance n of app a on resource u of provider k
unfoldable pub ground : View → ℕ → App → Part → ℕ → Op → Ground
ground v n a k u op =
    cond (is_ground (right_ground v a k op)) (right_ground v a k op) (loan_ground v n a k.component.number u op)

-- the app of a running instance
unfoldable pub running_app : View → ℕ → Option App
running_app v n = bind (v.runs n) λ c. bind (v.part c) λ k. v.app k.app

-- a component that is a provider, and one that is not
unfoldable pub provider : View → ℕ → Option Part
provider v p = bind (v.part p) (λ k. cond (is_provider k.component) (some k) none)

unfoldable pub startable : View → ℕ → Option Part
startable v c = bind (v.part c) (λ k. cond (is_provider k.component) none (some k))

-- the grounds of an operation by instance n on resource u of provider p, where instance and provider are there
unfoldable pub right_of : View → (provider instance : ℕ) → Op → Option Ground
right_of v p n op = bind (provider v p) λ k. map_option (λ a. right_ground v a k op) (running_app v n)

unfoldable pub ground_of : View → (provider instance uri : ℕ) → Op → Option Ground
ground_of v p n u op = bind (provider v p) λ k. map_option (λ a. ground v n a k u op) (running_app v n)
