-- What each ground rests on, and when there is one, over any view.
use Rattle.std.specs.Prelude.{ℕ, ◌≡◌, Bool, ◌&&◌, ◌||◌, cond}
use Rattle.std.proofs.Math.Path.{refl}
use Rattle.std.proofs.Math.Bool.{true, false}
use Rattle.std.proofs.Math.Dec.{eqb}
use Rattle.rules.specs.declared.Part.{Part}
use Rattle.rules.specs.declared.Ground.{Ground}
use Rattle.rules.specs.declared.Ground.TheVariants.{Nothing, Owner, Permission, LoanToInstance, LoanToApp}
use Rattle.rules.specs.ListsLaws.{and_right}
use Rattle.rules.specs.Action.{Op, an_instance, an_app}
use Rattle.rules.specs.View.{App, View}
use Rattle.rules.specs.Permissions.{allows}
use Rattle.rules.specs.Grounds.{is_exported, permission_for, is_ground, right_ground, loan_ground, ground}

module _ (v : View) (n : ℕ) (a : App) (k : Part) (u : ℕ) (op : Op) where
  pub right-exactly : is_ground (right_ground v a k op)
      ≡ eqb a.number k.app || (is_exported k.component && allows v a (permission_for op k.component))
  unfolding right_ground is_ground
  right-exactly =
      go (eqb a.number k.app) (is_exported k.component && allows v a (permission_for op k.component))
    where
      go : (s t : Bool) → is_ground (cond s Owner (cond t Permission Nothing)) ≡ s || t
      go true t = refl
      go false true = refl
      go false false = refl

  pub ground-exactly : is_ground (ground v n a k u op)
      ≡ is_ground (right_ground v a k op)
      || (v.lent (an_instance n) k.component.number u op || v.lent (an_app a.number) k.component.number u op)
  unfolding ground loan_ground is_ground
  ground-exactly = go (right_ground v a k op) (v.lent (an_instance n) k.component.number u op)
      (v.lent (an_app a.number) k.component.number u op)
    where
      go : (g : Ground) (s t : Bool)
          → is_ground (cond (is_ground g) g (cond s LoanToInstance (cond t LoanToApp Nothing)))
          ≡ is_ground g || (s || t)
      go Nothing true t = refl
      go Nothing false true = refl
      go Nothing false false = refl
      go Owner s t = refl
      go Permission s t = refl
      go LoanToInstance s t = refl
      go LoanToApp s t = refl

  -- what is true of a ground by what it is called
  abbrev rests_on : Ground → Bool
  rests_on Nothing = true
  rests_on Owner = eqb a.number k.app
  rests_on Permission = is_exported k.component && allows v a (permission_for op k.component)
  rests_on LoanToInstance = v.lent (an_instance n) k.component.number u op
  rests_on LoanToApp = v.lent (an_app a.number) k.component.number u op

  rests : rests_on (ground v n a k u op) ≡ true
  unfolding ground right_ground loan_ground is_ground
  rests = go (eqb a.number k.app) (is_exported k.component && allows v a (permission_for op k.component))
      (v.lent (an_instance n) k.component.number u op) (v.lent (an_app a.number) k.component.number u op)
      refl refl refl refl
    where
      go : (s t r q : Bool) → eqb a.number k.app ≡ s
          → is_exported k.component && allows v a (permission_for op k.component) ≡ t
          → v.lent (an_instance n) k.component.number u op ≡ r
          → v.lent (an_app a.number) k.component.number u op ≡ q
          → rests_on (cond (is_ground (cond s Owner (cond t Permission Nothing)))
          (cond s Owner (cond t Permission Nothing)) (cond r LoanToInstance (cond q LoanToApp Nothing))) ≡ true
      go true t r q e f g h = e
      go false true r q e f g h = f
      go false false true q e f g h = g
      go false false false true e f g h = h
      go false false false false e f g h = refl

  pub by-permission : ground v n a k u op ≡ Permission → allows v a (permission_for op k.component) ≡ true
  by-permission e = and_right (is_exported k.component) _ (rw e at rests)

  pub by-loan-to-instance : ground v n a k u op ≡ LoanToInstance
      → v.lent (an_instance n) k.component.number u op ≡ true
  by-loan-to-instance e = rw e at rests

  pub by-loan-to-app : ground v n a k u op ≡ LoanToApp → v.lent (an_app a.number) k.component.number u op ≡ true
  by-loan-to-app e = rw e at rests
