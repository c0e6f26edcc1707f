-- A ground is one of the four, or nothing, and the four come in their order.
use Rattle.std.proofs.Common.{ℕ, ◌≡◌, true, false, not, refl}
use denote.Enum.Bare.{sameb}
use Rattle.rules.specs.declared.Part.{Part}
use Rattle.rules.specs.declared.Ground.{Ground}
use Rattle.rules.specs.contracts.Ground.{the_type}
use Rattle.rules.specs.declared.Ground.TheVariants.{Nothing, Owner, Permission, LoanToInstance, LoanToApp}
use Rattle.rules.specs.Action.{Op, an_instance, an_app}
use Rattle.rules.specs.View.{App, View}
use Rattle.rules.specs.Grounds.{is_ground, right_ground, loan_ground, ground}

-- the code's comparison with `Nothing`
pub none-is : (g : Ground) → sameb the_type g Nothing ≡ not (is_ground g)
unfolding is_ground
none-is Nothing = refl
none-is Owner = refl
none-is Permission = refl
none-is LoanToInstance = refl
none-is LoanToApp = refl

pub some-is : (g : Ground) → not (sameb the_type g Nothing) ≡ is_ground g
unfolding is_ground
some-is Nothing = refl
some-is Owner = refl
some-is Permission = refl
some-is LoanToInstance = refl
some-is LoanToApp = refl

module _ (v : View) (n : ℕ) (a : App) (k : Part) (u : ℕ) (op : Op) {g : Ground}
    (right : g ≡ right_ground v a k op) where
  pub by-right : is_ground g ≡ true → g ≡ ground v n a k u op
  unfolding ground
  by-right e = rw (← right, e)

  module _ (e : is_ground g ≡ false) where
    pub by-instance : v.lent (an_instance n) k.component.number u op ≡ true → LoanToInstance ≡ ground v n a k u op
    unfolding ground loan_ground
    by-instance i = rw (← right, e, i)

    module _ (i : v.lent (an_instance n) k.component.number u op ≡ false) where
      pub by-app : v.lent (an_app a.number) k.component.number u op ≡ true → LoanToApp ≡ ground v n a k u op
      unfolding ground loan_ground
      by-app s = rw (← right, e, i, s)

      pub by-none : v.lent (an_app a.number) k.component.number u op ≡ false → Nothing ≡ ground v n a k u op
      unfolding ground loan_ground
      by-none s = rw (← right, e, i, s)
