-- What `is_some_and` answers is what the test says of the rules' option.
use Rattle.std.specs.Prelude.{◌≡◌, Bool, false, Option}
use Rattle.std.proofs.Math.Option.{Option as Rules, none, some}
use Rattle.std.specs.Option.{MatchOption}
use Rattle.rules.specs.Lists.{test}
use Rattle.tables.specs.Looking.{option_of}

module _ {A : Type 0} (f : A → Bool) {r : Bool} {Said : A → Type 0} where
  told : (o : Rules A) → MatchOption (option_of o) (r ≡ false) Said → ((x : A) → Said x → r ≡ f x) → r ≡ test o f
  unfolding test
  told none e says = e
  told (some x) e says = says x e

  pub tested : (o : Rules A) {given : Option A} → given ≡ option_of o → MatchOption given (r ≡ false) Said
      → ((x : A) → Said x → r ≡ f x) → r ≡ test o f
  tested o same e says = told o (rw same at e) says
