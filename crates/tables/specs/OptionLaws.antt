-- The code's option tells which the rules' option is.
use Rattle.std.specs.Prelude.{ℕ, ◌≡◌, refl, Some, None}
use Rattle.std.proofs.Common.{arith}
use Rattle.std.proofs.Math.Option.{Option as Rules, none, some}
use Rattle.tables.specs.Looking.{option_of}

module _ {A : Type 0} where
  pub option-some : (o : Rules A) (x : A) → option_of o ≡ Some x → o ≡ some x
  option-some none x e = absurd (let z : ◌≡◌ {A = ℕ} 0 1 = cc in omega arith)
  option-some (some y) x e = cc

  pub option_none : (o : Rules A) → option_of o ≡ None → o ≡ none
  option_none none e = refl
  option_none (some x) e = absurd (let z : ◌≡◌ {A = ℕ} 0 1 = cc in omega arith)
