-- What a closure says of each value, or of each two values, that it is called at.
use Rattle.std.specs.Prelude.{◌≡◌, Bool}
use Rattle.std.specs.Fn.{FnReturnsAt, FnReturnsAtPair}
use denote.Param.Members.{Shared}
use denote.Ref.{Bor}

-- it says what a function makes of the value
abbrev pub Says : {F A B : Type 0} → Shared F (Bor A × Unit {0}) B → F → (A → B) → Type 0
Says {F} {A} {B} g f to = (x : A) (r : B) → FnReturnsAt g f x r → r ≡ to x

-- it tells which two values are the same
abbrev pub TellsSame : {F A : Type 0} → Shared F (Bor A × (Bor A × Unit {0})) Bool → F → (A → A → Bool) → Type 0
TellsSame {F} {A} g f same = (x y : A) (r : Bool) → FnReturnsAtPair g f x y r → r ≡ same x y
