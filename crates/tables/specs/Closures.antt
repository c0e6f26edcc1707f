-- What a closure says of each value that it is called at.
use Rattle.std.specs.Prelude.{◌≡◌, Bool}
use Rattle.std.specs.Fn.{FnReturns, FnReturnsAt}
use denote.Param.Members.{Shared}
use denote.Ref.{Bor}

-- it tells whether a test passes
abbrev pub Tells : {F A : Type 0} → Shared F (Bor A × Unit {0}) Bool → F → (A → Bool) → Type 0
Tells {F} {A} g f test = (x : A) (r : Bool) → FnReturnsAt g f x r → r ≡ test x

-- it gives what a function makes of the value
abbrev pub Gives : {F A B : Type 0} → Shared F (A × Unit {0}) B → F → (A → B) → Type 0
Gives {F} {A} {B} g f to = (x : A) (r : B) → FnReturns g f (x, tt) r → r ≡ to x
