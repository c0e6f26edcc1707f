-- A receiver in the width of a loan's field: the same receiver, and none where its number does not fit.
use Rattle.std.specs.Prelude.{ℕ, ◌≡◌, Bool, true, false, cond, leb, Some, None}
use mathlib.Core.Path.{refl, ap}
use native.Mathlib.Omega.{arith}
use Rattle.rules.specs.Action.{receiver_number}
use Rattle.tables.specs.declared.Receiver.{Receiver}
use Rattle.tables.specs.declared.Receiver.TheVariants.{Instance, App}
use Rattle.tables.specs.Looking.{receiver_of}
use Rattle.monitor.specs.Made.{narrowed}

when_some : {A : Type 0} (t : Bool) (x y : A) → cond t (Some x) None ≡ Some y → y ≡ x
when_some true x y e = cc
when_some false x y e = let f : ◌≡◌ {A = ℕ} 0 1 = cc in absurd (omega arith)

when_none : {A : Type 0} (t : Bool) (x : A) → cond t (Some x) None ≡ None → t ≡ false
when_none true x e = let f : ◌≡◌ {A = ℕ} 0 1 = cc in absurd (omega arith)
when_none false x e = refl

pub narrow-same : (q to : Receiver ℕ) → narrowed q ≡ Some to → receiver_of to ≡ receiver_of q
narrow-same (Instance n) to e = ap receiver_of (when_some (leb n 65535) (Instance n) to e)
narrow-same (App b) to e = ap receiver_of (when_some (leb b 65535) (App b) to e)

pub narrow-none : (q : Receiver ℕ) → narrowed q ≡ None → leb (receiver_number (receiver_of q)) 65535 ≡ false
unfolding receiver_number
narrow-none (Instance n) e = when_none (leb n 65535) (Instance n) e
narrow-none (App b) e = when_none (leb b 65535) (App b) e
