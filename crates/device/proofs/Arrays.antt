-- The array that `from_fn` fills has at each place what the closure says of it.
use Rattle.std.proofs.Common.{ℕ, suc, zero, ◌+◌, ◌<◌, ◌≡◌, List, length, drop, map, sym, ◌∙◌, arith, add-one}
use Rattle.std.proofs.Common.{drop_of_length-le}
use Rattle.std.specs.Fn.{Called}
use Rattle.std.specs.Array.{IsFromFnResultFrom}
use denote.Param.Members.{Mut}
use Rattle.device.specs.Tests.{numbers_from}
use Rattle.device.proofs.Turns.{from-suc}

module _ {F B : Type 0} (g : Mut F (ℕ × Unit {0}) B) (f : F) (h : ℕ → B) (room : ℕ) where
  pub filled : (ys : List B) (i n : ℕ) → IsFromFnResultFrom g f ys i n → length ys ≡ room → i + n ≡ room
      → ((i : ℕ) (y : B) (q : F) → i < room → Called g f (i, tt) y q → (q ≡ f) × (y ≡ h i))
      → drop i ys ≡ map h (numbers_from i n)
  unfolding numbers_from
  filled ys i zero e long here says = drop_of_length-le ys {i = i} (omega (arith, long))
  filled ys i (suc n) e long here says =
      let told = says i e.1 e.0 (omega arith) e.3 in
      from-suc ys i e.1 (omega (arith, long)) (sym e.2.0)
      ∙ rw (told.1, filled ys (suc i) n (rw (told.0, add-one i) at e.4) long (omega arith) says)
