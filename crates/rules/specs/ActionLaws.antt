-- Operations as a number: it carries those that it was made of, and is 1 to 3 exactly if there are any.
use Rattle.std.specs.Prelude.{ℕ, zero, suc, ◌+◌, ◌*◌, ◌≡◌, refl, Bool, true, false, ◌||◌, leb}
use Rattle.std.proofs.lemmas.Bool.{false≢true}
use Rattle.std.proofs.Common.{arith, leb-true}
use Rattle.rules.specs.ListsLaws.{and_right}
use Rattle.rules.specs.Action.{Op, reading, writing, carries, bit, operations_of, is_operations}

pub carries-those : (f : Op → Bool) (op : Op) → carries op (operations_of f) ≡ f op
unfolding carries operations_of
carries-those f reading = go (f reading) (f writing)
  where
    go : (r w : Bool) → carries reading (bit r + 2 * bit w) ≡ r
    go true true = refl
    go true false = refl
    go false true = refl
    go false false = refl
carries-those f writing = go (f reading) (f writing)
  where
    go : (r w : Bool) → carries writing (bit r + 2 * bit w) ≡ w
    go true true = refl
    go true false = refl
    go false true = refl
    go false false = refl

pub operations-if-any : (f : Op → Bool) → is_operations (operations_of f) ≡ f reading || f writing
unfolding is_operations operations_of
operations-if-any f = go (f reading) (f writing)
  where
    go : (r w : Bool) → is_operations (bit r + 2 * bit w) ≡ r || w
    go true true = refl
    go true false = refl
    go false true = refl
    go false false = refl

pub same-operations : (n : ℕ) → is_operations n ≡ true → operations_of (λ op. carries op n) ≡ n
unfolding is_operations operations_of carries
same-operations zero e = absurd (false≢true e)
same-operations (suc zero) e = refl
same-operations (suc (suc zero)) e = refl
same-operations (suc (suc (suc zero))) e = refl
same-operations (suc (suc (suc (suc n)))) e =
    let low = leb-true (suc (suc (suc (suc n)))) 3 (and_right (leb 1 (suc (suc (suc (suc n))))) _ e) in
    absurd (omega arith)
