-- A copy of a lent table as the library's copy leaves it, and records written into it.
use Prim.Native.Nat.{ℕ, zero, suc, ◌+◌, ◌≤◌, min}
use Rattle.std.specs.Prelude.{◌≡◌, length, take, drop, replicate, List, [], ◌∷◌, ◌++◌}
use Rattle.std.proofs.Math.Path.{refl, ap}
use Rattle.std.proofs.Common.{◌∙◌, arith, length-take}
use Rattle.std.proofs.lemmas.List.{drop-replicate}
use Rattle.rules.specs.declared.Loan.{Loan}
use Rattle.state.specs.Stored.{zero_loan}
use Rattle.tables.proofs.Turns.{front}
use Rattle.loans.specs.Lent.{no_loans, copied, written}

-- ---- a copy
-- as many records as fit, and zero past them
pub copied_front : (l : List Loan) (n : ℕ) → n ≡ min (length l) 128 → take n l ++ drop n no_loans ≡ copied 128 l
unfolding no_loans copied
copied_front l n e =
    let fits : n ≡ length (take 128 l) = omega (arith, e, length-take 128 l) in
    ap (λ (k : ℕ). take k l ++ drop k (replicate 128 zero_loan)) fits
    ∙ ap (λ (t : List Loan). t ++ drop (length (take 128 l)) (replicate 128 zero_loan)) (front 128 l)
    ∙ ap (λ (r : List Loan). take 128 l ++ r) (drop-replicate (length (take 128 l)) 128 zero_loan)

-- ---- records written into a list
module _ {A : Type 0} where
  -- none, where the first is past the end of the records to write or of either list
  pub none_written : (from to : ℕ) (new old : List A) → min (min to (length new)) (length old) ≤ from
      → written from to new old ≡ old
  unfolding written
  none_written from to new [] h = refl
  none_written from to [] (y ∷ old) h = refl
  none_written from zero (x ∷ new) (y ∷ old) h = refl
  none_written zero (suc to) (x ∷ new) (y ∷ old) h = absurd (omega (arith, h))
  none_written (suc from) (suc to) (x ∷ new) (y ∷ old) h =
      ap (λ (r : List A). y ∷ r) (none_written from to new old (omega (arith, h)))

  pub nothing_written : (from to : ℕ) (new old : List A) → to ≤ from → written from to new old ≡ old
  nothing_written from to new old h = none_written from to new old (omega arith)

  -- what stands before them, the k records, and what stands past them
  pub middle_written : (from k to : ℕ) (new old : List A) → from + k ≡ min (min to (length new)) (length old)
      → take from old ++ (take k (drop from new) ++ drop k (drop from old)) ≡ written from to new old
  unfolding written
  middle_written zero zero to new [] e = refl
  middle_written zero (suc k) to new [] e = absurd (omega (arith, e))
  middle_written (suc from) k to new [] e = absurd (omega (arith, e))
  middle_written zero zero to [] (y ∷ old) e = refl
  middle_written zero (suc k) to [] (y ∷ old) e = absurd (omega (arith, e))
  middle_written (suc from) k to [] (y ∷ old) e = absurd (omega (arith, e))
  middle_written zero zero zero (x ∷ new) (y ∷ old) e = refl
  middle_written zero (suc k) zero (x ∷ new) (y ∷ old) e = absurd (omega (arith, e))
  middle_written (suc from) k zero (x ∷ new) (y ∷ old) e = absurd (omega (arith, e))
  middle_written zero zero (suc to) (x ∷ new) (y ∷ old) e = absurd (omega (arith, e))
  middle_written zero (suc k) (suc to) (x ∷ new) (y ∷ old) e =
      ap (λ (r : List A). x ∷ r) (middle_written zero k to new old (omega (arith, e)))
  middle_written (suc from) k (suc to) (x ∷ new) (y ∷ old) e =
      ap (λ (r : List A). y ∷ r) (middle_written from k to new old (omega (arith, e)))
