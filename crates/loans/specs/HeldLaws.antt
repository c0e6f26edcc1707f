-- A loan made anew from an answer for each operation, and what the lends and endings are among the effects of actions.
use Rattle.std.specs.Prelude.{ℕ, ◌≡◌, Bool, true, false, List, map}
use Rattle.rules.specs.declared.Loan.{Loan}
use Rattle.rules.specs.Lists.{any}
use Rattle.rules.specs.Action.{Receiver, Op, reading, writing, operations_of}
use Rattle.state.specs.Tables.{is_loan}
use Rattle.state.specs.Effects.{loan_of, with_operations, kept, widened}
use Rattle.loans.specs.Held.{by_op, appended, lend_in}

-- ---- one loan: only the answers for the two operations count
pub with-by : (x : Loan) (f : Op → Bool) {p q : Bool} → p ≡ f reading → q ≡ f writing
    → with_operations (by_op p q) x ≡ with_operations f x
unfolding with_operations operations_of
with-by x f e g = rw (e, g)

pub kept_by : (x : Loan) (keeps : Loan → Op → Bool) {p q : Bool} → p ≡ keeps x reading → q ≡ keeps x writing
    → kept (λ y op. by_op p q op) x ≡ kept keeps x
unfolding kept with_operations operations_of
kept_by x keeps e g = rw (e, g)

-- ---- a lend
module _ (r : Receiver) (p u o : ℕ) (l : List Loan) where
  pub lend-widens : any (is_loan r p u) l ≡ true → map (widened r p u o) l ≡ lend_in r p u o l
  unfolding lend_in
  lend-widens e = rw e

  pub lend-adds : any (is_loan r p u) l ≡ false → appended (loan_of r p u o) l ≡ lend_in r p u o l
  unfolding lend_in
  lend-adds e = rw e
