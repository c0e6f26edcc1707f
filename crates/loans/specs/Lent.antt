-- A lent table of loans: its copy by value, the records written back, and which those have to be.
-- Document 01, "What the monitor covers": the loan table is memory that the tablet lends to the monitor.
use Rattle.std.specs.Prelude.{ℕ, zero, suc, Bool, true, false, ◌&&◌, cond, List, [], ◌∷◌, length, take, replicate, eqb}
use Rattle.rules.specs.declared.Loan.{Loan}
use Rattle.state.specs.Stored.{padded, zero_loan}
use Rattle.loans.specs.declared.Lent.{Lent}
use Rattle.loans.specs.declared.Range.{Range}

-- a table with no loan in it
unfoldable pub no_loans : List Loan
no_loans = replicate 128 zero_loan

-- the table of the first n records, zero past them
unfoldable pub copied : ℕ → List Loan → List Loan
copied n l = padded zero_loan 128 (take n l)

abbrev pub lent_as : List Loan → ℕ → Lent
lent_as table n = record { table = table; length = n }

-- what is past 128 is left out, what is missing is zero; the true length stands beside it
unfoldable pub lent_from : List Loan → Lent
lent_from l = lent_as (copied 128 l) (length l)

-- the old list with the new one's records from `from` on, up to `to`, in place of its own
unfoldable pub written : {A : Type 0} → (from to : ℕ) → (new old : List A) → List A
written from to new [] = []
written from to [] (y ∷ old) = y ∷ old
written from zero (x ∷ new) (y ∷ old) = y ∷ old
written zero (suc to) (x ∷ new) (y ∷ old) = x ∷ written zero to new old
written (suc from) (suc to) (x ∷ new) (y ∷ old) = y ∷ written from to new old

-- all fields are the same
unfoldable pub is_same : Loan → Loan → Bool
is_same x y =
    (eqb x.kind y.kind && eqb x.receiver y.receiver)
    && (eqb x.provider y.provider && (eqb x.uri y.uri && eqb x.operations y.operations))

-- where two tables first differ, and one past where they last do; 128 and 0 where they do not
unfoldable pub first_change : List Loan → List Loan → ℕ
first_change [] m = 0
first_change (x ∷ l) [] = 0
first_change (x ∷ l) (y ∷ m) = cond (is_same x y) (suc (first_change l m)) 0

abbrev pub past : Bool → ℕ → ℕ
past true zero = 0
past true (suc n) = suc (suc n)
past false n = suc n

unfoldable pub after_change : List Loan → List Loan → ℕ
after_change [] m = 0
after_change (x ∷ l) [] = 0
after_change (x ∷ l) (y ∷ m) = past (is_same x y) (after_change l m)

unfoldable pub changed_in : (old new : List Loan) → Range
changed_in old new = record { from = first_change old new; to = after_change old new }
