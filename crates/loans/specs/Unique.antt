-- No two differing results meet the contract of a public function: each contract is one equation for the whole result,
-- or for the whole lent list at exit. Document 01, "What the contracts have to say".
use Rattle.std.specs.Prelude.{ℕ, ◌≡◌, Bool, List, map, Option}
use Rattle.manifest.specs.Unique.{only_one}
use Rattle.rules.specs.declared.Loan.{Loan}
use Rattle.rules.specs.declared.Part.{Part}
use Rattle.rules.specs.Lists.{any}
use Rattle.rules.specs.Action.{Receiver, Op}
use Rattle.state.specs.Tables.{is_loan, lent_in}
use Rattle.state.specs.Effects.{reduce, widened}
use Rattle.loans.specs.declared.Asked.{Asked}
use Rattle.loans.specs.declared.Lent.{Lent}
use Rattle.loans.specs.declared.Range.{Range}
use Rattle.loans.specs.Asked.{asked_of}
use Rattle.loans.specs.Held.{Loans, loans_in, loans_table, appended, lend_in}
use Rattle.loans.specs.Held.{keeps_stop, keeps_uninstall, keeps_withdraw}
use Rattle.loans.specs.Lent.{no_loans, lent_from, written, changed_in}

-- ---- action records
pub decode-only : (s : List ℕ) (r r' : Option Asked) → r ≡ asked_of s → r' ≡ asked_of s → r ≡ r'
decode-only s = only_one (asked_of s)

-- ---- loans by value
module _ (t : Loans) where
  pub lends-only : (j : Receiver) (p u : ℕ) (op : Op) (r r' : Bool) → r ≡ lent_in (loans_in t) j p u op
      → r' ≡ lent_in (loans_in t) j p u op → r ≡ r'
  lends-only j p u op = only_one (lent_in (loans_in t) j p u op)

  pub has-loan-only : (j : Receiver) (p u : ℕ) (r r' : Bool) → r ≡ any (is_loan j p u) (loans_in t)
      → r' ≡ any (is_loan j p u) (loans_in t) → r ≡ r'
  has-loan-only j p u = only_one (any (is_loan j p u) (loans_in t))

  pub lend-only : (j : Receiver) (p u o : ℕ) (r r' : Loans) → r ≡ loans_table (lend_in j p u o (loans_in t))
      → r' ≡ loans_table (lend_in j p u o (loans_in t)) → r ≡ r'
  lend-only j p u o = only_one (loans_table (lend_in j p u o (loans_in t)))

  pub widen-only : (j : Receiver) (p u o : ℕ) (r r' : Loans) → r ≡ loans_table (map (widened j p u o) (loans_in t))
      → r' ≡ loans_table (map (widened j p u o) (loans_in t)) → r ≡ r'
  widen-only j p u o = only_one (loans_table (map (widened j p u o) (loans_in t)))

  pub append-only : (x : Loan) (r r' : Loans) → r ≡ loans_table (appended x (loans_in t))
      → r' ≡ loans_table (appended x (loans_in t)) → r ≡ r'
  append-only x = only_one (loans_table (appended x (loans_in t)))

  pub reduce-stop-only : (n : ℕ) (r r' : Loans) → r ≡ loans_table (reduce (keeps_stop n) (loans_in t))
      → r' ≡ loans_table (reduce (keeps_stop n) (loans_in t)) → r ≡ r'
  reduce-stop-only n = only_one (loans_table (reduce (keeps_stop n) (loans_in t)))

  pub reduce-uninstall-only : (ks : List Part) (b : ℕ) (r r' : Loans)
      → r ≡ loans_table (reduce (keeps_uninstall ks b) (loans_in t))
      → r' ≡ loans_table (reduce (keeps_uninstall ks b) (loans_in t)) → r ≡ r'
  reduce-uninstall-only ks b = only_one (loans_table (reduce (keeps_uninstall ks b) (loans_in t)))

  pub reduce-withdraw-only : (p u o : ℕ) (r r' : Loans) → r ≡ loans_table (reduce (keeps_withdraw p u o) (loans_in t))
      → r' ≡ loans_table (reduce (keeps_withdraw p u o) (loans_in t)) → r ≡ r'
  reduce-withdraw-only p u o = only_one (loans_table (reduce (keeps_withdraw p u o) (loans_in t)))

pub no-loans-only : (r r' : List Loan) → r ≡ no_loans → r' ≡ no_loans → r ≡ r'
no-loans-only = only_one no_loans

-- ---- loans lent in place
pub copy-out-only : (l : List Loan) (r r' : Lent) → r ≡ lent_from l → r' ≡ lent_from l → r ≡ r'
copy-out-only l = only_one (lent_from l)

pub write-records-only : (l t : List Loan) (from to : ℕ) (r r' : List Loan) → r ≡ written from to t l
    → r' ≡ written from to t l → r ≡ r'
write-records-only l t from to = only_one (written from to t l)

pub changed-only : (old new : List Loan) (r r' : Range) → r ≡ changed_in old new → r' ≡ changed_in old new → r ≡ r'
changed-only old new = only_one (changed_in old new)
