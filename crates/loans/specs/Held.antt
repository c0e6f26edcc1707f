-- The list that a loan table holds, for every table: a count past the array holds the whole array. The table that
-- holds a list, zero past its end. And what a lend and each ending make of the list.
use Rattle.std.specs.Prelude.{ℕ, Bool, not, ◌&&◌, cond, List, [], ◌∷◌, ◌++◌, map, length, ltb}
use Rattle.rules.specs.declared.Loan.{Loan}
use Rattle.rules.specs.declared.Part.{Part}
use Rattle.rules.specs.Lists.{any}
use Rattle.rules.specs.Action.{Receiver, an_instance, Op, reading, writing, carries}
use Rattle.state.specs.declared.Table.{Table}
use Rattle.state.specs.Listed.{table_of, list_in}
use Rattle.state.specs.Stored.{zero_loan}
use Rattle.state.specs.Tables.{is_to, is_on, is_loan}
use Rattle.state.specs.Effects.{loan_of, widened, ends_with}

abbrev pub Loans : Type 0
Loans = Table Loan 128

abbrev pub loans_in : Loans → List Loan
loans_in t = list_in t

abbrev pub loans_table : List Loan → Loans
loans_table l = table_of zero_loan 128 l

-- an answer for each operation
abbrev pub by_op : (reads writes : Bool) → Op → Bool
by_op r w reading = r
by_op r w writing = w

-- one loan more, where there is room
unfoldable pub appended : Loan → List Loan → List Loan
appended x l = cond (ltb (length l) 128) (l ++ (x ∷ [])) l

-- a loan to the same receiver on the same resource is widened; otherwise a record is added, where there is room
unfoldable pub lend_in : Receiver → (provider uri operations : ℕ) → List Loan → List Loan
lend_in r p u o l = cond (any (is_loan r p u) l) (map (widened r p u o) l) (appended (loan_of r p u o) l)

-- what a loan keeps when an instance stops, when an app is uninstalled, and when operations are withdrawn
abbrev pub keeps_stop : ℕ → Loan → Op → Bool
keeps_stop n x op = not (is_to (an_instance n) x)

abbrev pub keeps_uninstall : List Part → ℕ → Loan → Op → Bool
keeps_uninstall ks b x op = not (ends_with ks b x)

abbrev pub keeps_withdraw : (provider uri operations : ℕ) → Loan → Op → Bool
keeps_withdraw p u o x op = not (is_on p u x && carries op o)
