-- What can be asked of the monitor, grouped by what it changes: document 01, "Action records".
use Rattle.std.specs.Prelude.{ℕ, ◌+◌, ◌*◌, Bool, true, false, ◌&&◌, ◌||◌, eqb, leb}
use Rattle.manifest.specs.Layout.{Manifest}

-- the two operations, and the number of those that an action or a loan has: 1 read, 2 write, 3 both
pub data Op : Type 0 where
  reading writing : Op

unfoldable pub carries : Op → ℕ → Bool
carries reading n = eqb n 1 || eqb n 3
carries writing n = eqb n 2 || eqb n 3

abbrev pub bit : Bool → ℕ
bit true = 1
bit false = 0

unfoldable pub operations_of : (Op → Bool) → ℕ
operations_of f = bit (f reading) + 2 * bit (f writing)

unfoldable pub is_operations : ℕ → Bool
is_operations n = leb 1 n && leb n 3

-- the receiver of a loan, its kind and its number; two are the same if both are
pub data Receiver : Type 0 where
  an_instance : ℕ → Receiver
  an_app : ℕ → Receiver

unfoldable pub receiver_kind : Receiver → ℕ
receiver_kind (an_instance n) = 1
receiver_kind (an_app n) = 2

unfoldable pub receiver_number : Receiver → ℕ
receiver_number (an_instance n) = n
receiver_number (an_app n) = n

unfoldable pub same_receiver : Receiver → Receiver → Bool
same_receiver j k = eqb (receiver_kind j) (receiver_kind k) && eqb (receiver_number j) (receiver_number k)

pub data AppAction : Type 0 where
  install : (image : Bool) (manifest : Manifest) → AppAction
  uninstall : (app : ℕ) → AppAction

pub data GrantAction : Type 0 where
  grant : (app permission : ℕ) → GrantAction
  revoke : (app permission : ℕ) → GrantAction
  grant_group : (app group : ℕ) → GrantAction
  revoke_group : (app group : ℕ) → GrantAction

-- caller 0 is the person at the screen
pub data RunAction : Type 0 where
  start : (component caller : ℕ) → RunAction
  stop : (instance : ℕ) → RunAction

pub data LoanAction : Type 0 where
  lend : (operations provider giver uri : ℕ) (receiver : Receiver) → LoanAction
  withdraw : (operations provider instance uri : ℕ) → LoanAction

-- what changes nothing; `malformed` is what refusal 2 answers
pub data Query : Type 0 where
  read : (provider instance uri : ℕ) → Query
  ask : (app permission : ℕ) → Query
  malformed : Query

pub data Action : Type 0 where
  on_apps : AppAction → Action
  on_grants : GrantAction → Action
  on_runs : RunAction → Action
  write : (provider instance uri value : ℕ) → Action
  on_loans : LoanAction → Action
  query : Query → Action
