-- No two differing results meet the contract of a public function: each contract is one equation for the whole result.
-- Document 01, "What the contracts have to say".
use Rattle.std.specs.Prelude.{ℕ, ◌≡◌, List, []}
use Rattle.manifest.specs.Unique.{only_one}
use Rattle.state.specs.declared.Table.{Table}
use Rattle.state.specs.Listed.{table_of, list_in, appended}

module _ {A : Type 0} {room : ℕ} where
  pub empty-only : (zero : A) (r r' : Table A room) → r ≡ table_of zero room [] → r' ≡ table_of zero room [] → r ≡ r'
  empty-only zero = only_one (table_of zero room [])

  pub held-only : (t : Table A room) (r r' : List A) → r ≡ list_in t → r' ≡ list_in t → r ≡ r'
  held-only t = only_one (list_in t)

  pub push-only : (t : Table A room) (x : A) (r r' : Table A room) → r ≡ appended room t x → r' ≡ appended room t x
      → r ≡ r'
  push-only t x = only_one (appended room t x)
