-- No two differing results meet the contract of a public function: each contract is one equation for the whole result.
-- Document 01, "What the contracts have to say".
use Rattle.std.specs.Prelude.{◌≡◌, Bool, List}
use Rattle.manifest.specs.Unique.{only_one}
use Rattle.rules.specs.declared.Loan.{Loan}
use Rattle.state.specs.declared.Device.{Device}
use Rattle.state.specs.Stored.{valid_stored}

pub valid-only : (d : Device) (lent : List Loan) (r r' : Bool) → r ≡ valid_stored d lent → r' ≡ valid_stored d lent
    → r ≡ r'
valid-only d lent = only_one (valid_stored d lent)
