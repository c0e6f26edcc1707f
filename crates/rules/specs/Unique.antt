-- No two differing results meet the contract of a public function: each contract is one equation for the whole result.
-- Document 01, "What the contracts have to say".
use Rattle.std.specs.Prelude.{ℕ, ◌≡◌, Bool}
use Rattle.manifest.specs.Unique.{only_one}
use Rattle.rules.specs.declared.Ground.{Ground}
use Rattle.rules.specs.declared.Hold.{Hold}
use Rattle.rules.specs.declared.Reason.{Reason}
use Rattle.rules.specs.Answer.{number_of, ground_number}
use Rattle.rules.specs.Permissions.{is_held}

pub number-only : (reason : Reason) (r r' : ℕ) → r ≡ number_of reason → r' ≡ number_of reason → r ≡ r'
number-only reason = only_one (number_of reason)

pub ground-number-only : (ground : Ground) (r r' : ℕ) → r ≡ ground_number ground → r' ≡ ground_number ground → r ≡ r'
ground-number-only ground = only_one (ground_number ground)

pub held-only : (hold : Hold) (r r' : Bool) → r ≡ is_held hold → r' ≡ is_held hold → r ≡ r'
held-only hold = only_one (is_held hold)
