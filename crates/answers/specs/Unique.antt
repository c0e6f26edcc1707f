-- No two differing answers meet the contract of a public function: each contract is one equation for the whole answer.
-- Document 01, "What the contracts have to say".
use Rattle.std.specs.Prelude.{ℕ, ◌≡◌, Bool, List, []}
use Rattle.manifest.specs.Layout.{manifest_of}
use Rattle.manifest.specs.Unique.{only_one}
use Rattle.rules.specs.Answer.{Answer}
use Rattle.rules.specs.declared.Loan.{Loan}
use Rattle.rules.specs.Action.{install, uninstall, grant, revoke, grant_group, revoke_group, stop, lend, withdraw, read}
use Rattle.rules.specs.Action.{ask, write, Action, on_apps, on_grants, on_runs, on_loans, query}
use Rattle.state.specs.declared.Device.{Device}
use Rattle.tables.specs.declared.Receiver.{Receiver}
use Rattle.tables.specs.Looking.{receiver_of}
use Rattle.answers.specs.Answering.{view_in, answer_in}
use Rattle.answers.specs.Starting.{start_with, free_of}

-- the answer to an action is the only one that meets the contract
abbrev Only : Device → List Loan → Action → Type 0
Only d lent x = (r r' : Answer) → r ≡ answer_in d lent x → r' ≡ answer_in d lent x → r ≡ r'

only : (d : Device) (lent : List Loan) (x : Action) → Only d lent x
only d lent x = only_one (answer_in d lent x)

pub install-only : (d : Device) (image : Bool) (s : List ℕ) → Only d [] (on_apps (install image (manifest_of s)))
install-only d image s = only d [] (on_apps (install image (manifest_of s)))

pub uninstall-only : (d : Device) (b : ℕ) → Only d [] (on_apps (uninstall b))
uninstall-only d b = only d [] (on_apps (uninstall b))

pub grant-only : (d : Device) (b p : ℕ) → Only d [] (on_grants (grant b p))
grant-only d b p = only d [] (on_grants (grant b p))

pub revoke-only : (d : Device) (b p : ℕ) → Only d [] (on_grants (revoke b p))
revoke-only d b p = only d [] (on_grants (revoke b p))

pub grant-group-only : (d : Device) (b g : ℕ) → Only d [] (on_grants (grant_group b g))
grant-group-only d b g = only d [] (on_grants (grant_group b g))

pub revoke-group-only : (d : Device) (b g : ℕ) → Only d [] (on_grants (revoke_group b g))
revoke-group-only d b g = only d [] (on_grants (revoke_group b g))

pub start-only : (d : Device) (c n : ℕ) (r r' : Answer)
    → r ≡ start_with (free_of d.instances.running) (view_in d []) c n
    → r' ≡ start_with (free_of d.instances.running) (view_in d []) c n → r ≡ r'
start-only d c n = only_one (start_with (free_of d.instances.running) (view_in d []) c n)

pub stop-only : (d : Device) (n : ℕ) → Only d [] (on_runs (stop n))
stop-only d n = only d [] (on_runs (stop n))

pub read_only : (d : Device) (lent : List Loan) (p n u : ℕ) → Only d lent (query (read p n u))
read_only d lent p n u = only d lent (query (read p n u))

pub write-only : (d : Device) (lent : List Loan) (p n u x : ℕ) → Only d lent (write p n u x)
write-only d lent p n u x = only d lent (write p n u x)

pub lend-only : (d : Device) (lent : List Loan) (o p n u : ℕ) (r : Receiver ℕ)
    → Only d lent (on_loans (lend o p n u (receiver_of r)))
lend-only d lent o p n u r = only d lent (on_loans (lend o p n u (receiver_of r)))

pub withdraw-only : (d : Device) (o p n u : ℕ) → Only d [] (on_loans (withdraw o p n u))
withdraw-only d o p n u = only d [] (on_loans (withdraw o p n u))

pub ask-only : (d : Device) (b p : ℕ) → Only d [] (query (ask b p))
ask-only d b p = only d [] (query (ask b p))
