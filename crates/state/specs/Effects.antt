-- What an accepted action makes of each table, and that a refusal changes nothing.
-- Document 01, "Conditions and effects".
use Rattle.std.specs.Prelude.{ℕ, Bool, not, ◌&&◌, ◌||◌, cond, List, [], ◌∷◌, ◌++◌, map, eqb, Ok, Err}
use Rattle.manifest.specs.declared.Resource.{Resource}
use Rattle.rules.specs.declared.Definition.{Definition}
use Rattle.rules.specs.declared.Part.{Part}
use Rattle.rules.specs.declared.Instance.{Instance}
use Rattle.rules.specs.declared.Loan.{Loan}
use Rattle.rules.specs.Lists.{any, keep}
use Rattle.rules.specs.Limits.{Limits}
use Rattle.rules.specs.Action.{Receiver, an_instance, an_app, receiver_kind, receiver_number, Op, reading, writing}
use Rattle.rules.specs.Action.{carries}
use Rattle.rules.specs.Action.{operations_of, install, uninstall, grant, revoke, grant_group, revoke_group, start, stop}
use Rattle.rules.specs.Action.{lend, withdraw, Action, on_apps, on_grants, on_runs, write, on_loans, query}
use Rattle.rules.specs.View.{app_of, part_of, definition_of}
use Rattle.rules.specs.Answer.{Answer, answer}
use Rattle.state.specs.Tables.{Row, State, fresh, app_number, owned_by, defined_by, is_resource, is_to, is_on, is_loan}
use Rattle.state.specs.Tables.{view_of}

-- ---- apps and their grants
-- one app's list changed
unfoldable pub grants_at : ℕ → (List ℕ → List ℕ) → Row → Row
grants_at b f r =
    record { app = r.app; grants = cond (eqb (app_number r) b) (f r.grants) r.grants; groups = r.groups }

unfoldable pub groups_at : ℕ → (List ℕ → List ℕ) → Row → Row
groups_at b f r =
    record { app = r.app; grants = r.grants; groups = cond (eqb (app_number r) b) (f r.groups) r.groups }

-- the individual grants of some permissions kept
unfoldable pub keep_grants : (ℕ → Bool) → Row → Row
keep_grants f r = record { app = r.app; grants = keep f r.grants; groups = r.groups }

abbrev pub added : ℕ → List ℕ → List ℕ
added n l = l ++ (n ∷ [])

abbrev pub taken : ℕ → List ℕ → List ℕ
taken n l = keep (λ m. not (eqb m n)) l

unfoldable pub apps_after : List Definition → List Row → Action → List Row
apps_after ds rs (on_apps (install i m)) = rs ++ (record { app = app_of i m; grants = []; groups = [] } ∷ [])
apps_after ds rs (on_apps (uninstall b)) =
    map (keep_grants (λ p. not (defined_by ds b p))) (keep (λ r. not (eqb (app_number r) b)) rs)
apps_after ds rs (on_grants (grant b p)) = map (grants_at b (added p)) rs
apps_after ds rs (on_grants (revoke b p)) = map (grants_at b (taken p)) rs
apps_after ds rs (on_grants (grant_group b g)) = map (groups_at b (added g)) rs
apps_after ds rs (on_grants (revoke_group b g)) = map (groups_at b (taken g)) rs
apps_after ds rs (on_runs z) = rs
apps_after ds rs (write p n u x) = rs
apps_after ds rs (on_loans z) = rs
apps_after ds rs (query z) = rs

-- ---- definitions
unfoldable pub definitions_after : List Definition → Action → List Definition
definitions_after ds (on_apps (install i m)) = ds ++ map (definition_of m) m.defines
definitions_after ds (on_apps (uninstall b)) = keep (λ d. not (eqb d.app b)) ds
definitions_after ds (on_grants z) = ds
definitions_after ds (on_runs z) = ds
definitions_after ds (write p n u x) = ds
definitions_after ds (on_loans z) = ds
definitions_after ds (query z) = ds

-- ---- components
unfoldable pub parts_after : List Part → Action → List Part
parts_after ks (on_apps (install i m)) = ks ++ map (part_of m) m.components
parts_after ks (on_apps (uninstall b)) = keep (λ k. not (eqb k.app b)) ks
parts_after ks (on_grants z) = ks
parts_after ks (on_runs z) = ks
parts_after ks (write p n u x) = ks
parts_after ks (on_loans z) = ks
parts_after ks (query z) = ks

-- ---- resources: a written value stands in the one resource
unfoldable pub put : (provider uri value : ℕ) → Resource → Resource
put p u x r = record { provider = r.provider; uri = r.uri; value = cond (is_resource p u r) x r.value }

unfoldable pub resources_after : List Part → List Resource → Action → List Resource
resources_after ks rs (on_apps (install i m)) = rs ++ m.resources
resources_after ks rs (on_apps (uninstall b)) = keep (λ r. not (owned_by ks b r.provider)) rs
resources_after ks rs (on_grants z) = rs
resources_after ks rs (on_runs z) = rs
resources_after ks rs (write p n u x) = map (put p u x) rs
resources_after ks rs (on_loans z) = rs
resources_after ks rs (query z) = rs

-- ---- instances: a start's value is the new number
unfoldable pub instances_after : List Instance → Action → ℕ → List Instance
instances_after is (on_apps z) v = is
instances_after is (on_grants z) v = is
instances_after is (on_runs (start c n)) v = is ++ (record { number = v; component = c } ∷ [])
instances_after is (on_runs (stop n)) v = keep (λ i. not (eqb i.number n)) is
instances_after is (write p n u x) v = is
instances_after is (on_loans z) v = is
instances_after is (query z) v = is

-- ---- loans
unfoldable pub loan_of : Receiver → (provider uri operations : ℕ) → Loan
loan_of r p u o =
    record {
      kind = receiver_kind r;
      receiver = receiver_number r;
      provider = p;
      uri = u;
      operations = o;
    }

unfoldable pub with_operations : (Op → Bool) → Loan → Loan
with_operations f x =
    record {
      kind = x.kind;
      receiver = x.receiver;
      provider = x.provider;
      uri = x.uri;
      operations = operations_of f;
    }

-- every ending of loans: each keeps the operations that it is to keep, and one left with none goes
unfoldable pub kept : (Loan → Op → Bool) → Loan → Loan
kept keeps x = with_operations (λ op. carries op x.operations && keeps x op) x

unfoldable pub carries_any : Loan → Bool
carries_any x = carries reading x.operations || carries writing x.operations

unfoldable pub reduce : (Loan → Op → Bool) → List Loan → List Loan
reduce keeps ls = keep carries_any (map (kept keeps) ls)

-- a loan to the same receiver on the same resource carries also the operations now lent
unfoldable pub widened : Receiver → (provider uri operations : ℕ) → Loan → Loan
widened r p u o x = with_operations (λ op. carries op x.operations || (is_loan r p u x && carries op o)) x

-- with an app end the loans on its resources and the loans to it
unfoldable pub ends_with : List Part → ℕ → Loan → Bool
ends_with ks b x = owned_by ks b x.provider || is_to (an_app b) x

unfoldable pub loans_after : List Part → List Loan → Action → List Loan
loans_after ks ls (on_apps (install i m)) = ls
loans_after ks ls (on_apps (uninstall b)) = reduce (λ x op. not (ends_with ks b x)) ls
loans_after ks ls (on_grants z) = ls
loans_after ks ls (on_runs (start c n)) = ls
loans_after ks ls (on_runs (stop n)) = reduce (λ x op. not (is_to (an_instance n) x)) ls
loans_after ks ls (write p n u x) = ls
loans_after ks ls (on_loans (lend o p n u r)) =
    cond (any (is_loan r p u) ls) (map (widened r p u o) ls) (ls ++ (loan_of r p u o ∷ []))
loans_after ks ls (on_loans (withdraw o p n u)) = reduce (λ x op. not (is_on p u x && carries op o)) ls
loans_after ks ls (query z) = ls

-- ---- the state
-- what follows by itself after each accepted action: nothing
abbrev pub settle : State → State
settle s = s

-- after an accepted action whose value is v
unfoldable pub next : State → Action → ℕ → State
next s x v =
    settle (record {
      rows = apps_after s.definitions s.rows x;
      definitions = definitions_after s.definitions x;
      parts = parts_after s.parts x;
      resources = resources_after s.parts s.resources x;
      instances = instances_after s.instances x v;
      loans = loans_after s.parts s.loans x;
    })

-- a refusal leaves all unchanged
unfoldable pub after : State → Action → Answer → State
after s x (Err n) = s
after s x (Ok d) = next s x d.value

-- a fresh device after a sequence of actions, newest first
unfoldable pub device : Limits → List Action → State
device L [] = fresh
device L (x ∷ xs) = after (device L xs) x (answer L (view_of (device L xs)) x)
