-- The device's tables as lists in order of arrival, and what they answer to the questions of the rules.
-- Document 01, "Conditions and effects": the paragraph on tables.
use Rattle.std.specs.Prelude.{ℕ, Bool, ◌&&◌, List, [], map, length, eqb}
use Rattle.std.proofs.Math.Option.{Option}
use Rattle.manifest.specs.declared.Resource.{Resource}
use Rattle.rules.specs.declared.Definition.{Definition}
use Rattle.rules.specs.declared.Part.{Part}
use Rattle.rules.specs.declared.Instance.{Instance}
use Rattle.rules.specs.declared.Loan.{Loan}
use Rattle.rules.specs.declared.Known.{Known}
use Rattle.rules.specs.Lists.{any, find, mem, bind, map_option}
use Rattle.rules.specs.Action.{Receiver, receiver_kind, receiver_number, Op, carries}
use Rattle.rules.specs.View.{App, View}
use Rattle.rules.specs.Permissions.{known_by}

-- an app, with its own lists of individual grants and of granted groups
pub record Row : Type 0 where
  pub app : App
  pub grants : List ℕ
  pub groups : List ℕ

pub record State : Type 0 where
  pub rows : List Row
  pub definitions : List Definition
  pub parts : List Part
  pub resources : List Resource
  pub instances : List Instance
  pub loans : List Loan

-- no apps, no running instances, no loans
unfoldable pub fresh : State
fresh =
    record {
      rows = [];
      definitions = [];
      parts = [];
      resources = [];
      instances = [];
      loans = [];
    }

abbrev pub app_number : Row → ℕ
app_number r = r.app.number

abbrev pub apps_of : List Row → List App
apps_of rs = map (λ r. r.app) rs

-- ---- apps, components and definitions
unfoldable pub app_at : List App → ℕ → Option App
app_at apps n = find (λ a. eqb a.number n) apps

unfoldable pub part_at : List Part → ℕ → Option Part
part_at ks c = find (λ k. eqb k.component.number c) ks

-- app b owns the component c; app b defines the permission p
unfoldable pub owned_by : List Part → ℕ → ℕ → Bool
owned_by ks b c = any (λ k. eqb k.app b && eqb k.component.number c) ks

unfoldable pub defined_by : List Definition → ℕ → ℕ → Bool
defined_by ds b p = any (λ d. eqb d.app b && eqb d.define.permission p) ds

-- a definition, with the signer of its app
unfoldable pub known_from : List App → Definition → Option Known
known_from apps d = map_option (λ a. known_by a.number a.signer d.define) (app_at apps d.app)

-- the definition in force is the first to arrive
unfoldable pub defined_in : List App → List Definition → ℕ → Option Known
defined_in apps ds p = bind (find (λ d. eqb d.define.permission p) ds) (known_from apps)

-- ---- grants
unfoldable pub granted_in : List Row → ℕ → ℕ → Bool
granted_in rs b p = any (λ r. eqb (app_number r) b && mem p r.grants) rs

unfoldable pub grouped_in : List Row → ℕ → ℕ → Bool
grouped_in rs b g = any (λ r. eqb (app_number r) b && mem g r.groups) rs

-- ---- instances and resources
unfoldable pub run_in : List Instance → ℕ → Option ℕ
run_in is n = map_option (λ i. i.component) (find (λ i. eqb i.number n) is)

unfoldable pub is_resource : (provider uri : ℕ) → Resource → Bool
is_resource p u r = eqb r.provider p && eqb r.uri u

unfoldable pub value_in : List Resource → ℕ → ℕ → Option ℕ
value_in rs p u = map_option (λ r. r.value) (find (is_resource p u) rs)

-- ---- loans
unfoldable pub is_to : Receiver → Loan → Bool
is_to r x = eqb x.kind (receiver_kind r) && eqb x.receiver (receiver_number r)

unfoldable pub is_on : (provider uri : ℕ) → Loan → Bool
is_on p u x = eqb x.provider p && eqb x.uri u

unfoldable pub is_loan : Receiver → (provider uri : ℕ) → Loan → Bool
is_loan r p u x = is_to r x && is_on p u x

unfoldable pub lent_in : List Loan → Receiver → ℕ → ℕ → Op → Bool
lent_in ls r p u op = any (λ x. is_loan r p u x && carries op x.operations) ls

unfoldable pub view_of : State → View
view_of s =
    record {
      app = app_at (apps_of s.rows);
      part = part_at s.parts;
      defined = defined_in (apps_of s.rows) s.definitions;
      runs = run_in s.instances;
      granted = granted_in s.rows;
      grouped = grouped_in s.rows;
      lent = lent_in s.loans;
      value = value_in s.resources;
      apps = length s.rows;
      components = length s.parts;
      resources = length s.resources;
      running = length s.instances;
      loans = length s.loans;
    }
