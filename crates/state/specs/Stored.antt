-- How the device's arrays and the lent table hold the lists: document 01, "Conditions and effects" ("Places past the
-- end are zero") and "A valid state" ("unused places are zero, the lent table has 128 records").
use Rattle.std.specs.Prelude.{ℕ, zero, suc, ◌+◌, ◌*◌, Bool, false, not, ◌&&◌, List, map, length, take, drop}
use Rattle.std.specs.Prelude.{[], eqb, leb}
pub use Rattle.state.specs.Listed.{padded}
use Rattle.state.specs.Listed.{table_of, list_in}
pub use Rattle.manifest.specs.Verdict.{zero_define, zero_component, zero_resource}
use Rattle.manifest.specs.declared.Component.{Component}
use Rattle.manifest.specs.declared.Resource.{Resource}
use Rattle.rules.specs.declared.Definition.{Definition}
use Rattle.rules.specs.declared.Part.{Part}
use Rattle.rules.specs.declared.Instance.{Instance}
use Rattle.rules.specs.declared.Loan.{Loan}
use Rattle.rules.specs.Lists.{any, all}
use Rattle.rules.specs.Limits.{large}
use Rattle.rules.specs.Action.{bit}
use Rattle.state.specs.declared.App.{App}
use Rattle.state.specs.declared.Device.{Device}
use Rattle.state.specs.Tables.{Row, State}
use Rattle.state.specs.Valid.{valid}

-- ---- zero entries
abbrev pub zero_definition : Definition
zero_definition = record { app = 0; define = zero_define }

abbrev pub zero_part : Part
zero_part = record { app = 0; component = zero_component }

abbrev pub zero_instance : Instance
zero_instance = record { number = 0; component = 0 }

abbrev pub zero_loan : Loan
zero_loan =
    record {
      kind = 0;
      receiver = 0;
      provider = 0;
      uri = 0;
      operations = 0;
    }

abbrev pub zero_app : App
zero_app =
    record {
      number = 0;
      signer = 0;
      image = false;
      uses = table_of 0 32 [];
      grants = table_of 0 32 [];
      groups = table_of 0 15 [];
    }

-- ---- the running numbers as one number: the digit of place n - 1, from the lowest, says that instance n runs
abbrev pub runs : List Instance → ℕ → Bool
runs is n = any (λ i. eqb i.number n) is

-- the number of k digits that f gives, the lowest first, from place n on
unfoldable pub digits_of : (ℕ → Bool) → ℕ → ℕ → ℕ
digits_of f n zero = 0
digits_of f n (suc k) = bit (f n) + 2 * digits_of f (suc n) k

unfoldable pub mask_of : List Instance → ℕ
mask_of is = digits_of (runs is) 1 64

-- ---- the lists that the tables hold
abbrev pub row_of : App → Row
row_of a =
    record {
      app =
          record {
            number = a.number;
            signer = a.signer;
            image = a.image;
            uses = list_in a.uses;
          };
      grants = list_in a.grants;
      groups = list_in a.groups;
    }

unfoldable pub model_of : Device → List Loan → State
model_of d lent =
    record {
      rows = map row_of (list_in d.apps);
      definitions = list_in d.definitions;
      parts = list_in d.parts;
      resources = list_in d.resources;
      instances = list_in d.instances.list;
      loans = take d.lent lent;
    }

-- ---- the tables that hold the lists
abbrev pub app_from : Row → App
app_from r =
    record {
      number = r.app.number;
      signer = r.app.signer;
      image = r.app.image;
      uses = table_of 0 32 r.app.uses;
      grants = table_of 0 32 r.grants;
      groups = table_of 0 15 r.groups;
    }

unfoldable pub device_of : State → Device
device_of s =
    record {
      apps = record { entries = padded zero_app 16 (map app_from s.rows); count = length s.rows };
      definitions = table_of zero_definition 256 s.definitions;
      parts = table_of zero_part 64 s.parts;
      resources = table_of zero_resource 128 s.resources;
      instances =
          record {
            list = table_of zero_instance 64 s.instances;
            running = mask_of s.instances;
          };
      lent = length s.loans;
    }

-- the lent table of n records
abbrev pub lent_of : ℕ → State → List Loan
lent_of n s = padded zero_loan n s.loans

-- ---- the padding as tests
abbrev pub is_zero : ℕ → Bool
is_zero n = eqb n 0

abbrev pub is_zero_definition : Definition → Bool
is_zero_definition d =
    is_zero d.app && (is_zero d.define.permission && (is_zero d.define.level && is_zero d.define.group))

abbrev pub is_zero_component : Component → Bool
is_zero_component c =
    ((is_zero c.number && is_zero c.kind) && (is_zero c.exported && is_zero c.shares))
    && (is_zero c.start && (is_zero c.read && is_zero c.write))

abbrev pub is_zero_part : Part → Bool
is_zero_part k = is_zero k.app && is_zero_component k.component

abbrev pub is_zero_resource : Resource → Bool
is_zero_resource r = is_zero r.provider && (is_zero r.uri && is_zero r.value)

abbrev pub is_zero_instance : Instance → Bool
is_zero_instance i = is_zero i.number && is_zero i.component

abbrev pub is_zero_loan : Loan → Bool
is_zero_loan x =
    (is_zero x.kind && is_zero x.receiver)
    && (is_zero x.provider && (is_zero x.uri && is_zero x.operations))

-- the count is not past the array of n places, and all is zero past the count
abbrev pub pads : {A : Type 0} → (A → Bool) → ℕ → List A → ℕ → Bool
pads is_empty n entries count = leb count n && all is_empty (drop count entries)

-- an app's three lists
abbrev pub app_pads : App → Bool
app_pads a =
    pads is_zero 32 a.uses.entries a.uses.count
    && (pads is_zero 32 a.grants.entries a.grants.count && pads is_zero 15 a.groups.entries a.groups.count)

abbrev pub is_zero_app : App → Bool
is_zero_app a =
    ((is_zero a.number && is_zero a.signer) && (not a.image && is_zero a.uses.count))
    && ((is_zero a.grants.count && is_zero a.groups.count) && app_pads a)

-- no count is past its array, unused places are zero, and the running numbers are those of the list
unfoldable pub formed : Device → List Loan → Bool
formed d lent =
    (pads is_zero_app 16 d.apps.entries d.apps.count
    && all app_pads (take d.apps.count d.apps.entries))
    && (pads is_zero_definition 256 d.definitions.entries d.definitions.count
    && (pads is_zero_part 64 d.parts.entries d.parts.count
    && (pads is_zero_resource 128 d.resources.entries d.resources.count
    && ((pads is_zero_instance 64 d.instances.list.entries d.instances.list.count
    && eqb d.instances.running (mask_of (take d.instances.list.count d.instances.list.entries)))
    && pads is_zero_loan (length lent) lent d.lent))))

-- the lent table has 128 records, all is stored as it has to be, and the lists are valid
unfoldable pub valid_stored : Device → List Loan → Bool
valid_stored d lent = eqb (length lent) 128 && (formed d lent && valid large (model_of d lent))
