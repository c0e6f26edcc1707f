-- What an app's manifest would have, from the tables; and the tests of a valid state as the code makes them, all tests
-- of an entry together. Document 01, "A valid state".
use Rattle.std.specs.Prelude.{ℕ, zero, suc, Bool, false, not, ◌&&◌, ◌||◌, List, [], ◌∷◌, map, eqb, leb}
use Rattle.std.specs.Prelude.{ltb, get_or}
use Rattle.manifest.specs.declared.Define.{Define}
use Rattle.manifest.specs.declared.Component.{Component}
use Rattle.manifest.specs.declared.Resource.{Resource}
use Rattle.manifest.specs.Layout.{Manifest}
use Rattle.manifest.specs.Good.{good, good_uses, good_defines, good_components, resource_key, is_provider}
use Rattle.rules.specs.declared.Definition.{Definition}
use Rattle.rules.specs.declared.Part.{Part}
use Rattle.rules.specs.declared.Instance.{Instance}
use Rattle.rules.specs.declared.Loan.{Loan}
use Rattle.rules.specs.Lists.{any, all, keep, mem, distinct, or_else, test}
use Rattle.rules.specs.Action.{is_operations}
use Rattle.rules.specs.View.{App}
use Rattle.rules.specs.Permissions.{known, dangerous}
use Rattle.rules.specs.Refusals.{grantable, is_group}
use Rattle.state.specs.Tables.{Row, State, app_number, part_at, owned_by, is_resource}
use Rattle.state.specs.Valid.{is_installed, is_sharing_provider, same_app, same_part, same_resource, same_permission}
use Rattle.state.specs.Valid.{same_instance, same_loan}
use Rattle.state.specs.Stored.{zero_part, is_zero_app, is_zero_definition, is_zero_part, is_zero_resource}
use Rattle.state.specs.Stored.{is_zero_instance, app_pads, pads, mask_of}
use Rattle.state.specs.declared.Device.{Device}
use Rattle.tables.specs.Held.{apps_in, rows_in, definitions_in, parts_in, resources_in, instances_in}
use Rattle.tables.specs.Looking.{view_by}
use Rattle.device.specs.declared.Provided.{Provided}
use Rattle.device.specs.Rising.{few_rising}

-- ---- what an app's manifest would have
abbrev pub defines_of : ℕ → List Definition → List Define
defines_of b ds = map (λ d. d.define) (keep (λ d. eqb d.app b) ds)

abbrev pub components_of : ℕ → List Part → List Component
components_of b ks = map (λ k. k.component) (keep (λ k. eqb k.app b) ks)

abbrev pub resources_of : ℕ → List Part → List Resource → List Resource
resources_of b ks rs = keep (λ r. owned_by ks b r.provider) rs

abbrev pub manifest_in : List Definition → List Part → List Resource → App → Manifest
manifest_in ds ks rs a =
    record {
      app = a.number;
      signer = a.signer;
      uses = a.uses;
      defines = defines_of a.number ds;
      components = components_of a.number ks;
      resources = resources_of a.number ks rs;
    }

-- a listed, defined, dangerous permission
abbrev pub good_grant_in : List Row → List Definition → App → ℕ → Bool
good_grant_in rs ds a p = test (known (view_by rs ds [] []) p) (λ k. grantable a p k)

-- the same by a list that says of each permission, 0 to 63, if it is defined and dangerous
abbrev pub is_dangerous : List Row → List Definition → ℕ → Bool
is_dangerous rs ds p = test (known (view_by rs ds [] []) p) dangerous

-- the n numbers from k on
unfoldable pub numbers_from : (k n : ℕ) → List ℕ
numbers_from k zero = []
numbers_from k (suc n) = k ∷ numbers_from (suc k) n

abbrev pub dangerous_in : List Row → List Definition → List Bool
dangerous_in rs ds = map (is_dangerous rs ds) (numbers_from 0 64)

abbrev pub good_grant_by : List Bool → App → ℕ → Bool
good_grant_by ts a p = mem p a.uses && get_or ts p false

-- the component of a number, with its app; all zero where there is none
abbrev pub part_or : List Part → ℕ → Part
part_or ks c = or_else zero_part (part_at ks c)

-- a resource with the component of its provider's number
abbrev pub with_provider : List Part → Resource → Provided
with_provider ks r = record { provider = part_or ks r.provider; resource = r }

abbrev pub good_provided : ℕ → List Provided → Bool
good_provided b ps =
    few_rising (λ p. eqb p.provider.app b) (λ p. resource_key p.resource)
    (λ p. ltb 0 p.resource.uri && is_provider p.provider.component) 32 0 ps

-- ---- all tests of an instance, and of a loan but that it is the only one
abbrev pub good_instance : List Part → Instance → Bool
good_instance ks i =
    (leb 1 i.number && leb i.number 64) && test (part_at ks i.component) (λ k. not (is_provider k.component))

abbrev pub live_in : List Row → List Instance → Loan → Bool
live_in rs is x =
    (eqb x.kind 1 && any (λ i. eqb i.number x.receiver) is)
    || (eqb x.kind 2 && is_installed rs x.receiver)

abbrev pub good_loan : List Row → List Part → List Resource → List Instance → Loan → Bool
good_loan rs ks us is x =
    is_operations x.operations
    && (live_in rs is x
    && (any (is_resource x.provider x.uri) us && test (part_at ks x.provider) is_sharing_provider))

-- ---- all tests of an app but that its number is its own
abbrev pub good_row : List Row → List Definition → List Part → List Resource → Row → Bool
good_row rs ds ks us r =
    good (manifest_in ds ks us r.app)
    && (all (good_grant_in rs ds r.app) r.grants
    && (all is_group r.groups && (distinct eqb r.grants && distinct eqb r.groups)))

-- ---- the tests in the order of the code
abbrev pub good_numbers : List Row → List Part → List Resource → Bool
good_numbers rs ks us =
    distinct same_app rs
    && (all (λ r. ltb 0 (app_number r)) rs
    && (distinct same_part ks && (all (λ k. ltb 0 k.component.number) ks && distinct same_resource us)))

abbrev pub good_owners : List Row → List Definition → List Part → List Resource → Bool
good_owners rs ds ks us =
    all (λ k. is_installed rs k.app) ks
    && (all (λ r. any (λ k. eqb k.component.number r.provider) ks) us
    && all (λ d. is_installed rs d.app) ds)

abbrev pub good_runs : List Part → List Instance → Bool
good_runs ks is = distinct same_instance is && all (good_instance ks) is

abbrev pub good_lending : List Row → List Part → List Resource → List Instance → List Loan → Bool
good_lending rs ks us is ls = all (good_loan rs ks us is) ls && distinct same_loan ls

abbrev pub good_lists : State → Bool
good_lists s =
    good_numbers s.rows s.parts s.resources
    && (good_owners s.rows s.definitions s.parts s.resources
    && (distinct same_permission s.definitions
    && (all (good_row s.rows s.definitions s.parts s.resources) s.rows
    && (good_runs s.parts s.instances
    && good_lending s.rows s.parts s.resources s.instances s.loans))))

-- ---- the same by what the code looks up once: the resources with their providers, and the dangerous permissions
abbrev pub good_manifest_by : List Definition → List Part → List Provided → App → Bool
good_manifest_by ds ks ps a =
    ltb 0 a.number
    && (ltb 0 a.signer
    && (good_uses a.uses
    && (good_defines (defines_of a.number ds)
    && (good_components (components_of a.number ks) && good_provided a.number ps))))

abbrev pub good_row_by : List Definition → List Part → List Provided → List Bool → Row → Bool
good_row_by ds ks ps ts r =
    good_manifest_by ds ks ps r.app
    && (all (good_grant_by ts r.app) r.grants
    && (all is_group r.groups && (distinct eqb r.grants && distinct eqb r.groups)))

abbrev pub good_rows_by : List Row → List Definition → List Part → List Resource → Bool
good_rows_by rs ds ks us = all (good_row_by ds ks (map (with_provider ks) us) (dangerous_in rs ds)) rs

abbrev pub good_lists_by : Device → List Loan → Bool
good_lists_by d ls =
    let rs = rows_in d.apps in
    let ds = definitions_in d.definitions in
    let ks = parts_in d.parts in
    let us = resources_in d.resources in
    let is = instances_in d.instances in
    good_numbers rs ks us
    && (good_owners rs ds ks us
    && (distinct same_permission ds
    && (good_rows_by rs ds ks us && (good_runs ks is && good_lending rs ks us is ls))))

-- ---- the padding of the tables in the device
abbrev pub formed_tables : Device → Bool
formed_tables d =
    pads is_zero_app 16 d.apps.entries d.apps.count
    && (all app_pads (apps_in d.apps)
    && (pads is_zero_definition 256 d.definitions.entries d.definitions.count
    && (pads is_zero_part 64 d.parts.entries d.parts.count
    && (pads is_zero_resource 128 d.resources.entries d.resources.count
    && (pads is_zero_instance 64 d.instances.list.entries d.instances.list.count
    && eqb d.instances.running (mask_of (instances_in d.instances)))))))
