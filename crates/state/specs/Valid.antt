-- A valid state, as one list of tests: document 01, "A valid state".
-- That unused places are zero and the lent table has 128 records stands in Stored.
use Rattle.std.specs.Prelude.{ℕ, Bool, true, not, ◌&&◌, ◌||◌, List, [], ◌∷◌, map, length, eqb, leb, ltb}
use Rattle.manifest.specs.Layout.{Manifest}
use Rattle.manifest.specs.Good.{good, is_provider}
use Rattle.manifest.specs.declared.Resource.{Resource}
use Rattle.rules.specs.declared.Definition.{Definition}
use Rattle.rules.specs.declared.Part.{Part}
use Rattle.rules.specs.declared.Instance.{Instance}
use Rattle.rules.specs.declared.Loan.{Loan}
use Rattle.rules.specs.Lists.{any, all, keep, distinct, test}
use Rattle.rules.specs.Limits.{Limits}
use Rattle.rules.specs.Action.{is_operations}
use Rattle.rules.specs.View.{App}
use Rattle.rules.specs.Permissions.{known}
use Rattle.rules.specs.Grounds.{is_sharing}
use Rattle.rules.specs.Refusals.{grantable, is_group}
use Rattle.state.specs.Tables.{Row, State, app_number, part_at, owned_by, is_resource, view_of}

-- ---- what makes two entries the same
abbrev pub same_app : Row → Row → Bool
same_app r s = eqb (app_number r) (app_number s)

abbrev pub same_part : Part → Part → Bool
same_part k j = eqb k.component.number j.component.number

abbrev pub same_resource : Resource → Resource → Bool
same_resource r s = is_resource r.provider r.uri s

abbrev pub same_permission : Definition → Definition → Bool
same_permission d e = eqb d.define.permission e.define.permission

abbrev pub same_instance : Instance → Instance → Bool
same_instance i j = eqb i.number j.number

abbrev pub same_loan : Loan → Loan → Bool
same_loan x y =
    (eqb x.kind y.kind && eqb x.receiver y.receiver)
    && (eqb x.provider y.provider && eqb x.uri y.uri)

-- ---- what each entry has to be
abbrev pub is_installed : List Row → ℕ → Bool
is_installed rs b = any (λ r. eqb (app_number r) b) rs

-- an app's number, signer, uses, definitions, components and resources, in list order
unfoldable pub manifest_from : State → App → Manifest
manifest_from s a =
    record {
      app = a.number;
      signer = a.signer;
      uses = a.uses;
      defines = map (λ d. d.define) (keep (λ d. eqb d.app a.number) s.definitions);
      components = map (λ k. k.component) (keep (λ k. eqb k.app a.number) s.parts);
      resources = keep (λ r. owned_by s.parts a.number r.provider) s.resources;
    }

-- a listed, defined, dangerous permission
unfoldable pub good_grant : State → App → ℕ → Bool
good_grant s a p = test (known (view_of s) p) (λ k. grantable a p k)

abbrev pub is_live : State → Loan → Bool
is_live s x =
    (eqb x.kind 1 && any (λ i. eqb i.number x.receiver) s.instances)
    || (eqb x.kind 2 && is_installed s.rows x.receiver)

abbrev pub is_sharing_provider : Part → Bool
is_sharing_provider k = is_provider k.component && is_sharing k.component

-- ---- the tests
unfoldable pub tests : Limits → State → List Bool
tests L s =
    -- app numbers are unique and not zero
    distinct same_app s.rows ∷
    all (λ r. ltb 0 (app_number r)) s.rows ∷
    -- component numbers are unique and not zero
    distinct same_part s.parts ∷
    all (λ k. ltb 0 k.component.number) s.parts ∷
    -- resources are unique as a pair
    distinct same_resource s.resources ∷
    -- every component belongs to an installed app
    all (λ k. is_installed s.rows k.app) s.parts ∷
    -- every resource does: it is its provider's app
    all (λ r. any (λ k. eqb k.component.number r.provider) s.parts) s.resources ∷
    -- every definition does
    all (λ d. is_installed s.rows d.app) s.definitions ∷
    -- an app's number, signer, uses, definitions, components and resources would make a good manifest
    all (λ r. good (manifest_from s r.app)) s.rows ∷
    -- a permission has one definer
    distinct same_permission s.definitions ∷
    -- individual grants are of listed, defined, dangerous permissions
    all (λ r. all (good_grant s r.app) r.grants) s.rows ∷
    -- granted groups are 1 to 15
    all (λ r. all is_group r.groups) s.rows ∷
    -- no app has a grant or a group twice
    all (λ r. distinct eqb r.grants) s.rows ∷
    all (λ r. distinct eqb r.groups) s.rows ∷
    -- instance numbers are unique, 1 to 64
    distinct same_instance s.instances ∷
    all (λ i. leb 1 i.number && leb i.number L.instances) s.instances ∷
    -- of installed components that are no providers
    all (λ i. test (part_at s.parts i.component) (λ k. not (is_provider k.component))) s.instances ∷
    -- a loan has operations 1 to 3
    all (λ x. is_operations x.operations) s.loans ∷
    -- a live receiver
    all (is_live s) s.loans ∷
    -- an existing resource
    all (λ x. any (is_resource x.provider x.uri) s.resources) s.loans ∷
    -- of a sharing provider
    all (λ x. test (part_at s.parts x.provider) is_sharing_provider) s.loans ∷
    -- one loan per receiver and resource
    distinct same_loan s.loans ∷
    -- limits hold
    leb (length s.rows) L.apps ∷
    leb (length s.parts) L.components ∷
    leb (length s.resources) L.resources ∷
    leb (length s.instances) L.instances ∷
    leb (length s.loans) L.loans ∷ []

unfoldable pub every : List Bool → Bool
every [] = true
every (t ∷ l) = t && every l

unfoldable pub valid : Limits → State → Bool
valid L s = every (tests L s)
