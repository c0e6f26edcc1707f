-- The tests by what the code looks up once, the resources with their providers and the dangerous permissions, are those
-- of the definition.
use Rattle.std.specs.Prelude.{ℕ, ◌<◌, ◌≡◌, Bool, true, false, ◌&&◌, List, [], ◌∷◌, map, length, eqb, ltb}
use Rattle.std.specs.Prelude.{take}
use Rattle.std.proofs.Common.{refl, sym, ap, ◌∙◌, ltb-true, eq-eqb}
use Rattle.manifest.specs.declared.Resource.{Resource}
use Rattle.manifest.specs.Good.{rising, at_most, resource_key, good_resource, good_resources, is_provider, good}
use Rattle.manifest.specs.Good.{good_uses, good_defines, good_components}
use Rattle.rules.specs.declared.Definition.{Definition}
use Rattle.rules.specs.declared.Part.{Part}
use Rattle.rules.specs.Lists.{all, keep, distinct}
use Rattle.rules.specs.declared.Loan.{Loan}
use Rattle.rules.specs.ListsLaws.{and_left, and_right, and_assoc, keep-map, keep-passes, length-map}
use Rattle.rules.specs.View.{App}
use Rattle.rules.specs.Refusals.{is_group}
use Rattle.state.specs.declared.Device.{Device}
use Rattle.state.specs.Tables.{Row, app_number}
use Rattle.state.specs.Valid.{same_app, same_part, same_permission}
use Rattle.state.specs.Stored.{is_zero_loan, pads, digits_of, mask_of, formed, model_of, valid_stored}
use Rattle.tables.specs.Held.{rows_in, definitions_in, parts_in, resources_in, instances_in}
use Rattle.device.specs.declared.Provided.{Provided}
use Rattle.device.specs.Rising.{few_rising}
use Rattle.device.specs.Tests.{part_or, with_provider, defines_of, components_of, resources_of, good_provided}
use Rattle.device.specs.Tests.{manifest_in, good_manifest_by, dangerous_in, good_row, good_row_by}
use Rattle.device.specs.Tests.{good_rows_by, good_numbers, good_owners, good_runs, good_lending}
use Rattle.device.specs.Tests.{good_lists, good_lists_by, formed_tables}
use Rattle.device.specs.PartLaws.{owned, good-if-provided}
use Rattle.device.specs.GrantLaws.{same-grants}
use Rattle.device.specs.StoredLaws.{formed-parts, counts}
use Rattle.device.specs.ValidLaws.{valid-as-tested, within}

-- a second test counts only where the first passes
pub under : (a : Bool) {x y : Bool} → (a ≡ true → x ≡ y) → a && x ≡ a && y
under true h = h refl
under false h = refl

-- ---- a test of a section is that of the entries that it is made of
pub rising-map : {A B : Type 0} (g : A → B) (key : B → ℕ) (ok : B → Bool) (low : ℕ) (l : List A)
    → rising key ok low (map g l) ≡ rising (λ x. key (g x)) (λ x. ok (g x)) low l
rising-map g key ok low [] = refl
rising-map g key ok low (x ∷ l) = rw (rising-map g key ok (key (g x)) l)

pub few-map : {A B : Type 0} (g : A → B) (mine : A → Bool) (key : B → ℕ) (ok : B → Bool) (room low : ℕ) (l : List A)
    → at_most room (map g (keep mine l)) && rising key ok low (map g (keep mine l))
    ≡ few_rising mine (λ x. key (g x)) (λ x. ok (g x)) room low l
few-map g mine key ok room low l = rw (length-map g (keep mine l), rising-map g key ok low (keep mine l))

pub keep-all : {A : Type 0} (l : List A) → keep (λ x. true) l ≡ l
keep-all [] = refl
keep-all (x ∷ l) = ap (λ (m : List _). x ∷ m) (keep-all l)

-- ---- where components have numbers of their own, an app's resources are those of its providers
module _ (ks : List Part) (one : distinct same_part ks ≡ true) (b : ℕ) (real : 0 < b) where
  abbrev its : Resource → Bool
  its r = eqb (part_or ks r.provider).app b

  abbrev good_here : Resource → Bool
  good_here r = ltb 0 r.uri && is_provider (part_or ks r.provider).component

  rising-provided : (low : ℕ) (l : List Resource) → all its l ≡ true
      → rising resource_key good_here low l ≡ rising resource_key (good_resource (components_of b ks)) low l
  rising-provided low [] e = refl
  rising-provided low (r ∷ l) e =
      rw (
        good-if-provided ks one b real r (and_left (its r) _ e),
        rising-provided (resource_key r) l (and_right (its r) _ e),
      )

  kept : (us : List Resource) → keep its us ≡ resources_of b ks us
  kept us = ap (λ (f : Resource → Bool). keep f us) (λ i r. sym (owned ks one b real r.provider) i)

  pub same-provided : (us : List Resource)
      → good_provided b (map (with_provider ks) us) ≡ good_resources (components_of b ks) (resources_of b ks us)
  same-provided us =
      rw (
        keep-map (λ (p : Provided). eqb p.provider.app b) (with_provider ks) us,
        length-map (with_provider ks) (keep its us),
        rising-map (with_provider ks) (λ p. resource_key p.resource)
            (λ p. ltb 0 p.resource.uri && is_provider p.provider.component) 0 (keep its us),
        rising-provided 0 (keep its us) (keep-passes its us),
        kept us,
      )

-- ---- an app
module _ (rs : List Row) (ds : List Definition) (ks : List Part) (us : List Resource)
    (one : distinct same_part ks ≡ true) where
  same-manifest : (a : App) → good_manifest_by ds ks (map (with_provider ks) us) a ≡ good (manifest_in ds ks us a)
  same-manifest a =
      under (ltb 0 a.number) λ h.
      ap (λ (t : Bool). ltb 0 a.signer && (good_uses a.uses && (good_defines (defines_of a.number ds)
      && (good_components (components_of a.number ks) && t))))
      (same-provided ks one a.number (ltb-true 0 a.number h) us)

  same-row : (r : Row) → good_row_by ds ks (map (with_provider ks) us) (dangerous_in rs ds) r ≡ good_row rs ds ks us r
  same-row r =
      rw (same-manifest r.app)
      (under (good (manifest_in ds ks us r.app)) λ g.
      ap (λ (t : Bool). t && (all is_group r.groups && (distinct eqb r.grants && distinct eqb r.groups)))
      (same-grants rs ds ks us r.app r.grants g))

  pub same-rows : good_rows_by rs ds ks us ≡ all (good_row rs ds ks us) rs
  same-rows = ap (λ (f : Row → Bool). all f rs) (λ i r. same-row r i)

-- ---- the whole, as the code makes it
formed-apart : (d : Device) (lent : List Loan) → length lent ≡ 128
    → formed d lent ≡ formed_tables d && pads is_zero_loan 128 lent d.lent
unfolding formed
formed-apart d lent long = rw long (simp and_assoc)

lists-as-tested : (d : Device) (lent : List Loan) → good_lists_by d (take d.lent lent) ≡ good_lists (model_of d lent)
unfolding model_of
lists-as-tested d lent =
    let rs = rows_in d.apps in
    let ks = parts_in d.parts in
    let us = resources_in d.resources in
    let ds = definitions_in d.definitions in
    let is = instances_in d.instances in
    under (good_numbers rs ks us) λ n.
    ap (λ (t : Bool). good_owners rs ds ks us && (distinct same_permission ds && (t && (good_runs ks is
    && good_lending rs ks us is (take d.lent lent)))))
    (same-rows rs ds ks us (parts-unique rs ks us n))
  where
    parts-unique : (rs : List Row) (ks : List Part) (us : List Resource) → good_numbers rs ks us ≡ true
        → distinct same_part ks ≡ true
    parts-unique rs ks us n =
        and_left (distinct same_part ks) _
        (and_right (all (λ r. ltb 0 (app_number r)) rs) _ (and_right (distinct same_app rs) _ n))

pub stored-as-tested : (d : Device) (lent : List Loan) → length lent ≡ 128
    → valid_stored d lent ≡ formed_tables d && (pads is_zero_loan 128 lent d.lent && good_lists_by d (take d.lent lent))
unfolding valid_stored
stored-as-tested d lent long =
    rw (eq-eqb (length lent) 128 long)
    (under (formed d lent) (λ f.
    valid-as-tested (model_of d lent) (within d lent (counts d lent long (formed-parts d lent f)))
    ∙ sym (lists-as-tested d lent))
    ∙ rw (formed-apart d lent long, and_assoc))

-- ---- the running numbers of no instance
pub mask-none : mask_of [] ≡ 0
unfolding mask_of digits_of
mask-none = refl
