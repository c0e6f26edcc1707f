-- A valid state as a record of equations, one for each test of `valid`, with the way there and back.
use Rattle.std.specs.Prelude.{◌≡◌, Bool, true, not, ◌&&◌, List, ◌∷◌, length, eqb, leb, ltb}
use Rattle.manifest.specs.Good.{good, is_provider}
use Rattle.rules.specs.Lists.{any, all, distinct, test}
use Rattle.rules.specs.ListsLaws.{and_left, and_right}
use Rattle.rules.specs.Limits.{Limits}
use Rattle.rules.specs.Action.{is_operations}
use Rattle.rules.specs.Refusals.{is_group}
use Rattle.state.specs.Tables.{Row, State, app_number, part_at, is_resource}
use Rattle.state.specs.Valid.{same_app, same_part, same_resource, same_permission, same_instance, same_loan}
use Rattle.state.specs.Valid.{is_installed, manifest_from, good_grant, is_live, is_sharing_provider, tests, every}
use Rattle.state.specs.Valid.{valid}

-- the rows by themselves
pub record RowsOk (rs : List Row) : Type 0 where
  pub apps : distinct same_app rs ≡ true
  pub numbered : all (λ r. ltb 0 (app_number r)) rs ≡ true
  pub range : all (λ r. all is_group r.groups) rs ≡ true
  pub grants : all (λ r. distinct eqb r.grants) rs ≡ true
  pub groups : all (λ r. distinct eqb r.groups) rs ≡ true

-- apps, definitions, components and resources together
pub record TablesOk (s : State) : Type 0 where
  pub parts : distinct same_part s.parts ≡ true
  pub numbered : all (λ k. ltb 0 k.component.number) s.parts ≡ true
  pub resources : distinct same_resource s.resources ≡ true
  pub part_owners : all (λ k. is_installed s.rows k.app) s.parts ≡ true
  pub providers : all (λ r. any (λ k. eqb k.component.number r.provider) s.parts) s.resources ≡ true
  pub definers : all (λ d. is_installed s.rows d.app) s.definitions ≡ true
  pub good : all (λ r. good (manifest_from s r.app)) s.rows ≡ true
  pub definitions : distinct same_permission s.definitions ≡ true
  pub granted : all (λ r. all (good_grant s r.app) r.grants) s.rows ≡ true

pub record InstancesOk (L : Limits) (s : State) : Type 0 where
  pub numbers : distinct same_instance s.instances ≡ true
  pub range : all (λ i. leb 1 i.number && leb i.number L.instances) s.instances ≡ true
  pub components : all (λ i. test (part_at s.parts i.component) (λ k. not (is_provider k.component)))
      s.instances ≡ true

pub record LoansOk (s : State) : Type 0 where
  pub operations : all (λ x. is_operations x.operations) s.loans ≡ true
  pub live : all (is_live s) s.loans ≡ true
  pub resources : all (λ x. any (is_resource x.provider x.uri) s.resources) s.loans ≡ true
  pub sharing : all (λ x. test (part_at s.parts x.provider) is_sharing_provider) s.loans ≡ true
  pub pairs : distinct same_loan s.loans ≡ true

pub record LimitsOk (L : Limits) (s : State) : Type 0 where
  pub apps : leb (length s.rows) L.apps ≡ true
  pub components : leb (length s.parts) L.components ≡ true
  pub resources : leb (length s.resources) L.resources ≡ true
  pub instances : leb (length s.instances) L.instances ≡ true
  pub loans : leb (length s.loans) L.loans ≡ true

pub record Ok (L : Limits) (s : State) : Type 0 where
  pub rows : RowsOk s.rows
  pub tables : TablesOk s
  pub instances : InstancesOk L s
  pub loans : LoansOk s
  pub limits : LimitsOk L s

-- the tests of a list from the first on
split : (t : Bool) (l : List Bool) → every (t ∷ l) ≡ true → (t ≡ true) × (every l ≡ true)
unfolding every
split t l h = (and_left t (every l) h, and_right t (every l) h)

pub valid→ok : (L : Limits) (s : State) → valid L s ≡ true → Ok L s
unfolding valid tests
valid→ok L s h =
    let t1 = split _ _ h in
    let t2 = split _ _ t1.1 in
    let t3 = split _ _ t2.1 in
    let t4 = split _ _ t3.1 in
    let t5 = split _ _ t4.1 in
    let t6 = split _ _ t5.1 in
    let t7 = split _ _ t6.1 in
    let t8 = split _ _ t7.1 in
    let t9 = split _ _ t8.1 in
    let t10 = split _ _ t9.1 in
    let t11 = split _ _ t10.1 in
    let t12 = split _ _ t11.1 in
    let t13 = split _ _ t12.1 in
    let t14 = split _ _ t13.1 in
    let t15 = split _ _ t14.1 in
    let t16 = split _ _ t15.1 in
    let t17 = split _ _ t16.1 in
    let t18 = split _ _ t17.1 in
    let t19 = split _ _ t18.1 in
    let t20 = split _ _ t19.1 in
    let t21 = split _ _ t20.1 in
    let t22 = split _ _ t21.1 in
    let t23 = split _ _ t22.1 in
    let t24 = split _ _ t23.1 in
    let t25 = split _ _ t24.1 in
    let t26 = split _ _ t25.1 in
    let t27 = split _ _ t26.1 in
    record {
      rows = record { apps = t1.0; numbered = t2.0; range = t12.0; grants = t13.0; groups = t14.0 };
      tables = record {
        parts = t3.0;
        numbered = t4.0;
        resources = t5.0;
        part_owners = t6.0;
        providers = t7.0;
        definers = t8.0;
        good = t9.0;
        definitions = t10.0;
        granted = t11.0;
      };
      instances = record { numbers = t15.0; range = t16.0; components = t17.0 };
      loans = record { operations = t18.0; live = t19.0; resources = t20.0; sharing = t21.0; pairs = t22.0 };
      limits = record { apps = t23.0; components = t24.0; resources = t25.0; instances = t26.0; loans = t27.0 };
    }

pub ok→valid : (L : Limits) (s : State) → Ok L s → valid L s ≡ true
unfolding valid tests every
ok→valid L s o =
    rw (
      o.rows.apps,
      o.rows.numbered,
      o.tables.parts,
      o.tables.numbered,
      o.tables.resources,
      o.tables.part_owners,
      o.tables.providers,
      o.tables.definers,
      o.tables.good,
      o.tables.definitions,
      o.tables.granted,
      o.rows.range,
      o.rows.grants,
      o.rows.groups,
      o.instances.numbers,
      o.instances.range,
      o.instances.components,
      o.loans.operations,
      o.loans.live,
      o.loans.resources,
      o.loans.sharing,
      o.loans.pairs,
      o.limits.apps,
      o.limits.components,
      o.limits.resources,
      o.limits.instances,
      o.limits.loans,
    )
