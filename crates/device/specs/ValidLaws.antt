-- The tests as the code makes them are those of the definition: document 01, "A valid state".
use Rattle.std.specs.Prelude.{ℕ, ◌≤◌, ◌≡◌, Bool, not, ◌&&◌, eqb, leb, ltb, length, take}
use Rattle.std.proofs.Math.Path.{refl, sym}
use Rattle.std.proofs.Common.{ap, ◌∙◌, arith, le-leb, length-take}
use Rattle.std.proofs.Math.Bool.{true, false}
use mathlib.Core.List.{List, [], ◌∷◌}
use Rattle.std.proofs.Math.Option.{Option, none, some}
use Rattle.manifest.specs.Good.{good, is_provider}
use Rattle.rules.specs.declared.Loan.{Loan}
use Rattle.rules.specs.Lists.{any, all, distinct, test}
use Rattle.rules.specs.ListsLaws.{and-true, and-false, and_assoc, length-map}
use Rattle.rules.specs.Limits.{large}
use Rattle.rules.specs.Action.{is_operations}
use Rattle.rules.specs.Permissions.{known}
use Rattle.rules.specs.Refusals.{is_group}
use Rattle.state.specs.declared.Device.{Device}
use Rattle.state.specs.Tables.{State, app_number, part_at, is_resource, view_of}
use Rattle.state.specs.Valid.{same_app, same_part, same_resource, same_permission, same_instance, same_loan}
use Rattle.state.specs.Valid.{is_installed}
use Rattle.state.specs.Valid.{manifest_from, good_grant, is_live, is_sharing_provider, tests, every, valid}
use Rattle.state.specs.Stored.{row_of, model_of}
use Rattle.tables.specs.Looking.{view_by}
use Rattle.device.specs.Tests.{good_lists}
use Rattle.device.specs.StoredLaws.{Counts}

-- a test that fails of all fails of what may be missing
pub test-false : {A : Type 0} (o : Option A) → test o (λ _. false) ≡ false
unfolding test
test-false none = refl
test-false (some x) = refl

-- ---- several tests of every entry
module _ {A : Type 0} where
  all_two : (f g : A → Bool) (l : List A) → all (λ x. f x && g x) l ≡ all f l && all g l
  all_two f g [] = refl
  all_two f g (x ∷ l) = rw (all_two f g l) (go (f x) (g x) (all f l) (all g l))
    where
      go : (a b c d : Bool) → (a && b) && (c && d) ≡ (a && c) && (b && d)
      go true true c d = refl
      go true false c d = sym (and-false c)
      go false b c d = refl

  all-four : (f g h k : A → Bool) (l : List A)
      → all (λ x. f x && (g x && (h x && k x))) l ≡ all f l && (all g l && (all h l && all k l))
  all-four f g h k l = all_two f (λ x. g x && (h x && k x)) l
      ∙ ap (λ (t : Bool). all f l && t) (all_two g (λ x. h x && k x) l
      ∙ ap (λ (t : Bool). all g l && t) (all_two h k l))

  all-five : (f g h k m : A → Bool) (l : List A)
      → all (λ x. f x && (g x && (h x && (k x && m x)))) l ≡ all f l && (all g l && (all h l && (all k l && all m l)))
  all-five f g h k m l = all_two f (λ x. g x && (h x && (k x && m x))) l
      ∙ ap (λ (t : Bool). all f l && t) (all-four g h k m l)

-- ---- the order of the code
swap : (a b c : Bool) → a && (b && c) ≡ b && (a && c)
swap true b c = refl
swap false true c = refl
swap false false c = refl

regroup : (t1 t2 t3 t4 t5 t6 t7 t8 t9 t10 t11 t12 t13 t14 t15 t16 t17 t18 t19 t20 t21 t22 : Bool)
    {l1 l2 l3 l4 l5 rows runs loans : Bool} → l1 ≡ true → l2 ≡ true → l3 ≡ true → l4 ≡ true → l5 ≡ true
    → rows ≡ t9 && (t11 && (t12 && (t13 && t14))) → runs ≡ t16 && t17 → loans ≡ t18 && (t19 && (t20 && t21))
    → t1 && (t2 && (t3 && (t4 && (t5 && (t6 && (t7 && (t8 && (t9 && (t10 && (t11 && (t12 && (t13 && (t14
    && (t15 && (t16 && (t17 && (t18 && (t19 && (t20 && (t21 && (t22
    && (l1 && (l2 && (l3 && (l4 && (l5 && true))))))))))))))))))))))))))
    ≡ (t1 && (t2 && (t3 && (t4 && t5)))) && ((t6 && (t7 && t8)) && (t10 && (rows && ((t15 && runs) && (loans && t22)))))
regroup t1 t2 t3 t4 t5 t6 t7 t8 t9 t10 t11 t12 t13 t14 t15 t16 t17 t18 t19 t20 t21 t22 e1 e2 e3 e4 e5 er ei el =
    rw (e1, e2, e3, e4, e5, er, ei, el)
    (simp (and_assoc, and-true)
    (ap (λ (x : Bool). t1 && (t2 && (t3 && (t4 && (t5 && (t6 && (t7 && (t8 && x))))))))
    (swap t9 t10
    (t11 && (t12 && (t13 && (t14 && (t15 && (t16 && (t17 && (t18 && (t19 && (t20 && (t21 && t22))))))))))))))

-- the tables are within the limits
pub record Within (s : State) : Type 0 where
  pub apps : length s.rows ≤ 16
  pub parts : length s.parts ≤ 64
  pub resources : length s.resources ≤ 128
  pub instances : length s.instances ≤ 64
  pub loans : length s.loans ≤ 128

pub valid-as-tested : (s : State) → Within s → valid large s ≡ good_lists s
unfolding valid tests every manifest_from good_grant known view_of view_by
valid-as-tested s w = regroup
    (distinct same_app s.rows)
    (all (λ r. ltb 0 (app_number r)) s.rows)
    (distinct same_part s.parts)
    (all (λ k. ltb 0 k.component.number) s.parts)
    (distinct same_resource s.resources)
    (all (λ k. is_installed s.rows k.app) s.parts)
    (all (λ r. any (λ k. eqb k.component.number r.provider) s.parts) s.resources)
    (all (λ d. is_installed s.rows d.app) s.definitions)
    (all (λ r. good (manifest_from s r.app)) s.rows)
    (distinct same_permission s.definitions)
    (all (λ r. all (good_grant s r.app) r.grants) s.rows)
    (all (λ r. all is_group r.groups) s.rows)
    (all (λ r. distinct eqb r.grants) s.rows)
    (all (λ r. distinct eqb r.groups) s.rows)
    (distinct same_instance s.instances)
    (all (λ i. leb 1 i.number && leb i.number 64) s.instances)
    (all (λ i. test (part_at s.parts i.component) (λ k. not (is_provider k.component))) s.instances)
    (all (λ x. is_operations x.operations) s.loans)
    (all (is_live s) s.loans)
    (all (λ x. any (is_resource x.provider x.uri) s.resources) s.loans)
    (all (λ x. test (part_at s.parts x.provider) is_sharing_provider) s.loans)
    (distinct same_loan s.loans)
    (le-leb (length s.rows) 16 w.apps)
    (le-leb (length s.parts) 64 w.parts)
    (le-leb (length s.resources) 128 w.resources)
    (le-leb (length s.instances) 64 w.instances)
    (le-leb (length s.loans) 128 w.loans)
    (all-five
    (λ r. good (manifest_from s r.app))
    (λ r. all (good_grant s r.app) r.grants)
    (λ r. all is_group r.groups)
    (λ r. distinct eqb r.grants)
    (λ r. distinct eqb r.groups) s.rows)
    (all_two
    (λ i. leb 1 i.number && leb i.number 64)
    (λ i. test (part_at s.parts i.component) (λ k. not (is_provider k.component))) s.instances)
    (all-four
    (λ x. is_operations x.operations)
    (is_live s)
    (λ x. any (is_resource x.provider x.uri) s.resources)
    (λ x. test (part_at s.parts x.provider) is_sharing_provider) s.loans)

few : {A : Type 0} (k n : ℕ) (l : List A) → k ≤ n → length (take k l) ≤ n
few k n l h = omega (arith, length-take k l)

pub within : (d : Device) (lent : List Loan) → Counts d → Within (model_of d lent)
unfolding model_of
within d lent c = record {
  apps = rw (length-map row_of (take d.apps.count d.apps.entries))
      (few d.apps.count 16 d.apps.entries c.apps);
  parts = few d.parts.count 64 d.parts.entries c.parts;
  resources = few d.resources.count 128 d.resources.entries c.resources;
  instances = few d.instances.list.count 64 d.instances.list.entries c.instances;
  loans = few d.lent 128 lent c.loans;
}
