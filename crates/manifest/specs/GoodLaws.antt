-- What a good manifest has: each section within its count, its entries passing their tests, its keys rising strictly;
-- and what may change in a manifest that stays good.
use Rattle.std.specs.Prelude.{ℕ, ◌≡◌, Bool, false, ◌&&◌}
use Rattle.std.proofs.Math.Path.{refl}
use mathlib.Core.List.{List, [], ◌∷◌, map}
use Rattle.std.proofs.Math.Bool.{true}
use Rattle.std.proofs.lemmas.Bool.{false≢true}
use Rattle.std.proofs.Math.Dec.{ltb}
use Rattle.std.proofs.lemmas.List.{length-map}
use Rattle.std.proofs.Common.{arith}
use borrow.Author.Tests.{ltb-true, lt-ltb}
use Rattle.manifest.specs.declared.Resource.{Resource}
use Rattle.manifest.specs.Layout.{Manifest}
use Rattle.manifest.specs.Good.{all, rising, good_uses, good_defines, good_components, good_resources, good_resource}
use Rattle.manifest.specs.Good.{resource_key, good}

pub and_parts : (a b : Bool) → (a && b) ≡ true → (a ≡ true) × (b ≡ true)
and_parts true b e = (refl, e)
and_parts false b e = absurd (false≢true e)

-- the tests of a good manifest, one by one
pub record GoodParts (m : Manifest) : Type 0 where
  pub app : ltb 0 m.app ≡ true
  pub uses : good_uses m.uses ≡ true
  pub defines : good_defines m.defines ≡ true
  pub components : good_components m.components ≡ true
  pub resources : good_resources m.components m.resources ≡ true

pub good-parts : (m : Manifest) → good m ≡ true → GoodParts m
good-parts m h =
    let r : Bool = good_resources m.components m.resources in
    let c : Bool = good_components m.components && r in
    let d : Bool = good_defines m.defines && c in
    let u : Bool = good_uses m.uses && d in
    let t1 = and_parts (ltb 0 m.app) (ltb 0 m.signer && u) h in
    let t2 = and_parts (ltb 0 m.signer) u t1.1 in
    let t3 = and_parts (good_uses m.uses) d t2.1 in
    let t4 = and_parts (good_defines m.defines) c t3.1 in
    let t5 = and_parts (good_components m.components) r t4.1 in
    record { app = t1.0; uses = t3.0; defines = t4.0; components = t5.0; resources = t5.1 }

module _ {A : Type 0} (key : A → ℕ) (ok : A → Bool) where
  -- entries that rise each pass their test
  pub all-rising : (low : ℕ) (xs : List A) → rising key ok low xs ≡ true → all ok xs ≡ true
  all-rising low [] h = refl
  all-rising low (x ∷ xs) h =
      let t = and_parts (ltb low (key x) && ok x) (rising key ok (key x) xs) h in
      rw (and_parts (ltb low (key x)) (ok x) t.0).1 (all-rising (key x) xs t.1)

  -- and their keys are all above the one that they rise from
  pub all_above : (low : ℕ) (xs : List A) → rising key ok low xs ≡ true → all (λ x. ltb low (key x)) xs ≡ true
  all_above low [] h = refl
  all_above low (x ∷ xs) h =
      let t = and_parts (ltb low (key x) && ok x) (rising key ok (key x) xs) h in
      let b : ltb low (key x) ≡ true = (and_parts (ltb low (key x)) (ok x) t.0).0 in
      rw b (higher low (key x) b xs (all_above (key x) xs t.1))
    where
      higher : (low high : ℕ) → ltb low high ≡ true → (xs : List A) → all (λ x. ltb high (key x)) xs ≡ true
          → all (λ x. ltb low (key x)) xs ≡ true
      higher low high b [] h = refl
      higher low high b (x ∷ xs) h =
          let t = and_parts (ltb high (key x)) (all (λ x. ltb high (key x)) xs) h in
          let l = ltb-true low high b in
          let u = ltb-true high (key x) t.0 in
          rw (lt-ltb low (key x) (omega arith)) (higher low high b xs t.1)

  -- entries changed elsewhere than in key and test rise as they did
  pub rising-map : (g : A → A) → ((x : A) → key (g x) ≡ key x) → ((x : A) → ok (g x) ≡ ok x) → (low : ℕ) (xs : List A)
      → rising key ok low (map g xs) ≡ rising key ok low xs
  rising-map g k o low [] = refl
  rising-map g k o low (x ∷ xs) = rw (k x, o x, rising-map g k o (key x) xs)

-- the values of its resources are no part of what makes a manifest good
module _ (g : Resource → Resource) (provider : (r : Resource) → (g r).provider ≡ r.provider)
    (uri : (r : Resource) → (g r).uri ≡ r.uri) where
  pub good-whatever-values : (m : Manifest)
      → good (record {
        app = m.app;
        signer = m.signer;
        uses = m.uses;
        defines = m.defines;
        components = m.components;
        resources = map g m.resources;
      }) ≡ good m
  good-whatever-values m = rw (
    length-map m.resources g,
    rising-map resource_key (good_resource m.components) g
        (λ r. rw (provider r, uri r))
        (λ r. rw (provider r, uri r))
        0 m.resources,
  )
