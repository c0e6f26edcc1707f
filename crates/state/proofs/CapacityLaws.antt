-- A valid state fits its arrays: distinct instances have numbers of the range, an app's distinct grants are among its
-- uses and its groups among 15, and every definition is one of at most 16 of an installed app.
use Rattle.std.specs.Prelude.{ℕ, suc, ◌+◌, ◌*◌, ◌≤◌, ◌≡◌, refl, Bool, ◌&&◌, ◌||◌, cond, leb, length}
use Rattle.std.proofs.Common.{sym, ap, ◌∙◌}
use Rattle.std.proofs.Math.Bool.{true, false, not, and_comm}
use Rattle.std.proofs.lemmas.Bool.{false≢true}
use mathlib.Core.List.{List, [], ◌∷◌, Memᴰ}
use Rattle.std.proofs.Math.Option.{Option, none, some}
use Rattle.std.proofs.Math.Dec.{eqb}
use native.Mathlib.Omega.{arith}
use borrow.Author.Tests.{eqb-true, leb-true, le-leb}
use Rattle.manifest.specs.Good.{good, good_use, uses_rise, defines_rise, at_most}
use Rattle.manifest.specs.GoodLaws.{and_parts, GoodParts, good-parts}
use Rattle.rules.specs.declared.Definition.{Definition}
use Rattle.rules.specs.declared.Known.{Known}
use Rattle.rules.specs.Lists.{any, all, keep, mem, distinct, test}
use Rattle.rules.specs.ListsLaws.{and_left, all-mem, all-mono, keep-mem, keep-keep, length-keep, length-map, eqb-sym}
use Rattle.rules.specs.ListsLaws.{all_keep, mem-all}
use Rattle.rules.specs.UptoLaws.{no_more, at-most}
use Rattle.rules.specs.Limits.{Limits}
use Rattle.rules.specs.Permissions.{known, dangerous}
use Rattle.rules.specs.Refusals.{grantable, is_group}
use Rattle.state.specs.Tables.{Row, State, app_number, view_of}
use Rattle.state.specs.Valid.{manifest_from, good_grant, valid}
use Rattle.state.specs.Ok.{Ok, InstancesOk, valid→ok}
use Rattle.state.proofs.ManifestLaws.{rising-distinct}
use Rattle.state.specs.Capacity.{Fits}

-- at most as many instances as there are numbers
pub instances-fit : (L : Limits) (s : State) → InstancesOk L s → length s.instances ≤ L.instances
instances-fit L s ok = at-most (λ i. i.number) L.instances s.instances ok.numbers ok.range

split-length : {A : Type 0} (f : A → Bool) (l : List A)
    → length l ≡ length (keep f l) + length (keep (λ x. not (f x)) l)
split-length f [] = refl
split-length f (x ∷ l) = go (f x) (split-length f l)
  where
    go : (t : Bool) → length l ≡ length (keep f l) + length (keep (λ x. not (f x)) l)
        → suc (length l)
        ≡ length (cond t (x ∷ keep f l) (keep f l))
        + length (cond (not t) (x ∷ keep (λ x. not (f x)) l) (keep (λ x. not (f x)) l))
    go true h = omega arith
    go false h = omega arith

-- entries that each belong to a thing of a list, at most k to each
module _ {A B : Type 0} (owner : A → ℕ) (num : B → ℕ) (k : ℕ) where
  abbrev belongs : List B → A → Bool
  belongs rs x = any (λ r. eqb (num r) (owner x)) rs

  abbrev its : B → A → Bool
  its r x = eqb (owner x) (num r)

  abbrev few : List A → B → Bool
  few l r = leb (length (keep (its r) l)) k

  so-many-each : (rs : List B) (l : List A) → all (belongs rs) l ≡ true → all (few l) rs ≡ true
      → length l ≤ k * length rs
  so-many-each [] [] owned h = omega arith
  so-many-each [] (x ∷ l) owned h = absurd (false≢true owned)
  so-many-each (r ∷ rs) l owned h =
      let t = split-length (its r) l in
      let c = and_parts (few l r) (all (few l) rs) h in
      let first = leb-true (length (keep (its r) l)) k c.0 in
      let more = so-many-each rs (keep (λ x. not (its r x)) l)
      (all_keep (belongs (r ∷ rs)) (belongs rs) (λ x. not (its r x)) of_others l owned)
      (all-mono (few l) (few (keep (λ x. not (its r x)) l)) no-more-then rs c.1) in
      omega arith
    where
      of_others : (x : A) → belongs (r ∷ rs) x ≡ true → not (its r x) ≡ true → belongs rs x ≡ true
      of_others x e d = go (eqb (num r) (owner x)) e (rw (eqb-sym (owner x) (num r)) at d)
        where
          go : (t : Bool) → t || belongs rs x ≡ true → not t ≡ true → belongs rs x ≡ true
          go true e d = absurd (false≢true d)
          go false e d = e

      no-more-then : (q : B) → few l q ≡ true → few (keep (λ x. not (its r x)) l) q ≡ true
      no-more-then q e =
          let t = leb-true (length (keep (its q) l)) k e in
          let f = length-keep (λ x. not (its r x)) (keep (its q) l) in
          le-leb (length (keep (its q) (keep (λ x. not (its r x)) l))) k (omega (arith, ap length swapped))
        where
          swapped : keep (its q) (keep (λ x. not (its r x)) l) ≡ keep (λ x. not (its r x)) (keep (its q) l)
          swapped = keep-keep (its q) (λ x. not (its r x)) l
              ∙ keep-mem (λ x. not (its r x) && its q x) (λ x. its q x && not (its r x)) l
              (λ x _. and_comm (not (its r x)) (its q x)) ∙ sym (keep-keep (λ x. not (its r x)) (its q) l)

module _ (L : Limits) (s : State) (ok : Ok L s) where
  its-parts : {r : Row} → Memᴰ r s.rows → GoodParts (manifest_from s r.app)
  its-parts {r} h = good-parts (manifest_from s r.app)
      (all-mem (λ r. good (manifest_from s r.app)) h ok.tables.good)

  its-uses : {r : Row} → Memᴰ r s.rows → (at_most 32 r.app.uses ≡ true) × (uses_rise 0 r.app.uses ≡ true)
  unfolding manifest_from
  its-uses {r} h = and_parts (at_most 32 r.app.uses) (uses_rise 0 r.app.uses) (its-parts h).uses

  uses-fit : {r : Row} → Memᴰ r s.rows → length r.app.uses ≤ 32
  uses-fit {r} h = leb-true (length r.app.uses) 32 (its-uses h).0

  -- grants are distinct and listed
  grants-fit : {r : Row} → Memᴰ r s.rows → length r.grants ≤ 32
  grants-fit {r} h =
      let u = uses-fit h in
      let g = no_more (λ p. p) r.app.uses
      (rising-distinct (λ p. p) good_use eqb (λ x y e. eqb-true x y e) 0 r.app.uses (its-uses h).1)
      r.grants (all-mem (λ r. distinct eqb r.grants) h ok.rows.grants)
      (all-mono (good_grant s r.app) (λ p. any (eqb p) r.app.uses) listed r.grants
      (all-mem (λ r. all (good_grant s r.app) r.grants) h ok.tables.granted)) in
      omega arith
    where
      listed : (p : ℕ) → good_grant s r.app p ≡ true → any (eqb p) r.app.uses ≡ true
      listed p e = go (known (view_of s) p) (unfold good_grant in e)
        where
          go : (o : Option Known) → test o (λ k. grantable r.app p k) ≡ true → any (eqb p) r.app.uses ≡ true
          go none e = absurd (false≢true (unfold test in e))
          go (some k) e = unfold mem in and_left (mem p r.app.uses) (dangerous k) (unfold test grantable in e)

  groups-fit : {r : Row} → Memᴰ r s.rows → length r.groups ≤ 15
  unfolding is_group
  groups-fit {r} h = at-most (λ g. g) 15 r.groups (all-mem (λ r. distinct eqb r.groups) h ok.rows.groups)
      (all-mem (λ r. all is_group r.groups) h ok.rows.range)

  definitions-fit : length s.definitions ≤ 16 * length s.rows
  definitions-fit = so-many-each (λ d. d.app) app_number 16 s.rows s.definitions ok.tables.definers
      (mem-all (λ r. leb (length (keep (λ d. eqb d.app (app_number r)) s.definitions)) 16) s.rows at-most-16)
    where
      at-most-16 : (r : Row) → Memᴰ r s.rows
          → leb (length (keep (λ d. eqb d.app (app_number r)) s.definitions)) 16 ≡ true
      at-most-16 r h = unfold manifest_from in
          rw (length-map (λ (d : Definition). d.define) (keep (λ d. eqb d.app (app_number r)) s.definitions)) at
          (and_left (at_most 16 (manifest_from s r.app).defines) (defines_rise 0 (manifest_from s r.app).defines)
          (its-parts h).defines)

  pub ok-fits : Fits L s
  ok-fits =
      let apps = leb-true (length s.rows) L.apps ok.limits.apps in
      let definitions = definitions-fit in
      record {
        apps = apps;
        definitions = omega arith;
        components = leb-true (length s.parts) L.components ok.limits.components;
        resources = leb-true (length s.resources) L.resources ok.limits.resources;
        instances = instances-fit L s ok.instances;
        loans = leb-true (length s.loans) L.loans ok.limits.loans;
        uses = uses-fit;
        grants = grants-fit;
        groups = groups-fit;
      }

pub valid-fits : (L : Limits) (s : State) → valid L s ≡ true → Fits L s
valid-fits L s h = ok-fits L s (valid→ok L s h)
