-- Every accepted action keeps apps, definitions, components and resources valid together: each app's entries would
-- still make a good manifest, every entry belongs to an installed app, and every grant is of a permission that is
-- defined.
use Prim.Native.Nat.{ℕ}
use Rattle.std.specs.Prelude.{◌≡◌, false, ◌&&◌}
use Rattle.std.proofs.Math.Path.{refl, sym, ap}
use Rattle.std.proofs.Common.{◌∙◌}
use Rattle.std.proofs.Math.Bool.{Bool, true, not}
use Rattle.std.proofs.lemmas.Bool.{false≢true}
use mathlib.Core.List.{List, [], ◌∷◌, ◌++◌, map, Memᴰ}
use Rattle.std.proofs.Math.Option.{Option, none, some}
use Rattle.std.proofs.Math.Dec.{eqb, ltb}
use borrow.Author.Tests.{eqb-true, not-true}
use Rattle.manifest.specs.Layout.{Manifest}
use Rattle.manifest.specs.Good.{good, at_most, good_define, defines_rise, good_component, components_rise}
use Rattle.manifest.specs.Good.{good_resource}
use Rattle.manifest.specs.Good.{resource_key, resources_rise}
use Rattle.manifest.specs.GoodLaws.{and_parts, GoodParts, good-parts, all_above}
use Rattle.manifest.specs.declared.Resource.{Resource}
use Rattle.rules.specs.declared.Definition.{Definition}
use Rattle.rules.specs.declared.Part.{Part}
use Rattle.rules.specs.declared.Instance.{Instance}
use Rattle.rules.specs.declared.Loan.{Loan}
use Rattle.rules.specs.declared.Known.{Known}
use Rattle.rules.specs.declared.Ground.{Ground}
use Rattle.rules.specs.Lists.{any, all, keep, find, distinct, is_some, test, bind, map_option, or_find}
use Rattle.rules.specs.ListsLaws.{all_found, and_left, and-true, or-true, both, flat, clashing, eqb_same, eqb-sym}
use Rattle.rules.specs.ListsLaws.{any_append, any-one, any-map, any-mem, mem-any, all_append, all_map, all-mono}
use Rattle.rules.specs.ListsLaws.{all_keep, all-mem, mem-all, none-mem, none_any, find-append, find-keep, find-cong}
use Rattle.rules.specs.ListsLaws.{find-holds, find-in, find-map, found_at, map-append, map-map, cond-all, distinct-keep}
use Rattle.rules.specs.ListsLaws.{distinct-map, distinct_append, distinct-image, other}
use Rattle.rules.specs.Limits.{Limits}
use Rattle.rules.specs.Action.{install, uninstall, grant, revoke, grant_group, revoke_group, Action, on_apps, on_grants}
use Rattle.rules.specs.Action.{on_runs, write, on_loans, query}
use Rattle.rules.specs.View.{App, app_of, part_of, definition_of}
use Rattle.rules.specs.Permissions.{built_in, known}
use Rattle.rules.specs.Refusals.{grantable}
use Rattle.rules.specs.Answer.{done, answer}
use Rattle.rules.specs.DoneLaws.{install-good, install-new, New, grant-grantable}
use Rattle.state.specs.Tables.{Row, State, app_number, apps_of, app_at, part_at, defined_by, known_from, defined_in}
use Rattle.state.specs.Tables.{is_resource, view_of}
use Rattle.state.specs.Effects.{grants_at, groups_at, keep_grants, added, taken, apps_after, definitions_after}
use Rattle.state.specs.Effects.{parts_after, put, resources_after, instances_after, loans_after, next}
use Rattle.state.specs.Valid.{same_app, same_part, same_resource, same_permission, is_installed, manifest_from}
use Rattle.state.specs.Valid.{good_grant}
use Rattle.state.specs.Ok.{TablesOk}
use Rattle.state.proofs.LookupLaws.{apps-after, installed_after, has_provider, providers-stay}
use Rattle.state.proofs.ManifestLaws.{rising-distinct, not-gone, found-still, not-in-table, provider-its-own}
use Rattle.state.proofs.ManifestLaws.{install-leaves, install-makes, uninstall-leaves, write-leaves-good}
use Rattle.state.proofs.KeepsRows.{installed-is, installed-map, all-change}

-- the tests on a row
abbrev good_app : State → Row → Bool
good_app s r = good (manifest_from s r.app)

abbrev good_grants : State → Row → Bool
good_grants s r = all (good_grant s r.app) r.grants

-- ---- which permissions are known
abbrev known_in : List App → List Definition → ℕ → Option Known
known_in apps ds p = or_find (built_in p) (defined_in apps ds p)

abbrev defines : ℕ → Definition → Bool
defines p d = eqb d.define.permission p

-- what is known stays so when an app comes
known_more : (apps more : List App) (ds new : List Definition) (p : ℕ) (f : Known → Bool)
    → test (known_in apps ds p) f ≡ true → test (known_in (apps ++ more) (ds ++ new) p) f ≡ true
unfolding defined_in known_from app_at
known_more apps more ds new p f e = rw (find-append (defines p) ds new)
    (go (built_in p) (find (defines p) ds) e)
  where
    app-more : (o q : Option App) (h : App → Known) → test (map_option h o) f ≡ true
        → test (map_option h (or_find o q)) f ≡ true
    app-more none q h e = absurd (false≢true (unfold map_option test in e))
    app-more (some a) q h e = unfold or_find in e

    go : (x : Option Known) (o : Option Definition) → test (or_find x (bind o (known_from apps))) f ≡ true
        → test (or_find x (bind (or_find o (find (defines p) new)) (known_from (apps ++ more)))) f ≡ true
    go (some x) o e = unfold or_find in e
    go none none e = absurd (false≢true (unfold or_find bind test in e))
    go none (some d) e = unfold or_find bind in
        rw (find-append (λ a. eqb a.number d.app) apps more)
        (app-more (find (λ a. eqb a.number d.app) apps) (find (λ a. eqb a.number d.app) more) _
        (unfold or_find bind in e))

-- and when an app goes that does not define it
known-less : (apps : List App) (ds : List Definition) (b p : ℕ) → defined_by ds b p ≡ false
    → known_in (keep (λ a. not (eqb a.number b)) apps) (keep (λ d. not (eqb d.app b)) ds) p ≡ known_in apps ds p
unfolding defined_in known_from app_at defined_by
known-less apps ds b p n = ap (or_find (built_in p))
    (ap (λ (o : Option Definition). bind o (known_from (keep (λ a. not (eqb a.number b)) apps)))
    (found-still (λ d. d.app) b (defines p) ds n) ∙ go (find (defines p) ds) refl)
  where
    other-app : (c : ℕ) → eqb c b ≡ false
        → find (λ a. eqb a.number c) (keep (λ a. not (eqb a.number b)) apps) ≡ find (λ a. eqb a.number c) apps
    other-app c d = find-keep (λ a. eqb a.number c) (λ a. not (eqb a.number b)) apps
        ∙ find-cong (not-gone (λ (a : App). a.number) c b d) apps

    go : (o : Option Definition) → find (defines p) ds ≡ o
        → bind o (known_from (keep (λ a. not (eqb a.number b)) apps)) ≡ bind o (known_from apps)
    go none e = unfold bind in refl
    go (some d) e = unfold bind in rw (other-app d.app (flat (eqb d.app b) its)) refl
      where
        its : eqb d.app b ≡ true → ⊥
        its h = clashing (find-in (defines p) (λ d. eqb d.app b && defines p d) ds d e
            (both h (find-holds (defines p) ds d e))) n

-- what an installed app defines is known
known-if-defined : (rs : List Row) (ds : List Definition) (p : ℕ) → all (λ d. is_installed rs d.app) ds ≡ true
    → any (defines p) ds ≡ true → is_some (known_in (apps_of rs) ds p) ≡ true
unfolding defined_in known_from
known-if-defined rs ds p definers e = go (built_in p) (find (defines p) ds) refl
  where
    from : (d : Definition) → is_some (app_at (apps_of rs) d.app) ≡ true → is_some (known_from (apps_of rs) d) ≡ true
    from d h = some-still (app_at (apps_of rs) d.app) _ h
      where
        some-still : (o : Option App) (f : App → Known) → is_some o ≡ true → is_some (map_option f o) ≡ true
        some-still none f h = absurd (false≢true (unfold is_some in h))
        some-still (some a) f h = unfold map_option is_some in refl

    installed : (d : Definition) → find (defines p) ds ≡ some d → is_installed rs d.app ≡ true
    installed d q = all_found (defines p) (λ d. is_installed rs d.app) ds d q definers

    go : (x : Option Known) (o : Option Definition) → find (defines p) ds ≡ o
        → is_some (or_find x (bind o (known_from (apps_of rs)))) ≡ true
    go (some x) o q = unfold or_find is_some in refl
    go none none q = absurd (clashing e (none_any (defines p) ds q))
    go none (some d) q = unfold or_find bind in from d (installed-is rs d.app ∙ installed d q)

-- ---- entries that name their app
owners-more : {A B : Type 0} (app : A → ℕ) (of : B → A) (r : Row) → ((y : B) → app (of y) ≡ app_number r)
    → (rs : List Row) (l : List A) (new : List B) → all (λ x. is_installed rs (app x)) l ≡ true
    → all (λ x. is_installed (rs ++ (r ∷ [])) (app x)) (l ++ map of new) ≡ true
owners-more app of r its rs l new owners = all_append (λ x. is_installed (rs ++ (r ∷ [])) (app x)) l (map of new) ∙ both
    (all-mono (λ x. is_installed rs (app x)) (λ x. is_installed (rs ++ (r ∷ [])) (app x))
    (λ x h. any_append (λ r. eqb (app_number r) (app x)) rs (r ∷ []) ∙ rw h) l owners)
    (all_map (λ x. is_installed (rs ++ (r ∷ [])) (app x)) of new
    ∙ mem-all (λ y. is_installed (rs ++ (r ∷ [])) (app (of y))) new (λ y _. rw (its y) there))
  where
    there : is_installed (rs ++ (r ∷ [])) (app_number r) ≡ true
    there = any_append (λ q. eqb (app_number q) (app_number r)) rs (r ∷ [])
        ∙ rw (any-one (λ q. eqb (app_number q) (app_number r)) r, eqb_same (app_number r))
        (or-true (any (λ q. eqb (app_number q) (app_number r)) rs))

owners-less : {A : Type 0} (app : A → ℕ) (b : ℕ) (f : Row → Row) → ((r : Row) → app_number (f r) ≡ app_number r)
    → (rs : List Row) (l : List A) → all (λ x. is_installed rs (app x)) l ≡ true
    → all (λ x. is_installed (map f (keep (λ r. not (eqb (app_number r) b)) rs)) (app x))
    (keep (λ x. not (eqb (app x) b)) l) ≡ true
owners-less app b f its rs l owners = all_keep (λ x. is_installed rs (app x))
    (λ x. is_installed (map f (keep (λ r. not (eqb (app_number r) b)) rs)) (app x)) (λ x. not (eqb (app x) b))
    (λ x h n. installed-map f its (keep (λ r. not (eqb (app_number r) b)) rs) (app x)
    ∙ other app_number rs b (app x) (not-true (eqb (app x) b) n) h) l owners

-- two lists of which the keys of one are not those of the other
apart : {A : Type 0} (key : A → ℕ) (l new : List A)
    → ((n : ℕ) → any (λ x. eqb (key x) n) new ≡ true → any (λ x. eqb (key x) n) l ≡ false) → (x y : A)
    → Memᴰ x l → Memᴰ y new → eqb (key x) (key y) ≡ false
apart key l new h x y mx my = flat _ (λ b. clashing (eqb_same (key x)) (none-mem (λ z. eqb (key z) (key x)) mx
    (h (key x) (mem-any (λ z. eqb (key z) (key x)) my (eqb-sym (key y) (key x) ∙ b)))))

-- ---- install
-- what it brings
abbrev new_components : Manifest → List Part
new_components m = map (part_of m) m.components

abbrev new_definitions : Manifest → List Definition
new_definitions m = map (definition_of m) m.defines

module _ (s : State) (ok : TablesOk s) (i : Bool) (m : Manifest) (v : ℕ) (fine : good m ≡ true)
    (new : New (view_of s) m) where
  abbrev after-install : State
  after-install = next s (on_apps (install i m)) v

  new_app : is_installed s.rows m.app ≡ false
  unfolding view_of
  new_app = sym (installed-is s.rows m.app) ∙ new.app

  new_parts : any (λ c. is_some (part_at s.parts c.number)) m.components ≡ false
  unfolding view_of
  new_parts = new.components

  sections : GoodParts m
  sections = good-parts m fine

  components-rise : components_rise 0 m.components ≡ true
  components-rise = (and_parts (at_most 16 m.components) (components_rise 0 m.components) sections.components).1

  new-parts-distinct : distinct same_part (new_components m) ≡ true
  new-parts-distinct = distinct-image same_part (part_of m) m.components
      ∙ rising-distinct (λ c. c.number) good_component (λ c d. eqb c.number d.number)
      (λ c d e. eqb-true c.number d.number e) 0 m.components components-rise

  parts-apart : (x y : Part) → Memᴰ x s.parts → Memᴰ y (new_components m) → same_part x y ≡ false
  parts-apart = apart (λ k. k.component.number) s.parts (new_components m)
      (λ n h. not-in-table s ok i m fine new_app new_parts n
      (sym (any-map (λ k. eqb k.component.number n) (part_of m) m.components) ∙ h))

  new-definitions-distinct : distinct same_permission (new_definitions m) ≡ true
  new-definitions-distinct = distinct-image same_permission (definition_of m) m.defines
      ∙ rising-distinct (λ d. d.permission) good_define (λ d e. eqb d.permission e.permission)
      (λ d e h. eqb-true d.permission e.permission h) 0 m.defines
      (and_parts (at_most 16 m.defines) (defines_rise 0 m.defines) sections.defines).1

  definitions-apart : (x y : Definition) → Memᴰ x s.definitions → Memᴰ y (new_definitions m)
      → same_permission x y ≡ false
  unfolding view_of known
  definitions-apart = apart (λ d. d.define.permission) s.definitions (new_definitions m)
      (λ n h. flat _ (unknown n h))
    where
      unknown : (n : ℕ) → any (defines n) (new_definitions m) ≡ true → any (defines n) s.definitions ≡ true → ⊥
      unknown n h b =
          let h' = sym (any-map (defines n) (definition_of m) m.defines) ∙ h in
          let d = any-mem (λ d. eqb d.permission n) m.defines h' in
          let q : d.0.permission ≡ n = eqb-true d.0.permission n d.2 in
          let z = none-mem (λ d. is_some (known (view_of s) d.permission)) d.1 new.defines in
          clashing (known-if-defined s.rows s.definitions n ok.definers b) (rw q at z)

  new-resources-distinct : distinct same_resource m.resources ≡ true
  unfolding is_resource
  new-resources-distinct = rising-distinct resource_key (good_resource m.components) same_resource one_key 0
      m.resources
      (and_parts (at_most 32 m.resources) (resources_rise m.components 0 m.resources) sections.resources).1
    where
      one_key : (r q : Resource) → same_resource r q ≡ true → resource_key r ≡ resource_key q
      one_key r q e =
          let t = and_parts (eqb q.provider r.provider) (eqb q.uri r.uri) e in
          let p = eqb-true q.provider r.provider t.0 in
          let u = eqb-true q.uri r.uri t.1 in
          rw (p, u)

  resources-apart : (x y : Resource) → Memᴰ x s.resources → Memᴰ y m.resources
      → same_resource x y ≡ false
  unfolding is_resource
  resources-apart x y hx hy = flat _ (λ b. clashing
      (eqb-sym x.provider y.provider ∙ and_left (eqb y.provider x.provider) _ b)
      (apart (λ r. r.provider) s.resources m.resources (λ n h. flat _ (strange n h)) x y hx hy))
    where
      strange : (n : ℕ) → any (λ r. eqb r.provider n) m.resources ≡ true
          → any (λ r. eqb r.provider n) s.resources ≡ true → ⊥
      strange n h b =
          let r = any-mem (λ r. eqb r.provider n) m.resources h in
          let q = any-mem (λ r. eqb r.provider n) s.resources b in
          let mine = provider-its-own s ok i m fine new_app new_parts r.1 in
          let there = all-mem (has_provider s.parts) q.1 ok.providers in
          clashing (rw (eqb-true q.0.provider n q.2) at there)
          (not-in-table s ok i m fine new_app new_parts n (rw (eqb-true r.0.provider n r.2) at mine))

  good-after-install : all (good_app after-install) after-install.rows ≡ true
  unfolding next apps_after
  good-after-install = all_append (good_app after-install) s.rows _ ∙ both
      (mem-all (good_app after-install) s.rows
      (λ r h. ap good (install-leaves s ok i m fine new_app new_parts r.app
      (eqb-sym m.app (app_number r) ∙ none-mem (λ r. eqb (app_number r) m.app) h new_app) v)
      ∙ all-mem (good_app s) h ok.good))
      ((and-true _ ∙ ap good (install-makes s ok i m fine new_app new_parts v) ∙ fine))

  granted-after-install : all (good_grants after-install) after-install.rows ≡ true
  unfolding next apps_after definitions_after good_grant known view_of
  granted-after-install = all_append (good_grants after-install) s.rows _ ∙ both
      (all-mono (good_grants s) (good_grants after-install) still s.rows ok.granted)
      (refl)
    where
      still : (r : Row) → good_grants s r ≡ true → good_grants after-install r ≡ true
      still r h = all-mono (good_grant s r.app) (good_grant after-install r.app)
          (λ p e. rw (map-append (λ r. r.app) s.rows _)
          (known_more (apps_of s.rows) (app_of i m ∷ []) s.definitions (new_definitions m) p (grantable r.app p)
          e)) r.grants h

  install-tables : all (has_provider after-install.parts) after-install.resources ≡ true → TablesOk after-install
  unfolding next apps_after definitions_after parts_after resources_after
  install-tables providers = record {
    parts = distinct_append same_part s.parts (new_components m) ok.parts new-parts-distinct parts-apart;
    numbered = all_append (λ k. ltb 0 k.component.number) s.parts (new_components m) ∙ both ok.numbered
        (all_map (λ k. ltb 0 k.component.number) (part_of m) m.components
        ∙ all_above (λ c. c.number) good_component 0 m.components components-rise);
    resources = distinct_append same_resource s.resources m.resources ok.resources new-resources-distinct
        resources-apart;
    part_owners = owners-more (λ k. k.app) (part_of m) _ (λ _. refl) s.rows s.parts m.components
        ok.part_owners;
    providers = providers;
    definers = owners-more (λ d. d.app) (definition_of m) _ (λ _. refl) s.rows s.definitions m.defines
        ok.definers;
    good = good-after-install;
    definitions = distinct_append same_permission s.definitions (new_definitions m) ok.definitions
        new-definitions-distinct definitions-apart;
    granted = granted-after-install;
  }

-- ---- uninstall
module _ (s : State) (ok : TablesOk s) (b v : ℕ) where
  abbrev after-uninstall : State
  after-uninstall = next s (on_apps (uninstall b)) v

  good-after-uninstall : all (good_app after-uninstall) after-uninstall.rows ≡ true
  unfolding next apps_after keep_grants
  good-after-uninstall = all_map (good_app after-uninstall) (keep_grants _) (keep _ s.rows)
      ∙ all_keep (good_app s) (good_app after-uninstall) (λ r. not (eqb (app_number r) b))
      (λ r h n. ap good (uninstall-leaves s ok.parts b r.app (not-true (eqb (app_number r) b) n) v) ∙ h) s.rows
      ok.good

  -- the grants of what the app defined go with it
  granted-after-uninstall : all (good_grants after-uninstall) after-uninstall.rows ≡ true
  unfolding next apps_after definitions_after keep_grants
  granted-after-uninstall = all_map (good_grants after-uninstall) (keep_grants _) (keep _ s.rows)
      ∙ all_keep (good_grants s) (λ r. all (good_grant after-uninstall r.app) (keep defined-by-others r.grants)) _
      (λ r h _. all_keep (good_grant s r.app) (good_grant after-uninstall r.app) defined-by-others (still r.app)
      r.grants h) s.rows ok.granted
    where
      defined-by-others : ℕ → Bool
      defined-by-others p = not (defined_by s.definitions b p)

      apps-left : apps_of after-uninstall.rows ≡ keep (λ a. not (eqb a.number b)) (apps_of s.rows)
      apps-left = unfold installed_after in apps-after s.definitions s.rows (on_apps (uninstall b))

      still : (a : App) (p : ℕ) → good_grant s a p ≡ true → defined-by-others p ≡ true
          → good_grant after-uninstall a p ≡ true
      still a p h n = unfold good_grant known view_of in
          rw (
            apps-left,
            known-less (apps_of s.rows) s.definitions b p (not-true (defined_by s.definitions b p) n),
          )
          (unfold good_grant known view_of in h)

  uninstall-tables : all (has_provider after-uninstall.parts) after-uninstall.resources ≡ true
      → TablesOk after-uninstall
  unfolding next apps_after definitions_after parts_after resources_after keep_grants
  uninstall-tables providers = record {
    parts = distinct-keep same_part _ s.parts ok.parts;
    numbered = all_keep (λ k. ltb 0 k.component.number) (λ k. ltb 0 k.component.number) _ (λ k h _. h)
        s.parts ok.numbered;
    resources = distinct-keep same_resource _ s.resources ok.resources;
    part_owners = owners-less (λ k. k.app) b (keep_grants _) (λ r. refl) s.rows s.parts ok.part_owners;
    providers = providers;
    definers = owners-less (λ d. d.app) b (keep_grants _) (λ r. refl) s.rows s.definitions ok.definers;
    good = good-after-uninstall;
    definitions = distinct-keep same_permission _ s.definitions ok.definitions;
    granted = granted-after-uninstall;
  }

-- ---- write
write-tables : (s : State) (p n u x v : ℕ) → TablesOk s
    → all (has_provider (next s (write p n u x) v).parts) (next s (write p n u x) v).resources ≡ true
    → TablesOk (next s (write p n u x) v)
unfolding next apps_after definitions_after parts_after resources_after put is_resource good_grant known view_of
write-tables s p n u x v ok providers = record {
  parts = ok.parts;
  numbered = ok.numbered;
  resources = distinct-map same_resource (put p u x) (λ r q. refl) s.resources ∙ ok.resources;
  part_owners = ok.part_owners;
  providers = providers;
  definers = ok.definers;
  good = all-mono (good_app s) (good_app (next s (write p n u x) v))
      (λ r h. write-leaves-good s p n u x v r.app ∙ h) s.rows ok.good;
  definitions = ok.definitions;
  granted = ok.granted;
}

-- ---- what changes the rows' grants and groups only
abbrev with_rows : State → List Row → State
with_rows s rs =
    record {
      rows = rs;
      definitions = s.definitions;
      parts = s.parts;
      resources = s.resources;
      instances = s.instances;
      loans = s.loans;
    }

module _ (s : State) (ok : TablesOk s) where
  marks-tables : (f : Row → Row) → ((r : Row) → (f r).app ≡ r.app)
      → all (λ r. all (good_grant s r.app) (f r).grants) s.rows ≡ true → TablesOk (with_rows s (map f s.rows))
  unfolding manifest_from
  marks-tables f h granted = record {
    parts = ok.parts;
    numbered = ok.numbered;
    resources = ok.resources;
    part_owners = owners (λ k. k.app) s.parts ok.part_owners;
    providers = ok.providers;
    definers = owners (λ d. d.app) s.definitions ok.definers;
    good = all_map (good_app s) f s.rows
        ∙ all-mono (good_app s) (λ r. good (manifest_from s (f r).app))
        (λ r e. ap (λ (a : App). good (manifest_from s a)) (h r) ∙ e) s.rows ok.good;
    definitions = ok.definitions;
    granted = all_map (good_grants after) f s.rows
        ∙ all-mono (λ r. all (good_grant s r.app) (f r).grants) (λ r. all (good_grant after (f r).app) (f r).grants)
        (λ r e. all-mono (good_grant s r.app) (good_grant after (f r).app) (still r) (f r).grants e) s.rows
        granted;
  }
    where
      after : State
      after = with_rows s (map f s.rows)

      owners : {A : Type 0} (app : A → ℕ) (l : List A) → all (λ x. is_installed s.rows (app x)) l ≡ true
          → all (λ x. is_installed (map f s.rows) (app x)) l ≡ true
      owners app l e = all-mono (λ x. is_installed s.rows (app x)) (λ x. is_installed (map f s.rows) (app x))
          (λ x q. installed-map f (λ r. ap (λ (a : App). a.number) (h r)) s.rows (app x) ∙ q) l e

      same-apps : apps_of (map f s.rows) ≡ apps_of s.rows
      same-apps = map-map (λ r. r.app) f s.rows ∙ ap (λ (g : Row → App). map g s.rows) (λ j r. h r j)

      still : (r : Row) (p : ℕ) → good_grant s r.app p ≡ true → good_grant after (f r).app p ≡ true
      still r p e = unfold good_grant known view_of in rw (h r, same-apps) (unfold good_grant known view_of in e)

  -- a new grant is of the app's own row
  grant-tables : (b p : ℕ) → distinct same_app s.rows ≡ true → (a : App) → app_at (apps_of s.rows) b ≡ some a
      → good_grant s a p ≡ true → TablesOk (with_rows s (map (grants_at b (added p)) s.rows))
  unfolding grants_at
  grant-tables b p one a at may = marks-tables (grants_at b (added p)) (λ r. refl)
      (all-change (good_grants s)
      (λ r. all (good_grant s r.app) (grants_at b (added p) r).grants) s.rows
      (λ r m e. cond-all (all (good_grant s r.app)) (eqb (app_number r) b) r.grants (added p r.grants)
      (λ t. all_append (good_grant s r.app) r.grants (p ∷ [])
      ∙ (rw (e, its r m (eqb-true (app_number r) b t)))) e) ok.granted)
    where
      row-found : (r : Row) → Memᴰ r s.rows → app_number r ≡ b → app_at (apps_of s.rows) b ≡ some r.app
      row-found r m e = unfold app_at in (find-map (λ a. eqb a.number b) (λ r. r.app) s.rows
          ∙ rw (found_at app_number b m one e) (unfold map_option in refl))

      its : (r : Row) → Memᴰ r s.rows → app_number r ≡ b → good_grant s r.app p ≡ true
      its r m e =
          let found = row-found r m e in
          let same : a ≡ r.app = cc in
          rw same at may

  revoke-tables : (b p : ℕ) → TablesOk (with_rows s (map (grants_at b (taken p)) s.rows))
  unfolding grants_at
  revoke-tables b p = marks-tables (grants_at b (taken p)) (λ r. refl)
      (all-mono (good_grants s)
      (λ r. all (good_grant s r.app) (grants_at b (taken p) r).grants)
      (λ r e. cond-all (all (good_grant s r.app)) (eqb (app_number r) b) r.grants (taken p r.grants)
      (λ _. all_keep (good_grant s r.app) (good_grant s r.app) (λ q. not (eqb q p)) (λ q h _. h) r.grants e) e)
      s.rows ok.granted)

  groups-tables : (b : ℕ) (f : List ℕ → List ℕ) → TablesOk (with_rows s (map (groups_at b f) s.rows))
  unfolding groups_at
  groups-tables b f = marks-tables (groups_at b f) (λ r. refl) ok.granted

-- ---- what changes only instances and loans
other-tables : (s : State) (is : List Instance) (ls : List Loan) → TablesOk s
    → TablesOk (record {
      rows = s.rows;
      definitions = s.definitions;
      parts = s.parts;
      resources = s.resources;
      instances = is;
      loans = ls;
    })
unfolding manifest_from good_grant known view_of
other-tables s is ls ok = record {
  parts = ok.parts;
  numbered = ok.numbered;
  resources = ok.resources;
  part_owners = ok.part_owners;
  providers = ok.providers;
  definers = ok.definers;
  good = ok.good;
  definitions = ok.definitions;
  granted = ok.granted;
}

pub tables-ok : (L : Limits) (s : State) (x : Action) (g : Ground) (v : ℕ) → answer L (view_of s) x ≡ done g v
    → distinct same_app s.rows ≡ true → TablesOk s → TablesOk (next s x v)
unfolding next apps_after definitions_after parts_after resources_after instances_after loans_after view_of good_grant
tables-ok L s (on_apps (install i m)) g v e one ok =
    install-tables s ok i m v (install-good L (view_of s) g v i m e) (install-new L (view_of s) g v i m e)
    (providers-stay L s (on_apps (install i m)) g v e ok.providers)
tables-ok L s (on_apps (uninstall b)) g v e one ok =
    uninstall-tables s ok b v (providers-stay L s (on_apps (uninstall b)) g v e ok.providers)
tables-ok L s (on_grants (grant b p)) g v e one ok =
    let f = grant-grantable L (view_of s) g v b p e in grant-tables s ok b p one f.0 f.1 f.2
tables-ok L s (on_grants (revoke b p)) g v e one ok = revoke-tables s ok b p
tables-ok L s (on_grants (grant_group b p)) g v e one ok = groups-tables s ok b (added p)
tables-ok L s (on_grants (revoke_group b p)) g v e one ok = groups-tables s ok b (taken p)
tables-ok L s (on_runs z) g v e one ok = other-tables s _ _ ok
tables-ok L s (write p n u y) g v e one ok =
    write-tables s p n u y v ok (providers-stay L s (write p n u y) g v e ok.providers)
tables-ok L s (on_loans z) g v e one ok = other-tables s _ _ ok
tables-ok L s (query z) g v e one ok = other-tables s _ _ ok
