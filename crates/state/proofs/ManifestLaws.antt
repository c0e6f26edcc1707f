-- The manifest that an app's entries in the tables would make: an install makes the installed one and leaves those of
-- the other apps, an uninstall leaves those of the other apps, and a write leaves every one as good as it was.
use Rattle.std.specs.Prelude.{ℕ, ◌≡◌, refl, Bool, ◌&&◌, ◌||◌, ltb}
use Rattle.std.proofs.Math.Path.{sym, ap}
use Rattle.std.proofs.Common.{◌∙◌, arith}
use Rattle.std.proofs.Math.Bool.{true, false, not}
use Rattle.std.proofs.lemmas.Bool.{false≢true}
use mathlib.Core.List.{List, [], ◌∷◌, ◌++◌, map, append-nil, Memᴰ}
use Rattle.std.proofs.Math.Option.{Option, none, some}
use Rattle.std.proofs.Math.Dec.{eqb}
use borrow.Author.Tests.{eqb-true, ltb-true}
use Rattle.manifest.specs.Layout.{Manifest}
use Rattle.manifest.specs.Good.{rising, good, is_provider, is_provider_of}
use Rattle.manifest.specs.GoodLaws.{and_parts, all_above, good-whatever-values}
use Rattle.manifest.specs.declared.Component.{Component}
use Rattle.manifest.specs.declared.Resource.{Resource}
use Rattle.rules.specs.declared.Definition.{Definition}
use Rattle.rules.specs.declared.Part.{Part}
use Rattle.rules.specs.Lists.{any, all, keep, find, distinct, is_some, test}
use Rattle.rules.specs.ListsLaws.{find-keep, find-mem, and_left, and_right, and-false, and_assoc, both, or-false}
use Rattle.rules.specs.ListsLaws.{eqb_same, by_eqb, any_append, any-map, any-keep, any-cong, any-and, any-mono, any-mem}
use Rattle.rules.specs.ListsLaws.{all-mem, none-mem, none_any, flat, clashing, keep_append, keep-keep, keep-map}
use Rattle.rules.specs.ListsLaws.{keep-mem, keep_all, none_kept, map-map}
use Rattle.rules.specs.Action.{install, uninstall, on_apps, write}
use Rattle.rules.specs.View.{App, app_of, part_of, definition_of}
use Rattle.rules.specs.DoneLaws.{nothing, provided}
use Rattle.state.specs.Tables.{State, part_at, owned_by}
use Rattle.state.specs.Effects.{definitions_after, parts_after, resources_after, put, next}
use Rattle.state.specs.Valid.{is_installed, manifest_from, same_part}
use Rattle.state.specs.Ok.{TablesOk}
use Rattle.state.proofs.LookupLaws.{owner-is}

-- entries that rise are no two the same, where the same have one key
pub rising-distinct : {A : Type 0} (key : A → ℕ) (ok : A → Bool) (same : A → A → Bool)
    → ((x y : A) → same x y ≡ true → key x ≡ key y) → (low : ℕ) (l : List A) → rising key ok low l ≡ true
    → distinct same l ≡ true
unfolding distinct
rising-distinct key ok same h low [] e = refl
rising-distinct key ok same h low (x ∷ l) e = both {a = not (any (same x) l)}
    (rw (flat (any (same x) l) twice))
    (rising-distinct key ok same h (key x) l rest)
  where
    rest : rising key ok (key x) l ≡ true
    rest = (and_parts (ltb low (key x) && ok x) (rising key ok (key x) l) e).1

    twice : any (same x) l ≡ true → ⊥
    twice b =
        let r = any-mem (same x) l b in
        let q = h x r.0 r.2 in
        let above = all-mem (λ y. ltb (key x) (key y)) r.1 (all_above key ok (key x) l rest) in
        let u = ltb-true (key x) (key r.0) above in
        omega arith

-- ---- entries of a table that name their app
-- new ones of app n
module _ {A B : Type 0} (app : A → ℕ) (of : B → A) (n : ℕ) (its : (y : B) → app (of y) ≡ n) (l : List A)
    (new : List B) where
  others-as-before : (b : ℕ) → eqb n b ≡ false
      → keep (λ x. eqb (app x) b) (l ++ map of new) ≡ keep (λ x. eqb (app x) b) l
  others-as-before b d = keep_append (λ x. eqb (app x) b) l (map of new)
      ∙ ap (λ (k : List A). keep (λ x. eqb (app x) b) l ++ k)
      (keep-map (λ x. eqb (app x) b) of new
      ∙ ap (map of) (none_kept (λ y. eqb (app (of y)) b) new (λ y _. rw (its y) d)))
      ∙ append-nil _

  just-the-new : ((x : A) → Memᴰ x l → eqb (app x) n ≡ false)
      → keep (λ x. eqb (app x) n) (l ++ map of new) ≡ map of new
  just-the-new strange = keep_append (λ x. eqb (app x) n) l (map of new)
      ∙ (λ i. none_kept (λ x. eqb (app x) n) l strange i ++ all-kept i)
    where
      all-kept : keep (λ x. eqb (app x) n) (map of new) ≡ map of new
      all-kept = keep-map (λ x. eqb (app x) n) of new
          ∙ ap (map of) (keep_all (λ y. eqb (app (of y)) n) new (λ y _. rw (its y) (eqb_same n)))

-- those of app b gone
module _ {A : Type 0} (app : A → ℕ) (a b : ℕ) (d : eqb a b ≡ false) where
  pub not-gone : (x : A) → not (eqb (app x) b) && eqb (app x) a ≡ eqb (app x) a
  not-gone x = by_eqb (λ t. not (eqb (app x) b) && t ≡ t) (app x) a
      (λ e. rw (e, d))
      (λ _. and-false (not (eqb (app x) b)))

  others-stay : (l : List A)
      → keep (λ x. eqb (app x) a) (keep (λ x. not (eqb (app x) b)) l) ≡ keep (λ x. eqb (app x) a) l
  others-stay l = keep-keep (λ x. eqb (app x) a) (λ x. not (eqb (app x) b)) l
      ∙ keep-mem (λ x. not (eqb (app x) b) && eqb (app x) a) (λ x. eqb (app x) a) l (λ x _. not-gone x)

-- what is none of app b's is found as before
pub found-still : {A : Type 0} (app : A → ℕ) (b : ℕ) (f : A → Bool) (l : List A)
    → any (λ x. eqb (app x) b && f x) l ≡ false → find f (keep (λ x. not (eqb (app x) b)) l) ≡ find f l
found-still app b f l n = find-keep f (λ x. not (eqb (app x) b)) l
    ∙ find-mem (λ x. not (eqb (app x) b) && f x) f l
    (λ x m. go (eqb (app x) b) (f x) (none-mem (λ x. eqb (app x) b && f x) m n))
  where
    go : (s t : Bool) → s && t ≡ false → not s && t ≡ t
    go true t e = sym e
    go false t e = refl

map-id : {A : Type 0} (l : List A) → map (λ x. x) l ≡ l
map-id [] = refl
map-id (x ∷ l) = rw (map-id l)

-- the app owns the provider of the resource
abbrev owns_provider : List Part → ℕ → Resource → Bool
owns_provider ks b r = owned_by ks b r.provider

-- ---- install
module _ (s : State) (ok : TablesOk s) (i : Bool) (m : Manifest) (fine : good m ≡ true)
    (new_app : is_installed s.rows m.app ≡ false)
    (new_parts : any (λ c. is_some (part_at s.parts c.number)) m.components ≡ false) where
  -- no component of the manifest is in the table
  pub not-in-table : (p : ℕ) → any (λ c. eqb c.number p) m.components ≡ true
      → any (λ k. eqb k.component.number p) s.parts ≡ false
  unfolding part_at
  not-in-table p h =
      let c = any-mem (λ c. eqb c.number p) m.components h in
      let z : is_some (part_at s.parts c.0.number) ≡ false =
      none-mem (λ c. is_some (part_at s.parts c.number)) c.1 new_parts in
      let q : c.0.number ≡ p = eqb-true c.0.number p c.2 in
      none_any (λ k. eqb k.component.number p) s.parts (nothing (part_at s.parts p) (rw q at z))

  -- every resource's provider is a component of the manifest
  pub provider-its-own : {r : Resource} → Memᴰ r m.resources
      → any (λ c. eqb c.number r.provider) m.components ≡ true
  provider-its-own {r} h = any-mono (is_provider_of r.provider) (λ c. eqb c.number r.provider)
      (λ (c : Component) e. and_left (eqb c.number r.provider) (is_provider c) e) m.components
      (all-mem (λ r. any (is_provider_of r.provider) m.components) h (provided m fine))

  -- nothing in the tables is the new app's
  stranger : {A : Type 0} (app : A → ℕ) (l : List A) → all (λ x. is_installed s.rows (app x)) l ≡ true → (x : A)
      → Memᴰ x l → eqb (app x) m.app ≡ false
  stranger app l owners x h = flat _ (λ b. clashing
      (rw (eqb-true (app x) m.app b) at (all-mem (λ x. is_installed s.rows (app x)) h owners)) new_app)

  -- who owns what in the longer table
  abbrev parts_then : List Part
  parts_then = s.parts ++ map (part_of m) m.components

  owned-then : (b p : ℕ)
      → owned_by parts_then b p
      ≡ owned_by s.parts b p || (eqb m.app b && any (λ c. eqb c.number p) m.components)
  unfolding owned_by
  owned-then b p = any_append (λ k. eqb k.app b && eqb k.component.number p) s.parts
      (map (part_of m) m.components)
      ∙ ap (λ (t : Bool). owned_by s.parts b p || t)
      (any-map (λ k. eqb k.app b && eqb k.component.number p) (part_of m) m.components
      ∙ any-and (eqb m.app b) (λ c. eqb c.number p) m.components)

  none-owns : (b p : ℕ) → any (λ k. eqb k.component.number p) s.parts ≡ false → owned_by s.parts b p ≡ false
  unfolding owned_by
  none-owns b p e = flat _ (λ h. clashing
      (any-mono (λ k. eqb k.app b && eqb k.component.number p) (λ k. eqb k.component.number p)
      (λ k t. and_right (eqb k.app b) _ t) s.parts h) e)

  owns_none : (p : ℕ) → owned_by s.parts m.app p ≡ false
  unfolding owned_by
  owns_none p = flat _ (λ h.
      let k = any-mem (λ k. eqb k.app m.app && eqb k.component.number p) s.parts h in
      clashing (and_left (eqb k.0.app m.app) _ k.2)
      (stranger (λ k. k.app) s.parts ok.part_owners k.0 k.1))

  pub install-leaves : (a : App) → eqb m.app a.number ≡ false → (v : ℕ)
      → manifest_from (next s (on_apps (install i m)) v) a ≡ manifest_from s a
  unfolding manifest_from next definitions_after parts_after resources_after
  install-leaves a d v = λ j. record {
    app = a.number;
    signer = a.signer;
    uses = a.uses;
    defines = map (λ d. d.define) (definitions j);
    components = map (λ k. k.component) (parts j);
    resources = resources j;
  }
    where
      definitions : keep (λ d. eqb d.app a.number) (s.definitions ++ map (definition_of m) m.defines)
          ≡ keep (λ d. eqb d.app a.number) s.definitions
      definitions = others-as-before (λ d. d.app) (definition_of m) m.app (λ _. refl) s.definitions m.defines
          a.number d

      parts : keep (λ k. eqb k.app a.number) parts_then ≡ keep (λ k. eqb k.app a.number) s.parts
      parts = others-as-before (λ k. k.app) (part_of m) m.app (λ _. refl) s.parts m.components a.number d

      each : (p : ℕ) → owned_by parts_then a.number p ≡ owned_by s.parts a.number p
      each p = owned-then a.number p ∙ rw d (or-false (owned_by s.parts a.number p))

      same : keep (owns_provider parts_then a.number) s.resources
          ≡ keep (owns_provider s.parts a.number) s.resources
      same = keep-mem (owns_provider parts_then a.number)
          (owns_provider s.parts a.number) s.resources (λ r _. each r.provider)

      gone : keep (owns_provider parts_then a.number) m.resources ≡ []
      gone = none_kept (owns_provider parts_then a.number) m.resources
          (λ r h. each r.provider
          ∙ none-owns a.number r.provider (not-in-table r.provider (provider-its-own h)))

      resources : keep (owns_provider parts_then a.number) (s.resources ++ m.resources)
          ≡ keep (owns_provider s.parts a.number) s.resources
      resources = keep_append (owns_provider parts_then a.number) s.resources m.resources
          ∙ (λ j. same j ++ gone j) ∙ append-nil _

  pub install-makes : (v : ℕ) → manifest_from (next s (on_apps (install i m)) v) (app_of i m) ≡ m
  unfolding manifest_from next definitions_after parts_after resources_after
  install-makes v = λ j. record {
    app = m.app;
    signer = m.signer;
    uses = m.uses;
    defines = defines j;
    components = components j;
    resources = resources j;
  }
    where
      defines : map (λ d. d.define)
          (keep (λ d. eqb d.app m.app) (s.definitions ++ map (definition_of m) m.defines)) ≡ m.defines
      defines = ap (map (λ (d : Definition). d.define))
          (just-the-new (λ d. d.app) (definition_of m) m.app (λ _. refl) s.definitions m.defines
          (stranger (λ d. d.app) s.definitions ok.definers))
          ∙ map-map (λ d. d.define) (definition_of m) m.defines ∙ map-id m.defines

      components : map (λ k. k.component) (keep (λ k. eqb k.app m.app) parts_then) ≡ m.components
      components = ap (map (λ (k : Part). k.component))
          (just-the-new (λ k. k.app) (part_of m) m.app (λ _. refl) s.parts m.components
          (stranger (λ k. k.app) s.parts ok.part_owners))
          ∙ map-map (λ k. k.component) (part_of m) m.components ∙ map-id m.components

      each : (p : ℕ) → owned_by parts_then m.app p ≡ any (λ c. eqb c.number p) m.components
      each p = owned-then m.app p ∙ rw (owns_none p, eqb_same m.app)

      old : keep (owns_provider parts_then m.app) s.resources ≡ []
      old = none_kept (owns_provider parts_then m.app) s.resources
          (λ r h. each r.provider ∙ flat _ (λ b. clashing
          (all-mem (λ r. any (λ k. eqb k.component.number r.provider) s.parts) h ok.providers)
          (not-in-table r.provider b)))

      new : keep (owns_provider parts_then m.app) m.resources ≡ m.resources
      new = keep_all (owns_provider parts_then m.app) m.resources
          (λ r h. each r.provider ∙ provider-its-own h)

      resources : keep (owns_provider parts_then m.app) (s.resources ++ m.resources) ≡ m.resources
      resources = keep_append (owns_provider parts_then m.app) s.resources m.resources
          ∙ (λ j. old j ++ new j)

-- ---- uninstall
module _ (s : State) (one : distinct same_part s.parts ≡ true) (b : ℕ) where
  one-owner : (a p : ℕ) → eqb a b ≡ false → owned_by s.parts a p ≡ true → owned_by s.parts b p ≡ false
  unfolding test
  one-owner a p d h = owner-is s.parts one b p ∙ go (part_at s.parts p) (sym (owner-is s.parts one a p) ∙ h)
    where
      go : (o : Option Part) → test o (λ k. eqb k.app a) ≡ true → test o (λ k. eqb k.app b) ≡ false
      go none e = absurd (false≢true e)
      go (some k) e = rw (eqb-true k.app a e) d

  pub uninstall-leaves : (a : App) → eqb a.number b ≡ false → (v : ℕ)
      → manifest_from (next s (on_apps (uninstall b)) v) a ≡ manifest_from s a
  unfolding manifest_from next definitions_after parts_after resources_after
  uninstall-leaves a d v = λ j. record {
    app = a.number;
    signer = a.signer;
    uses = a.uses;
    defines = map (λ d. d.define) (others-stay (λ d. d.app) a.number b d s.definitions j);
    components = map (λ k. k.component) (others-stay (λ k. k.app) a.number b d s.parts j);
    resources = resources j;
  }
    where
      parts-left : List Part
      parts-left = keep (λ k. not (eqb k.app b)) s.parts

      as_before : (p : ℕ) → owned_by parts-left a.number p ≡ owned_by s.parts a.number p
      as_before p = unfold owned_by in
          (any-keep (λ k. eqb k.app a.number && eqb k.component.number p) (λ k. not (eqb k.app b))
          s.parts ∙ any-cong each s.parts)
        where
          each : (k : Part) → not (eqb k.app b) && (eqb k.app a.number && eqb k.component.number p)
              ≡ eqb k.app a.number && eqb k.component.number p
          each k = sym (and_assoc (not (eqb k.app b)) (eqb k.app a.number) (eqb k.component.number p))
              ∙ ap (λ (t : Bool). t && eqb k.component.number p)
              (not-gone (λ (k : Part). k.app) a.number b d k)

      not-removed : (p : ℕ)
          → not (owned_by s.parts b p) && owned_by s.parts a.number p ≡ owned_by s.parts a.number p
      not-removed p = go (owned_by s.parts a.number p) refl
        where
          go : (t : Bool) → owned_by s.parts a.number p ≡ t → not (owned_by s.parts b p) && t ≡ t
          go true e = rw (one-owner a.number p d e)
          go false e = and-false (not (owned_by s.parts b p))

      resources : keep (owns_provider parts-left a.number)
          (keep (λ r. not (owned_by s.parts b r.provider)) s.resources)
          ≡ keep (owns_provider s.parts a.number) s.resources
      resources = keep-keep (owns_provider parts-left a.number)
          (λ r. not (owned_by s.parts b r.provider)) s.resources
          ∙ keep-mem (λ r. not (owned_by s.parts b r.provider) && owned_by parts-left a.number r.provider)
          (owns_provider s.parts a.number) s.resources
          (λ r _. ap (λ (t : Bool). not (owned_by s.parts b r.provider) && t) (as_before r.provider)
          ∙ not-removed r.provider)

-- ---- write
pub write-leaves-good : (s : State) (p n u x v : ℕ) (a : App)
    → good (manifest_from (next s (write p n u x) v) a) ≡ good (manifest_from s a)
unfolding manifest_from next definitions_after parts_after resources_after put
write-leaves-good s p n u x v a =
    rw (keep-map (owns_provider s.parts a.number) (put p u x) s.resources)
    (good-whatever-values (put p u x) (λ r. refl) (λ r. refl) (manifest_from s a))
