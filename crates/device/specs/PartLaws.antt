-- What the component of a number says, where components have numbers of their own: who owns it, and what it is.
use Rattle.std.specs.Prelude.{ℕ, ◌<◌, ◌≡◌, Bool, not, ◌&&◌, ◌||◌, cond, ltb}
use Rattle.std.proofs.Math.Path.{refl, sym, ap}
use Rattle.std.proofs.Common.{◌∙◌, arith}
use Rattle.std.proofs.Math.Bool.{true, false}
use mathlib.Core.List.{List, [], ◌∷◌, map}
use Rattle.std.proofs.Math.Option.{Option, none, some}
use borrow.Author.Tests.{ne_eqb, eqb-true, not-true}
use Rattle.std.proofs.Math.Dec.{eqb}
use Rattle.manifest.specs.declared.Component.{Component}
use Rattle.manifest.specs.declared.Resource.{Resource}
use Rattle.manifest.specs.Good.{is_provider, is_provider_of, good_resource}
use Rattle.rules.specs.declared.Part.{Part}
use Rattle.rules.specs.Lists.{any, find, keep, distinct, or_else, test}
use Rattle.rules.specs.ListsLaws.{eqb_same, and_left, and_right, and-true, and-false, or-false, flat}
use Rattle.rules.specs.ListsLaws.{clashing, any-mono, any-map, any-keep, any-cong, find-any, none_any}
use Rattle.state.specs.Tables.{part_at, owned_by}
use Rattle.state.specs.Valid.{same_part}
use Rattle.state.specs.Stored.{zero_part}
use Rattle.device.specs.Tests.{part_or, components_of}

-- some component of app a has the number c and passes: the one of that number does
module _ (g : Component → Bool) (a : ℕ) (real : 0 < a) (c : ℕ) where
  abbrev its : Part → Bool
  its k = eqb k.app a && (eqb k.component.number c && g k.component)

  pub owned-such : (ks : List Part) → distinct same_part ks ≡ true
      → any its ks ≡ eqb (part_or ks c).app a && g (part_or ks c).component
  unfolding distinct part_at find or_else
  owned-such [] d = rw (ne_eqb 0 a (λ e. omega arith))
  owned-such (k ∷ ks) d = go (eqb k.component.number c) refl
      (owned-such ks (and_right (not (any (same_part k) ks)) (distinct same_part ks) d))
    where
      -- no later one has the number
      later : eqb k.component.number c ≡ true → any its ks ≡ false
      later q = flat (any its ks) (λ h. clashing
          (any-mono its (same_part k)
          (λ j e. rw (
            eqb-true k.component.number c q,
            eqb-true j.component.number c
                (and_left (eqb j.component.number c) (g j.component) (and_right (eqb j.app a) _ e)),
          ) (eqb_same c)) ks h)
          (not-true (any (same_part k) ks) (and_left (not (any (same_part k) ks)) (distinct same_part ks) d)))

      go : (t : Bool) → eqb k.component.number c ≡ t
          → any its ks ≡ eqb (part_or ks c).app a && g (part_or ks c).component
          → (eqb k.app a && (t && g k.component)) || any its ks
          ≡ eqb (or_else zero_part (cond t (some k) (find (λ k. eqb k.component.number c) ks))).app a
          && g (or_else zero_part (cond t (some k) (find (λ k. eqb k.component.number c) ks))).component
      go true q h = rw (later q) (or-false (eqb k.app a && g k.component))
      go false q h = rw (and-false (eqb k.app a)) h

module _ (ks : List Part) (one : distinct same_part ks ≡ true) (a : ℕ) (real : 0 < a) where
  pub owned : (c : ℕ) → owned_by ks a c ≡ eqb (part_or ks c).app a
  unfolding owned_by
  owned c = any-cong (λ k. ap (λ (t : Bool). eqb k.app a && t) (sym (and-true (eqb k.component.number c)))) ks
      ∙ owned-such (λ _. true) a real c ks one ∙ and-true (eqb (part_or ks c).app a)

  -- the resource of a provider that the app owns
  pub good-if-provided : (r : Resource) → eqb (part_or ks r.provider).app a ≡ true
      → good_resource (components_of a ks) r ≡ ltb 0 r.uri && is_provider (part_or ks r.provider).component
  good-if-provided r o = ap (λ (t : Bool). ltb 0 r.uri && t)
      (any-map (is_provider_of r.provider) (λ k. k.component) (keep (λ k. eqb k.app a) ks)
      ∙ any-keep (λ k. is_provider_of r.provider k.component) (λ k. eqb k.app a) ks
      ∙ owned-such is_provider a real r.provider ks one ∙ rw o)

-- a test of the component of a number, where there is one
pub part-test : (f : Part → Bool) (ks : List Part) (c : ℕ)
    → test (part_at ks c) f ≡ any (λ k. eqb k.component.number c) ks && f (part_or ks c)
unfolding part_at
part-test f ks c = go (find (λ k. eqb k.component.number c) ks) refl
  where
    go : (o : Option Part) → find (λ k. eqb k.component.number c) ks ≡ o
        → test o f ≡ any (λ k. eqb k.component.number c) ks && f (or_else zero_part o)
    go none e = unfold test in rw (none_any (λ k. eqb k.component.number c) ks e)
    go (some k) e = unfold test or_else in rw (find-any (λ k. eqb k.component.number c) ks k e)

-- where a missing one would fail
pub part-test-or : (f : Part → Bool) → f zero_part ≡ false → (ks : List Part) (c : ℕ)
    → test (part_at ks c) f ≡ f (part_or ks c)
part-test-or f z ks c = go (part_at ks c)
  where
    go : (o : Option Part) → test o f ≡ f (or_else zero_part o)
    go none = unfold test or_else in sym z
    go (some k) = unfold test or_else in refl

pub map_same : {A : Type 0} (l : List A) → map (λ x. x) l ≡ l
map_same [] = refl
map_same (x ∷ l) = ap (λ (m : List _). x ∷ m) (map_same l)
