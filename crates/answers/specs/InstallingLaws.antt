-- What the verdict on a manifest's bytes tells: they are no good manifest, or its sections stand where it says.
use Rattle.std.specs.Prelude.{ℕ, ◌+◌, ◌*◌, ◌≤◌, ◌≡◌, refl, Bool, true, false, not, ◌||◌, cond, List, length}
use Rattle.std.specs.Prelude.{eqb, leb, ltb}
use Rattle.std.proofs.Common.{sym, ap, ◌∙◌, arith, eqb-true, le-leb}
use Rattle.manifest.specs.declared.Sections.{Sections}
use Rattle.std.specs.Prelude.{Some, None}
use Rattle.manifest.specs.Layout.{laid_out, manifest_of, u8_at, entries, define_at, component_at, resource_at}
use Rattle.manifest.specs.Layout.{defines_place}
use Rattle.manifest.specs.Layout.{components_place, resources_place, end_place}
use Rattle.manifest.specs.LayoutLaws.{length-entries}
use Rattle.manifest.specs.Good.{good, good_bytes}
use Rattle.manifest.specs.GoodLaws.{and_parts}
use Rattle.manifest.specs.ImageLaws.{good-manifest_of}
use Rattle.manifest.specs.Verdict.{verdict_of, sections_of, entry_at}
use Rattle.rules.specs.Lists.{any, is_some}
use Rattle.rules.specs.Limits.{large}
use Rattle.rules.specs.View.{View}
use Rattle.rules.specs.Permissions.{known}
use Rattle.rules.specs.Refusals.{clash, crowded}

pub malformed : (s : List ℕ) → verdict_of s ≡ None → not (good (manifest_of s)) ≡ true
malformed s e = rw (good-manifest_of s) (go (good_bytes s) e)
  where
    go : (t : Bool) → cond t (Some (sections_of s)) None ≡ None → not t ≡ true
    go true h = absurd (let z : ◌≡◌ {A = ℕ} 0 1 = cc in omega arith)
    go false h = refl

pub record Read (s : List ℕ) (m : Sections) : Type 0 where
  pub fine : not (good (manifest_of s)) ≡ false
  pub sections : m ≡ sections_of s
  pub whole : manifest_of s ≡ laid_out s
  pub ends : end_place s ≡ length s

whole-if : (s : List ℕ) → eqb (end_place s) (length s) ≡ true → manifest_of s ≡ laid_out s
unfolding manifest_of
whole-if s l = rw l

pub read-good : (s : List ℕ) (m : Sections) → verdict_of s ≡ Some m → Read s m
read-good s m e =
    let g = go (good_bytes s) e in
    let l : eqb (end_place s) (length s) ≡ true =
    (and_parts (eqb (end_place s) (length s)) (good (laid_out s)) g.0).0 in
    record {
      fine = ap not (good-manifest_of s ∙ g.0);
      sections = sym g.1;
      whole = whole-if s l;
      ends = eqb-true (end_place s) (length s) l;
    }
  where
    go : (t : Bool) → cond t (Some (sections_of s)) None ≡ Some m → (t ≡ true) × (sections_of s ≡ m)
    go true h = (refl, cc)
    go false h = absurd (let z : ◌≡◌ {A = ℕ} 0 1 = cc in omega arith)

module _ {s : List ℕ} {m : Sections} (r : Read s m) where
  pub defines-fit : m.defines.first + 3 * m.defines.count ≤ length s
  defines-fit =
      let a : m.defines.first ≡ defines_place s + 1 = ap (λ x. x.defines.first) r.sections in
      let b : m.defines.count ≡ u8_at s (defines_place s) = ap (λ x. x.defines.count) r.sections in
      omega (arith, r.ends)

  pub components-fit : m.components.first + 8 * m.components.count ≤ length s
  components-fit =
      let a : m.components.first ≡ components_place s + 1 = ap (λ x. x.components.first) r.sections in
      let b : m.components.count ≡ u8_at s (components_place s) = ap (λ x. x.components.count) r.sections in
      omega (arith, r.ends)

  pub clash-is : (v : View)
      → clash v (laid_out s)
      ≡ is_some (v.app m.app)
      || (any (λ c. is_some (v.part c.number))
      (entries (component_at s) 8 m.components.first m.components.count)
      || any (λ d. is_some (known v d.permission))
      (entries (define_at s) 3 m.defines.first m.defines.count))
  unfolding clash
  clash-is v = rw r.sections

  pub crowded-is : (v : View)
      → crowded large v (laid_out s)
      ≡ leb 16 v.apps
      || (ltb 64 (v.components + m.components.count) || ltb 128 (v.resources + m.resources.count))
  unfolding crowded
  crowded-is v =
      rw (
        r.sections,
        length-entries (component_at s) 8 (components_place s + 1) (u8_at s (components_place s)),
        length-entries (resource_at s) 8 (resources_place s + 1) (u8_at s (resources_place s)),
      )

-- an entry that is all there
pub entry-there : {A : Type 0} (zeros : A) (f : List ℕ → ℕ → A) (size : ℕ) (s : List ℕ) (a : ℕ) → a + size ≤ length s
    → entry_at zeros f size s a ≡ f s a
entry-there zeros f size s a h = rw (le-leb (a + size) (length s) h)
