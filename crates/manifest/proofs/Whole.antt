-- Bytes are a good manifest exactly if a reader finds each section good, and the last ends with the bytes.
use Rattle.std.proofs.Common.{◌≡◌, refl, sym, ap, ℕ, ◌+◌, ◌≤◌, List, Bool, true, false, cond, ◌&&◌, length, arith}
use Rattle.std.proofs.Common.{eqb, ltb, Some, None}
use Rattle.std.specs.Bool.{then_some}
use Rattle.std.proofs.Math.Bool.{and_assoc, and-false, and-true}
use borrow.Author.Tests.{le-leb, eqb-true}
use Rattle.manifest.specs.declared.Section.{Section}
use Rattle.manifest.specs.Layout.{u8_at, u16_at, u32_at, define_at, component_at, resource_at, section, after}
use Rattle.manifest.specs.Layout.{uses_place, defines_place, components_place, resources_place, end_place}
use Rattle.manifest.specs.LayoutLaws.{length-entries}
use Rattle.manifest.specs.Good.{uses_rise, defines_rise, components_rise, resources_rise, at_most, good_bytes}
use Rattle.manifest.specs.Steps.{head_good, head_found, counted, found}
use Rattle.manifest.specs.Verdict.{verdict_of}

-- what the reader asks of a section is what the lists ask, where its entries lie within the bytes
pub counted_few : {A : Type 0} (f : List ℕ → ℕ → A) (size most : ℕ) (s : List ℕ) (a : ℕ) (ok : Bool)
    → after size s a ≤ length s → (at_most most (section f size s a) && ok) ≡ (counted size most s a && ok)
counted_few f size most s a ok h = rw (length-entries (f s) size (a + 1) (u8_at s a), le-leb _ _ h)

not_found : {A : Type 0} (x : A) (b : Bool) → None ≡ cond b (Some x) None → b ≡ false
not_found x true e = cc
not_found x false e = refl

pub was_found : {A : Type 0} {y : A} (x : A) (b : Bool) → Some y ≡ cond b (Some x) None → (y ≡ x) × (b ≡ true)
was_found x true e = (cc, refl)
was_found x false e = (cc, cc)

then_some_is : {A : Type 0} (b : Bool) (x : A) → then_some b x ≡ cond b (Some x) None
then_some_is true x = refl
then_some_is false x = refl

module _ (s : List ℕ) where
  -- the entries of each section are as they should be
  abbrev uses_rising : Bool
  uses_rising = uses_rise 0 (section u8_at 1 s uses_place)

  abbrev defines_rising : Bool
  defines_rising = defines_rise 0 (section define_at 3 s (defines_place s))

  abbrev components_rising : Bool
  components_rising = components_rise 0 (section component_at 8 s (components_place s))

  abbrev resources_rising : Bool
  resources_rising =
      resources_rise (section component_at 8 s (components_place s)) 0 (section resource_at 8 s (resources_place s))

  -- what the reader asks
  abbrev pub asked : Bool
  asked =
      head_good s 0
      && (counted 1 32 s uses_place && uses_rising
      && (counted 3 16 s (defines_place s) && defines_rising
      && (counted 8 16 s (components_place s) && components_rising
      && (counted 8 32 s (resources_place s) && resources_rising))))

  pub good_is : (b : Bool) → eqb (end_place s) (length s) ≡ b → good_bytes s ≡ (b && asked)
  good_is false e = rw e
  good_is true e =
      let ends = eqb-true (end_place s) (length s) e in
      rw (
        e,
        le-leb 6 (length s) (omega arith),
        counted_few u8_at 1 32 s uses_place uses_rising (omega arith),
        counted_few define_at 3 16 s (defines_place s) defines_rising (omega arith),
        counted_few component_at 8 16 s (components_place s) components_rising (omega arith),
        counted_few resource_at 8 32 s (resources_place s) resources_rising (omega arith),
      ) (sym (and_assoc (ltb 0 (u16_at s 0)) (ltb 0 (u32_at s 2)) _))

  -- a part that is refused
  refused : asked ≡ false → None ≡ verdict_of s
  refused e = rw (good_is (eqb (end_place s) (length s)) refl, e, and-false (eqb (end_place s) (length s)))

  pub refused_uses : None ≡ found 1 32 s uses_place uses_rising → None ≡ verdict_of s
  refused_uses e = refused (simp (not_found _ _ e, and-false))

  pub refused_defines : None ≡ found 3 16 s (defines_place s) defines_rising → None ≡ verdict_of s
  refused_defines e = refused (simp (not_found _ _ e, and-false))

  pub refused_components : None ≡ found 8 16 s (components_place s) components_rising → None ≡ verdict_of s
  refused_components e = refused (simp (not_found _ _ e, and-false))

  pub refused_resources : None ≡ found 8 32 s (resources_place s) resources_rising → None ≡ verdict_of s
  refused_resources e = refused (simp (not_found _ _ e, and-false))

  -- all parts are found
  pub all_found : {app signer : ℕ} {us ds cs rs : Section} → Some (app, signer) ≡ head_found s 0
      → Some us ≡ found 1 32 s uses_place uses_rising
      → Some ds ≡ found 3 16 s (defines_place s) defines_rising
      → Some cs ≡ found 8 16 s (components_place s) components_rising
      → Some rs ≡ found 8 32 s (resources_place s) resources_rising
      → then_some (eqb (end_place s) (length s))
      (record { app = app; signer = signer; uses = us; defines = ds; components = cs; resources = rs })
      ≡ verdict_of s
  all_found h u d c r =
      let h' = was_found _ _ h in
      let u' = was_found _ _ u in
      let d' = was_found _ _ d in
      let c' = was_found _ _ c in
      let r' = was_found _ _ r in
      rw (
        good_is (eqb (end_place s) (length s)) refl,
        h'.1,
        u'.1,
        d'.1,
        c'.1,
        r'.1,
        and-true (eqb (end_place s) (length s)),
        ap (λ p. p.0) h'.0,
        ap (λ p. p.1) h'.0,
        u'.0,
        d'.0,
        c'.0,
        r'.0,
      ) (then_some_is _ _)
