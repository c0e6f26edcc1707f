-- Reading and writing a manifest undo each other; a good manifest's image consists of bytes, at most 474; and bytes are
-- accepted exactly if they are the image of a good manifest.
use Rattle.std.specs.Prelude.{◌≡◌, Bool, true, false, cond, not, ◌||◌, ◌↔◌, ℕ, zero, suc, ◌+◌, ◌*◌, ◌/◌, ◌%◌, ◌≤◌, ◌<◌}
use Rattle.std.specs.Prelude.{drop, eqb, leb}
use Rattle.std.proofs.Math.Path.{refl, sym, ap, ap₂}
use Rattle.std.proofs.Common.{◌∙◌, add-zero, add_assoc, mul-suc, mul-le-mul_left, add-one, length-append}
use Rattle.std.proofs.Common.{get_or-append-add, drop-cons}
use mathlib.Core.List.{List, [], ◌∷◌, ◌++◌, append_assoc, append-nil}
use Rattle.std.proofs.Math.Bool.{◌&&◌}
use native.Mathlib.Omega.{arith}
use borrow.Author.Tests.{eq-eqb, eqb-true, leb-true, ltb-true, lt-ltb}
use Rattle.std.proofs.Math.ListN.{length}
use Rattle.std.proofs.Math.Seq.{drop-length}
use Rattle.manifest.specs.declared.Define.{Define}
use Rattle.manifest.specs.declared.Component.{Component}
use Rattle.manifest.specs.declared.Resource.{Resource}
use Rattle.manifest.specs.Layout.{Manifest, laid_out, blank, manifest_of, u8_at, u16_at, u32_at, define_at}
use Rattle.manifest.specs.Layout.{component_at, resource_at, entries, section, after, uses_place, defines_place}
use Rattle.manifest.specs.Layout.{components_place, resources_place, end_place}
use Rattle.manifest.specs.LayoutLaws.{length-entries}
use Rattle.manifest.specs.Good.{all, at_most, good_use, uses_rise, good_define}
use Rattle.manifest.specs.Good.{defines_rise, is_provider, good_component, components_rise}
use Rattle.manifest.specs.Good.{resources_rise, good, good_bytes}
use Rattle.manifest.specs.GoodLaws.{and_parts, good-parts, all-rising}
use Rattle.manifest.specs.Image.{le16, le32, use_bytes, define_bytes, component_bytes, resource_bytes, joined}
use Rattle.manifest.specs.Image.{section_bytes, image, is_byte, is16, is32, resource_in_width, in_width}

-- past a prefix, numbers stand where they stood without it
module _ (p q : List ℕ) where
  u8-past : {a : ℕ} (b : ℕ) → a ≡ length p + b → u8_at (p ++ q) a ≡ u8_at q b
  u8-past {a} b e = rw e (get_or-append-add p q b 0)

  u16-past : {a : ℕ} (b : ℕ) → a ≡ length p + b → u16_at (p ++ q) a ≡ u16_at q b
  u16-past {a} b e =
      let e1 : a + 1 ≡ length p + (b + 1) = omega arith in
      ap₂ (λ (x y : ℕ). x + 256 * y) (u8-past b e) (u8-past (b + 1) e1)

  u32-past : {a : ℕ} (b : ℕ) → a ≡ length p + b → u32_at (p ++ q) a ≡ u32_at q b
  u32-past {a} b e =
      let e2 : a + 2 ≡ length p + (b + 2) = omega arith in
      ap₂ (λ (x y : ℕ). x + 65536 * y) (u16-past b e) (u16-past (b + 2) e2)

  on : (k j : ℕ) → length p + k + j ≡ length p + (k + j)
  on k j = omega arith

  define-past : (k : ℕ) → define_at (p ++ q) (length p + k) ≡ define_at q k
  define-past k = λ i. record {
    permission = u8-past k refl i;
    level = u8-past (k + 1) (on k 1) i;
    group = u8-past
        (k + 2) (on k 2) i;
  }

  component-past : (k : ℕ) → component_at (p ++ q) (length p + k) ≡ component_at q k
  component-past k =
      λ i. record {
        number = u16-past k refl i;
        kind = u8-past (k + 2) (on k 2) i;
        exported = u8-past (k + 3) (on k 3) i;
        shares = u8-past (k + 4) (on k 4) i;
        start = u8-past (k + 5) (on k 5) i;
        read = u8-past (k + 6) (on k 6) i;
        write = u8-past (k + 7) (on k 7) i;
      }

  resource-past : (k : ℕ) → resource_at (p ++ q) (length p + k) ≡ resource_at q k
  resource-past k =
      λ i. record {
        provider = u16-past k refl i;
        uri = u16-past (k + 2) (on k 2) i;
        value = u32-past (k + 4)
            (on k 4) i;
      }

-- what was written is read
u16-here : (n : ℕ) → n % 256 + 256 * (n / 256) ≡ n
u16-here n = omega arith

u32-here : (n : ℕ) → n % 65536 % 256 + 256 * (n % 65536 / 256) + 65536 * (n / 65536 % 256 + 256 * (n / 65536 / 256)) ≡ n
u32-here n = omega arith

component-here : (c : Component) (rest : List ℕ) → component_at (component_bytes c ++ rest) 0 ≡ c
component-here c rest =
    λ i. record {
      number = u16-here c.number i;
      kind = c.kind;
      exported = c.exported;
      shares = c.shares;
      start = c.start;
      read = c.read;
      write = c.write;
    }

resource-here : (r : Resource) (rest : List ℕ) → resource_at (resource_bytes r ++ rest) 0 ≡ r
resource-here r rest =
    λ i. record { provider = u16-here r.provider i; uri = u16-here r.uri i; value = u32-here r.value i }

-- entries of size bytes each take so many bytes
length-joined : {A : Type 0} (w : A → List ℕ) (size : ℕ) → ((x : A) → length (w x) ≡ size) → (xs : List A)
    → length (joined w xs) ≡ size * length xs
length-joined w size long [] = omega arith
length-joined w size long (x ∷ xs) =
    rw (length-append (w x) (joined w xs), long x, length-joined w size long xs, mul-suc size (length xs)) (omega arith)

-- A section that is written is read back.
-- f reads an entry of size bytes, and w writes one: past a prefix f reads what it reads without it, and what w wrote
module _ {A : Type 0} (f : List ℕ → ℕ → A) (size : ℕ) (w : A → List ℕ)
    (long : (x : A) → length (w x) ≡ size)
    (past : (p q : List ℕ) (k : ℕ) → f (p ++ q) (length p + k) ≡ f q k)
    (here : (x : A) (rest : List ℕ) → f (w x ++ rest) 0 ≡ x) where
  entries-past : (p q : List ℕ) (k n : ℕ) → entries (f (p ++ q)) size (length p + k) n ≡ entries (f q) size k n
  entries-past p q k zero = refl
  entries-past p q k (suc n) =
      ap₂ ◌∷◌ (past p q k) (rw (add_assoc (length p) k size) (entries-past p q (k + size) n))

  entries-back : (xs : List A) (rest : List ℕ) → entries (f (joined w xs ++ rest)) size 0 (length xs) ≡ xs
  entries-back [] rest = refl
  entries-back (x ∷ xs) rest =
      let q = joined w xs ++ rest in
      let e : 0 + size ≡ length (w x) + 0 = omega (arith, long x) in
      ap (λ (s : List ℕ). entries (f s) size 0 (suc (length xs))) (append_assoc (w x) (joined w xs) rest)
      ∙ rw e (ap₂ ◌∷◌ (here x q) (entries-past (w x) q 0 (length xs) ∙ entries-back xs rest))

  -- after a prefix p, before any rest
  module _ (p rest : List ℕ) (xs : List A) where
    abbrev whole : List ℕ
    whole = p ++ (section_bytes w xs ++ rest)

    count-back : u8_at whole (length p) ≡ length xs
    count-back = u8-past p (section_bytes w xs ++ rest) 0 (sym (add-zero (length p)))

    pub section-back : section f size whole (length p) ≡ xs
    section-back =
        let q = section_bytes w xs ++ rest in
        rw count-back (entries-past p q 1 (length xs)
        ∙ entries-past (length xs ∷ []) (joined w xs ++ rest) 0 (length xs) ∙ entries-back xs rest)

    pub after-back : after size whole (length p) ≡ length (p ++ section_bytes w xs)
    after-back = rw (count-back, length-append p (section_bytes w xs), length-joined w size long xs) (omega arith)

-- what a manifest's parts are, with what stands before each
abbrev head : Manifest → List ℕ
head m = le16 m.app ++ le32 m.signer

module _ (m : Manifest) where
  U : List ℕ
  U = section_bytes use_bytes m.uses

  D : List ℕ
  D = section_bytes define_bytes m.defines

  C : List ℕ
  C = section_bytes component_bytes m.components

  R : List ℕ
  R = section_bytes resource_bytes m.resources

  H : List ℕ
  H = head m

  S : List ℕ
  S = H ++ (U ++ (D ++ (C ++ R)))

  -- the same bytes, split before each section
  S-d : S ≡ (H ++ U) ++ (D ++ (C ++ R))
  unfolding S
  S-d = simp append_assoc

  S-c : S ≡ ((H ++ U) ++ D) ++ (C ++ R)
  unfolding S
  S-c = simp append_assoc

  S-r : S ≡ (((H ++ U) ++ D) ++ C) ++ (R ++ [])
  unfolding S
  S-r = simp (append_assoc, append-nil)

  d-at : defines_place S ≡ length (H ++ U)
  unfolding S H U
  d-at = after-back u8_at 1 use_bytes (λ x. refl) (λ p q k. u8-past p q k refl) (λ x rest. refl) H (D
      ++ (C ++ R)) m.uses

  c-at : components_place S ≡ length ((H ++ U) ++ D)
  unfolding D
  c-at = ap (after 3 S) d-at
      ∙ rw S-d (after-back define_at 3 define_bytes (λ x. refl) define-past (λ x rest. refl) (H ++ U) (C
      ++ R) m.defines)

  r-at : resources_place S ≡ length (((H ++ U) ++ D) ++ C)
  unfolding C
  r-at = ap (after 8 S) c-at
      ∙ rw S-c (after-back component_at 8 component_bytes (λ x. refl) component-past component-here ((H ++ U)
      ++ D) R m.components)

  e-at : end_place S ≡ length ((((H ++ U) ++ D) ++ C) ++ R)
  unfolding R
  e-at = ap (after 8 S) r-at
      ∙ rw S-r (after-back resource_at 8 resource_bytes (λ x. refl) resource-past resource-here (((H ++ U) ++ D)
      ++ C) [] m.resources)

  ends : end_place S ≡ length S
  unfolding S
  ends =
      let e : (((H ++ U) ++ D) ++ C) ++ R ≡ S = simp append_assoc in
      e-at ∙ ap length e

  uses-are : section u8_at 1 S uses_place ≡ m.uses
  unfolding S H U
  uses-are = section-back u8_at 1 use_bytes (λ x. refl) (λ p q k. u8-past p q k refl) (λ x rest. refl) H (D
      ++ (C ++ R)) m.uses

  defines-are : section define_at 3 S (defines_place S) ≡ m.defines
  unfolding D
  defines-are = ap (section define_at 3 S) d-at
      ∙ rw S-d (section-back define_at 3 define_bytes (λ x. refl) define-past (λ x rest. refl) (H ++ U) (C
      ++ R) m.defines)

  components-are : section component_at 8 S (components_place S) ≡ m.components
  unfolding C
  components-are = ap (section component_at 8 S) c-at
      ∙ rw S-c (section-back component_at 8 component_bytes (λ x. refl) component-past component-here ((H ++ U)
      ++ D) R m.components)

  resources-are : section resource_at 8 S (resources_place S) ≡ m.resources
  unfolding R
  resources-are = ap (section resource_at 8 S) r-at
      ∙ rw S-r (section-back resource_at 8 resource_bytes (λ x. refl) resource-past resource-here (((H ++ U) ++ D)
      ++ C) [] m.resources)

  pub laid_out-image : laid_out (image m) ≡ m
  unfolding S U D C R H
  laid_out-image =
      λ i. record {
        app = u16-here m.app i;
        signer = u32-here m.signer i;
        uses = uses-are i;
        defines = defines-are i;
        components = components-are i;
        resources = resources-are i;
      }

  pub image-ends : end_place (image m) ≡ length (image m)
  unfolding S U D C R H
  image-ends = ends

  -- so a manifest's bytes are good exactly if the manifest is
  pub good-image : good_bytes (image m) ≡ good m
  unfolding S U D C R H
  good-image = ap₂ ◌&&◌ (eq-eqb (end_place (image m)) (length (image m)) image-ends) (ap good laid_out-image)

-- Bytes that are laid out to their end are the bytes of what they say.
module _ (s : List ℕ) (bytes : (k : ℕ) → u8_at s k < 256) where
  one : (a b : ℕ) → a + 1 ≡ b → a < length s → drop a s ≡ u8_at s a ∷ drop b s
  one a b e h = drop-cons s a 0 h ∙ ap (λ (k : ℕ). u8_at s a ∷ drop k s) (sym (add-one a) ∙ e)

  lo : (a b : ℕ) → (u8_at s a + 256 * u8_at s b) % 256 ≡ u8_at s a
  lo a b = omega (arith, bytes a, bytes b)

  hi : (a b : ℕ) → (u8_at s a + 256 * u8_at s b) / 256 ≡ u8_at s b
  hi a b = omega (arith, bytes a, bytes b)

  module _ (a b c d : ℕ) where
    long : ℕ
    long = u8_at s a + 256 * u8_at s b + 65536 * (u8_at s c + 256 * u8_at s d)

    low : long % 65536 ≡ u8_at s a + 256 * u8_at s b
    unfolding long
    low = omega (arith, bytes a, bytes b)

    high : long / 65536 ≡ u8_at s c + 256 * u8_at s d
    unfolding long
    high = omega (arith, bytes a, bytes b)

  use-there : (a : ℕ) → a + 1 ≤ length s → drop a s ≡ use_bytes (u8_at s a) ++ drop (a + 1) s
  use-there a h = one a (a + 1) refl (omega arith)

  define-there : (a : ℕ) → a + 3 ≤ length s → drop a s ≡ define_bytes (define_at s a) ++ drop (a + 3) s
  define-there a h =
      rw (
        one a (a + 1) refl (omega arith),
        one (a + 1) (a + 2) (omega arith) (omega arith),
        one (a + 2) (a + 3)
            (omega arith) (omega arith),
      )

  eight : (a : ℕ) → a + 8 ≤ length s
      → drop a s
      ≡ u8_at s a ∷ u8_at s (a + 1) ∷ u8_at s (a + 2) ∷ u8_at s (a + 3) ∷ u8_at s (a + 4) ∷ u8_at s (a + 5) ∷ u8_at s
      (a + 6) ∷ u8_at s (a + 7) ∷ drop (a + 8) s
  eight a h =
      rw (
        one a (a + 1) refl (omega arith),
        one (a + 1) (a + 2) (omega arith) (omega arith),
        one (a + 2) (a + 3) (omega arith) (omega arith),
        one (a + 3) (a + 4) (omega arith) (omega arith),
        one (a + 4) (a + 5) (omega arith) (omega arith),
        one (a + 5) (a + 6) (omega arith) (omega arith),
        one (a + 6) (a + 7) (omega arith) (omega arith),
        one (a + 7) (a + 8) (omega arith) (omega arith),
      )

  component-there : (a : ℕ) → a + 8 ≤ length s → drop a s ≡ component_bytes (component_at s a) ++ drop (a + 8) s
  component-there a h = rw (lo a (a + 1), hi a (a + 1)) (eight a h)

  resource-there : (a : ℕ) → a + 8 ≤ length s → drop a s ≡ resource_bytes (resource_at s a) ++ drop (a + 8) s
  unfolding long
  resource-there a h =
      let l : u32_at s (a + 4) % 65536 ≡ u16_at s (a + 4) = low (a + 4) (a + 4 + 1) (a + 4 + 2) (a + 4 + 2 + 1) in
      let g : u32_at s (a + 4) / 65536 ≡ u16_at s (a + 4 + 2) = high (a + 4) (a + 4 + 1) (a + 4 + 2) (a + 4 + 2 + 1) in
      let e3 : a + 2 + 1 ≡ a + 3 = omega arith in
      let e5 : a + 4 + 1 ≡ a + 5 = omega arith in
      let e6 : a + 4 + 2 ≡ a + 6 = omega arith in
      let e7 : a + 6 + 1 ≡ a + 7 = omega arith in
      rw (
        l,
        g,
        lo a (a + 1),
        hi a (a + 1),
        lo (a + 2) (a + 2 + 1),
        hi (a + 2) (a + 2 + 1),
        lo (a + 4) (a + 4 + 1),
        hi
            (a + 4) (a + 4 + 1),
        lo (a + 4 + 2) (a + 4 + 2 + 1),
        hi (a + 4 + 2) (a + 4 + 2 + 1),
        e3,
        e5,
        e6,
        e7,
      )
      (eight a h)

  module _ {A : Type 0} (f : List ℕ → ℕ → A) (size : ℕ) (w : A → List ℕ)
      (there : (a : ℕ) → a + size ≤ length s → drop a s ≡ w (f s a) ++ drop (a + size) s) where
    entries-there : (a n : ℕ) → a + size * n ≤ length s → drop a s ≡ joined w (entries (f s) size a n)
        ++ drop (a + size * n) s
    entries-there a zero h =
        let e : a ≡ a + size * 0 = omega arith in
        ap (λ (k : ℕ). drop k s) e
    entries-there a (suc n) h =
        let m = mul-suc size n in
        let e : a + size * suc n ≡ a + size + size * n = omega arith in
        rw (e, append_assoc (w (f s a))) (there a (omega arith)
        ∙ ap (λ (l : List ℕ). w (f s a) ++ l) (entries-there (a + size) n (omega arith)))

    section-there : (a : ℕ) → after size s a ≤ length s → drop a s ≡ section_bytes w (section f size s a)
        ++ drop (after size s a) s
    section-there a h =
        rw (length-entries (f s) size (a + 1) (u8_at s a)) (one a (a + 1) refl (omega arith)
        ∙ ap (λ (l : List ℕ). u8_at s a ∷ l) (entries-there (a + 1) (u8_at s a) h))

  six : 6 ≤ length s → s ≡ u8_at s 0 ∷ u8_at s 1 ∷ u8_at s 2 ∷ u8_at s 3 ∷ u8_at s 4 ∷ u8_at s 5 ∷ drop 6 s
  six h =
      one 0 1 refl (omega arith)
      ∙ ap (λ (l : List ℕ). u8_at s 0 ∷ l) (one 1 2 refl (omega arith)
      ∙ ap (λ (l : List ℕ). u8_at s 1 ∷ l) (one 2 3 refl (omega arith)
      ∙ ap (λ (l : List ℕ). u8_at s 2 ∷ l) (one 3 4 refl (omega arith)
      ∙ ap (λ (l : List ℕ). u8_at s 3 ∷ l) (one 4 5 refl (omega arith)
      ∙ ap (λ (l : List ℕ). u8_at s 4 ∷ l) (one 5 6 refl (omega arith))))))

  sections : end_place s ≡ length s
      → drop 6 s ≡ section_bytes use_bytes (laid_out s).uses
      ++ (section_bytes define_bytes (laid_out s).defines
      ++ (section_bytes component_bytes (laid_out s).components ++ section_bytes resource_bytes (laid_out s).resources))
  sections e =
      let none : drop (end_place s) s ≡ [] = rw e (drop-length s) in
      let last = section-there resource_at 8 resource_bytes resource-there (resources_place s) (omega arith)
      ∙ ap (λ (l : List ℕ). section_bytes resource_bytes (laid_out s).resources ++ l) none ∙ append-nil _ in
      section-there u8_at 1 use_bytes use-there 6 (omega arith)
      ∙ ap (λ (l : List ℕ). section_bytes use_bytes (laid_out s).uses
      ++ l) (section-there define_at 3 define_bytes define-there (defines_place s) (omega arith)
      ∙ ap (λ (l : List ℕ). section_bytes define_bytes (laid_out s).defines
      ++ l) (section-there component_at 8 component_bytes component-there (components_place s) (omega arith)
      ∙ ap (λ (l : List ℕ). section_bytes component_bytes (laid_out s).components ++ l) last))

  pub image-laid_out : end_place s ≡ length s → image (laid_out s) ≡ s
  unfolding long
  image-laid_out e =
      let l : u32_at s 2 % 65536 ≡ u16_at s 2 = low 2 3 4 5 in
      let g : u32_at s 2 / 65536 ≡ u16_at s 4 = high 2 3 4 5 in
      let t = six (omega arith)
      ∙ ap (λ (l : List ℕ). u8_at s 0 ∷ u8_at s 1 ∷ u8_at s 2 ∷ u8_at s 3 ∷ u8_at s 4 ∷ u8_at s 5 ∷ l) (sections e) in
      sym (rw (l, g, lo 0 1, hi 0 1, lo 2 3, hi 2 3, lo 4 5, hi 4 5) t)

-- ---- the image consists of bytes
all_append : {A : Type 0} (ok : A → Bool) (xs ys : List A) → all ok xs ≡ true → all ok ys ≡ true → all ok (xs ++ ys)
    ≡ true
all_append ok [] ys h k = k
all_append ok (x ∷ xs) ys h k =
    let t = and_parts (ok x) (all ok xs) h in
    rw t.0 (all_append ok xs ys t.1 k)

byte : (n : ℕ) → n < 256 → is_byte n ≡ true
byte n h = lt-ltb n 256 h

two_bytes : (n : ℕ) → is16 n ≡ true → all is_byte (le16 n) ≡ true
two_bytes n h =
    let k = ltb-true n 65536 h in
    rw (byte (n % 256) (omega arith), byte (n / 256) (omega arith))

four_bytes : (n : ℕ) → is32 n ≡ true → all is_byte (le32 n) ≡ true
four_bytes n h =
    let k = ltb-true n 4294967296 h in
    all_append is_byte (le16 (n % 65536)) (le16 (n / 65536))
    (two_bytes (n % 65536) (lt-ltb (n % 65536) 65536 (omega arith)))
    (two_bytes (n / 65536) (lt-ltb (n / 65536) 65536 (omega arith)))

-- a section is bytes if its count is below 256 and each entry's bytes are bytes
module _ {A : Type 0} (w : A → List ℕ) (ok : A → Bool) (are : (x : A) → ok x ≡ true → all is_byte (w x) ≡ true) where
  joined_bytes : (xs : List A) → all ok xs ≡ true → all is_byte (joined w xs) ≡ true
  joined_bytes [] h = refl
  joined_bytes (x ∷ xs) h =
      let t = and_parts (ok x) (all ok xs) h in
      all_append is_byte (w x) (joined w xs) (are x t.0) (joined_bytes xs t.1)

  section-bytes : (most : ℕ) (xs : List A) → most < 256 → at_most most xs ≡ true → all ok xs ≡ true
      → all is_byte (section_bytes w xs) ≡ true
  section-bytes most xs small few h =
      let k = leb-true (length xs) most few in
      rw (byte (length xs) (omega arith)) (joined_bytes xs h)

-- two tests at once
all_both : {A : Type 0} (f g : A → Bool) (xs : List A) → all f xs ≡ true → all g xs ≡ true → all (λ x. f x && g x) xs
    ≡ true
all_both f g [] h k = refl
all_both f g (x ∷ xs) h k =
    let t = and_parts (f x) (all f xs) h in
    let u = and_parts (g x) (all g xs) k in
    rw (t.0, u.0) (all_both f g xs t.1 u.1)

use-is-bytes : (p : ℕ) → good_use p ≡ true → all is_byte (use_bytes p) ≡ true
use-is-bytes p h =
    let k = leb-true p 63 h in
    rw (byte p (omega arith))

-- the parts of a run of tests after the first
parts-4 : (a b c d : Bool) → (a && b && c && d) ≡ true → (b ≡ true) × (c ≡ true) × (d ≡ true)
parts-4 a b c d h =
    let t = and_parts (a && b && c) d h in
    let u = and_parts (a && b) c t.0 in
    ((and_parts a b u.0).1, u.1, t.1)

define-is-bytes : (d : Define) → good_define d ≡ true → all is_byte (define_bytes d) ≡ true
define-is-bytes d h =
    let t = and_parts (leb 16 d.permission && leb d.permission 63 && leb d.level 3 && leb d.group 15)
    (eqb d.level 1 || eqb d.group 0) h in
    let u = parts-4 (leb 16 d.permission) (leb d.permission 63) (leb d.level 3) (leb d.group 15) t.0 in
    let p = leb-true d.permission 63 u.0 in
    let l = leb-true d.level 3 u.1 in
    let g = leb-true d.group 15 u.2 in
    rw (byte d.permission (omega arith), byte d.level (omega arith), byte d.group (omega arith))

component-is-bytes : (c : Component) → (good_component c && is16 c.number) ≡ true → all is_byte (component_bytes c)
    ≡ true
component-is-bytes c h =
    let t = and_parts (good_component c) (is16 c.number) h in
    let early : Bool = leb 1 c.kind && leb c.kind 4 && leb c.exported 1 && leb c.shares 1 in
    let kinds : Bool = is_provider c && eqb c.start 0 || not (is_provider c)
    && (eqb c.shares 0 && (eqb c.read 0 && eqb c.write 0)) in
    let u = and_parts (early && leb c.start 63 && leb c.read 63 && leb c.write 63) kinds t.0 in
    let v = parts-4 early (leb c.start 63) (leb c.read 63) (leb c.write 63) u.0 in
    let w = and_parts (early && leb c.start 63 && leb c.read 63) (leb c.write 63) u.0 in
    let x = and_parts (early && leb c.start 63) (leb c.read 63) w.0 in
    let y = and_parts early (leb c.start 63) x.0 in
    let z = parts-4 (leb 1 c.kind) (leb c.kind 4) (leb c.exported 1) (leb c.shares 1) y.0 in
    let k = leb-true c.kind 4 z.0 in
    let e = leb-true c.exported 1 z.1 in
    let s = leb-true c.shares 1 z.2 in
    let a = leb-true c.start 63 v.0 in
    let r = leb-true c.read 63 v.1 in
    let o = leb-true c.write 63 v.2 in
    all_append is_byte (le16 c.number) (c.kind ∷ c.exported ∷ c.shares ∷ c.start ∷ c.read ∷ c.write ∷ [])
    (two_bytes c.number t.1)
    (rw (
      byte c.kind (omega arith),
      byte c.exported (omega arith),
      byte c.shares (omega arith),
      byte c.start (omega arith),
      byte c.read (omega arith),
      byte c.write (omega arith),
    ))

resource-is-bytes : (r : Resource) → resource_in_width r ≡ true → all is_byte (resource_bytes r) ≡ true
resource-is-bytes r h =
    let t = and_parts (is16 r.provider) (is16 r.uri && is32 r.value) h in
    let u = and_parts (is16 r.uri) (is32 r.value) t.1 in
    all_append is_byte (le16 r.provider) (le16 r.uri ++ le32 r.value) (two_bytes r.provider t.0)
    (all_append is_byte (le16 r.uri) (le32 r.value) (two_bytes r.uri u.0) (four_bytes r.value u.1))

pub image-is-bytes : (m : Manifest) → good m ≡ true → in_width m ≡ true → all is_byte (image m) ≡ true
image-is-bytes m h wide =
    let t = good-parts m h in
    let us = and_parts (at_most 32 m.uses) (uses_rise 0 m.uses) t.uses in
    let ds = and_parts (at_most 16 m.defines) (defines_rise 0 m.defines) t.defines in
    let cs = and_parts (at_most 16 m.components) (components_rise 0 m.components) t.components in
    let rs = and_parts (at_most 32 m.resources) (resources_rise m.components 0 m.resources) t.resources in
    let w1 = and_parts (is16 m.app) _ wide in
    let w2 = and_parts (is32 m.signer) _ w1.1 in
    let w3 = and_parts (all (λ (c : Component). is16 c.number) m.components) (all resource_in_width m.resources)
    w2.1 in
    let uses = section-bytes use_bytes good_use use-is-bytes 32 m.uses (omega arith) us.0
    (all-rising (λ p. p) good_use 0 m.uses us.1) in
    let defines = section-bytes define_bytes good_define define-is-bytes 16 m.defines (omega arith) ds.0
    (all-rising (λ (d : Define). d.permission) good_define 0 m.defines ds.1) in
    let components = section-bytes component_bytes (λ c. good_component c
    && is16 c.number) component-is-bytes 16 m.components (omega arith) cs.0
    (all_both good_component (λ c. is16 c.number) m.components
    (all-rising (λ (c : Component). c.number) good_component 0 m.components cs.1) w3.0) in
    let resources = section-bytes resource_bytes resource_in_width resource-is-bytes 32 m.resources (omega arith)
    rs.0 w3.1 in
    let U = section_bytes use_bytes m.uses in
    let D = section_bytes define_bytes m.defines in
    let C = section_bytes component_bytes m.components in
    let R = section_bytes resource_bytes m.resources in
    all_append is_byte (le16 m.app ++ le32 m.signer) (U ++ (D ++ (C ++ R)))
    (all_append is_byte (le16 m.app) (le32 m.signer) (two_bytes m.app w1.0) (four_bytes m.signer w2.0))
    (all_append is_byte U (D
    ++ (C ++ R)) uses (all_append is_byte D (C ++ R) defines (all_append is_byte C R components resources)))

-- ---- and is at most 474 long
section-length : {A : Type 0} (w : A → List ℕ) (size most : ℕ) → ((x : A) → length (w x) ≡ size) → (xs : List A)
    → at_most most xs ≡ true
    → length (section_bytes w xs) ≤ 1 + size * most
section-length w size most long xs few =
    let k : length xs ≤ most = leb-true (length xs) most few in
    omega (arith, length-joined w size long xs, mul-le-mul_left size k)

pub image-length : (m : Manifest) → good m ≡ true → length (image m) ≤ 474
image-length m h =
    let t = good-parts m h in
    let U = section_bytes use_bytes m.uses in
    let D = section_bytes define_bytes m.defines in
    let C = section_bytes component_bytes m.components in
    let R = section_bytes resource_bytes m.resources in
    let us = section-length use_bytes 1 32 (λ x. refl) m.uses
    (and_parts (at_most 32 m.uses) (uses_rise 0 m.uses) t.uses).0 in
    let ds = section-length define_bytes 3 16 (λ x. refl) m.defines
    (and_parts (at_most 16 m.defines) (defines_rise 0 m.defines) t.defines).0 in
    let cs = section-length component_bytes 8 16 (λ x. refl) m.components
    (and_parts (at_most 16 m.components) (components_rise 0 m.components) t.components).0 in
    let rs = section-length resource_bytes 8 32 (λ x. refl) m.resources
    (and_parts (at_most 32 m.resources) (resources_rise m.components 0 m.resources) t.resources).0 in
    omega (arith, length-append U (D ++ (C ++ R)), length-append D (C ++ R), length-append C R)

-- ---- bytes are accepted exactly if they are the image of a good manifest
all-entries : {A : Type 0} (ok : A → Bool) (f : ℕ → A) (size : ℕ) → ((a : ℕ) → ok (f a) ≡ true) → (a n : ℕ)
    → all ok (entries f size a n) ≡ true
all-entries ok f size h a zero = refl
all-entries ok f size h a (suc n) = rw (h a) (all-entries ok f size h (a + size) n)

module _ (s : List ℕ) (bytes : (k : ℕ) → u8_at s k < 256) where
  u16-fits : (a : ℕ) → is16 (u16_at s a) ≡ true
  u16-fits a = lt-ltb (u16_at s a) 65536 (omega (arith, bytes a, bytes (a + 1)))

  u32-fits : (a : ℕ) → is32 (u32_at s a) ≡ true
  u32-fits a = lt-ltb (u32_at s a) 4294967296 (omega (arith, bytes a, bytes (a + 1), bytes (a + 2), bytes (a + 2 + 1)))

  laid_out-in_width : in_width (laid_out s) ≡ true
  laid_out-in_width =
      rw (
        u16-fits 0,
        u32-fits 2,
        all-entries (λ c. is16 c.number) (component_at s) 8 u16-fits (components_place s + 1)
            (u8_at s (components_place s)),
      ) (all-entries resource_in_width (resource_at s) 8 (λ a. rw (u16-fits a, u16-fits (a + 2), u32-fits (a + 4)))
      (resources_place s + 1) (u8_at s (resources_place s)))

  pub image-of-good : good_bytes s ≡ true → image (laid_out s) ≡ s
  image-of-good h =
      image-laid_out s bytes
      (eqb-true (end_place s) (length s) (and_parts (eqb (end_place s) (length s)) (good (laid_out s)) h).0)

  pub accepted : (good_bytes s ≡ true) ↔ ((m : Manifest) × (good m ≡ true) × (in_width m ≡ true) × (s ≡ image m))
  accepted = (
    λ h. (
      laid_out s,
      (and_parts (eqb (end_place s) (length s)) (good (laid_out s)) h).1,
      laid_out-in_width,
      sym
          (image-of-good h),
    ),
    λ g. ap good_bytes g.3 ∙ good-image g.0 ∙ g.1,
  )

-- ---- the manifest that bytes hold
-- the manifest of an image is the one it was made of
pub manifest_of-image : (m : Manifest) → manifest_of (image m) ≡ m
unfolding manifest_of
manifest_of-image m = rw (eq-eqb (end_place (image m)) (length (image m)) (image-ends m)) (laid_out-image m)

-- it is good exactly if the bytes are
pub good-manifest_of : (s : List ℕ) → good (manifest_of s) ≡ good_bytes s
unfolding manifest_of
good-manifest_of s = go (eqb (end_place s) (length s))
  where
    go : (b : Bool) → good (cond b (laid_out s) blank) ≡ (b && good (laid_out s))
    go true = refl
    go false = refl
