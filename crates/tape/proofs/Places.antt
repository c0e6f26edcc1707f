-- What the reader learns of a tape: from each manifest that it passes, from each test that refuses, and at the end.
use Prim.Native.Nat.{ℕ, zero, suc, ◌+◌, ◌*◌, ◌-◌, ◌≤◌, ◌<◌}
use mathlib.Core.Path.{◌≡◌, refl, sym, ap, ◌∙◌}
use mathlib.Core.List.{List, [], ◌∷◌}
use Rattle.std.specs.Prelude.{Some, None}
use Rattle.std.specs.List.{slice_get}
use Rattle.std.proofs.lemmas.Option.{none-some, get_or_from_slice_get}
use mathlib.Core.Bool.{true, false, ◌&&◌, and-false}
use lib.Dec.{leb}
use lib.ListN.{length}
use native.Mathlib.Numerals.{add-one}
use native.Mathlib.Omega.{arith}
use borrow.Author.Tests.{lt-leb, le-leb, eq-eqb, ne_eqb}
use Rattle.manifest.specs.Layout.{u16_at}
use Rattle.history.specs.Tape.{manifest_count, manifest_place, manifest_length, action_count, record_place}
use Rattle.history.specs.Tape.{lengths_fit, is_tape}
use Rattle.history.specs.TapeLaws.{place-next, place-rises, place_inside}

module _ (s : List ℕ) where
  lengths-next : (k : ℕ) → lengths_fit s (k + 1) ≡ lengths_fit s k && leb (manifest_length s k) 1024
  unfolding lengths_fit
  lengths-next k = rw add-one

  lengths-not : (d k : ℕ) → 1024 < manifest_length s k → lengths_fit s (k + 1 + d) ≡ false
  lengths-not zero k h =
      let e : k + 1 + 0 ≡ k + 1 = omega arith in
      rw (e, lengths-next k, lt-leb (manifest_length s k) 1024 h, and-false (lengths_fit s k))
  lengths-not (suc d) k h =
      let e : k + 1 + suc d ≡ (k + 1 + d) + 1 = omega arith in
      rw (e, lengths-next (k + 1 + d), lengths-not d k h)

  -- ---- what is no tape
  pub too_many : 32 < manifest_count s → is_tape s ≡ false
  unfolding is_tape
  too_many h = rw (lt-leb (manifest_count s) 32 h)

  long : lengths_fit s (manifest_count s) ≡ false → is_tape s ≡ false
  unfolding is_tape
  long h = rw (h, and-false (leb (manifest_count s) 32))

  many-actions : 2048 < action_count s → is_tape s ≡ false
  unfolding is_tape
  many-actions h = rw (
    lt-leb (action_count s) 2048 h,
    and-false (lengths_fit s (manifest_count s)),
    and-false (leb (manifest_count s) 32),
  )

  not-whole : (record_place s (action_count s) ≡ length s → ⊥) → is_tape s ≡ false
  unfolding is_tape
  not-whole h = rw (
    ne_eqb (record_place s (action_count s)) (length s) h,
    and-false (leb (action_count s) 2048),
    and-false (lengths_fit s (manifest_count s)),
    and-false (leb (manifest_count s) 32),
  )

  cut : (k : ℕ) → k ≤ manifest_count s → length s < manifest_place s k + 2 → is_tape s ≡ false
  cut k h l = not-whole (λ e. omega (arith, place-rises s k (manifest_count s) h))

pub empty : (s : List ℕ) → None ≡ slice_get s 0 → is_tape s ≡ false
unfolding manifest_place
empty [] e = cut [] 0 (omega arith) (omega arith)
empty (x ∷ s) e = absurd (none-some x e)

pub first-byte : (s : List ℕ) {x : ℕ} → Some x ≡ slice_get s 0 → x ≡ manifest_count s
first-byte s {x} e = sym (get_or_from_slice_get s 0 x 0 (sym e))

-- ---- the loop over the manifests
-- the first i manifests are short enough, and what follows them stands at a place
pub record Passed (s : List ℕ) (i at : ℕ) : Type 0 where
  pub place : at ≡ manifest_place s i
  pub near : at ≤ 1 + 1026 * i
  pub short : lengths_fit s i ≡ true

pub passed_none : (s : List ℕ) → Passed s 0 1
unfolding manifest_place lengths_fit
passed_none s = record { place = refl; near = omega arith; short = refl }

module _ {s : List ℕ} {i at : ℕ} (p : Passed s i at) where
  length-there : {n : ℕ} → n ≡ u16_at s at → n ≡ manifest_length s i
  length-there e = e ∙ ap (u16_at s) p.place

  pub passed-more : (n : ℕ) → n ≡ u16_at s at → n ≤ 1024 → Passed s (i + 1) (at + (2 + n))
  passed-more n e h =
      let f : n ≡ manifest_length s i = length-there e in
      let g : manifest_length s i ≤ 1024 = rw f at h in
      record {
        place = omega (arith, place-next s i, f, p.place);
        near = omega (arith, p.near);
        short = rw (lengths-next s i, p.short, le-leb (manifest_length s i) 1024 g);
      }

  pub passed-cut : i ≤ manifest_count s → length s < at + 2 → is_tape s ≡ false
  passed-cut h l = cut s i h (rw p.place at l)

  pub passed-long : (n : ℕ) → i < manifest_count s → n ≡ u16_at s at → 1024 < n → is_tape s ≡ false
  passed-long n h e l =
      let f : i + 1 + (manifest_count s - (i + 1)) ≡ manifest_count s = omega arith in
      long s (rw f at (lengths-not s (manifest_count s - (i + 1)) i (rw (length-there e) at l)))

  pub passed-all : i ≡ manifest_count s → Passed s (manifest_count s) at
  passed-all e = rw e at p

-- ---- the records after them
module _ {s : List ℕ} {at : ℕ} (p : Passed s (manifest_count s) at) where
  pub counted : {n : ℕ} → n ≡ u16_at s at → n ≡ action_count s
  counted e = e ∙ ap (u16_at s) p.place

  pub records-many : (n : ℕ) → n ≡ u16_at s at → 2048 < n → is_tape s ≡ false
  records-many n e l = many-actions s (rw (counted e) at l)

  pub records-ill : (n : ℕ) → n ≡ u16_at s at → (at + 2 + 12 * n ≡ length s → ⊥) → is_tape s ≡ false
  records-ill n e l = not-whole s (λ f. l (omega (arith, f, counted e, p.place)))

  pub records-whole : (n : ℕ) → manifest_count s ≤ 32 → n ≡ u16_at s at → n ≤ 2048 → at + 2 + 12 * n ≡ length s
      → is_tape s ≡ true
  unfolding is_tape
  records-whole n h e k l =
      let a : action_count s ≤ 2048 = rw (counted e) at k in
      let b : record_place s (action_count s) ≡ length s = omega (arith, l, counted e, p.place) in
      rw (
        le-leb (manifest_count s) 32 h,
        p.short,
        le-leb (action_count s) 2048 a,
        eq-eqb (record_place s (action_count s)) (length s) b,
      )

-- ---- in a tape
module _ (s : List ℕ) where
  pub place-there : {at n : ℕ} (k : ℕ) → at ≡ manifest_place s k → n ≡ u16_at s at
      → at + (2 + n) ≡ manifest_place s (k + 1)
  place-there {at} {n} k e f =
      let g : n ≡ manifest_length s k = f ∙ ap (u16_at s) e in
      omega (arith, e, g, place-next s k)

  pub place-ends : {at : ℕ} → is_tape s ≡ true → (k : ℕ) → k < manifest_count s → at ≡ manifest_place s k
      → at + 2 + u16_at s at ≤ length s
  place-ends {at} t k h e = omega (arith, place_inside s t (k + 1) (omega arith), place-there k e refl)
