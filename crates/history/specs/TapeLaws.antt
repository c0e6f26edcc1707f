-- Laws of a tape's layout: its parts follow one another, no tape is longer than 57,411 bytes, and no tape is the front
-- of another, so that a tape that is cut or has bytes left over is refused.
use Prim.Native.Nat.{ℕ, zero, suc, ◌+◌, ◌*◌, ◌-◌, ◌≤◌, ◌<◌}
use Rattle.std.specs.Prelude.{◌≡◌, Bool, true, false, ◌&&◌, List, ◌++◌, leb, eqb, length}
use Rattle.std.proofs.Math.Path.{refl}
use Rattle.std.proofs.Common.{sym, ap, ap₂, ◌∙◌, length-append}
use Rattle.std.proofs.Math.ListN.{get_or-append}
use Rattle.std.proofs.Math.Numerals.{add-one}
use native.Mathlib.Omega.{arith}
use borrow.Author.Tests.{leb-true, eqb-true}
use Rattle.manifest.specs.Layout.{u16_at}
use Rattle.rules.specs.ListsLaws.{and_left, and_right, flat}
use Rattle.history.specs.Tape.{manifest_count, manifest_place, manifest_length, actions_place, action_count}
use Rattle.history.specs.Tape.{record_place, lengths_fit, is_tape}

module _ (s : List ℕ) where
  pub place-first : 1 ≡ manifest_place s 0
  unfolding manifest_place
  place-first = refl

  pub place-next : (k : ℕ) → manifest_place s (k + 1) ≡ manifest_place s k + 2 + manifest_length s k
  unfolding manifest_place
  place-next k = rw add-one

  place_up : (d k : ℕ) → manifest_place s k ≤ manifest_place s (k + d)
  place_up zero k =
      let e : k + 0 ≡ k = omega arith in
      rw e (omega arith)
  place_up (suc d) k =
      let e : k + suc d ≡ (k + d) + 1 = omega arith in
      rw e (omega (arith, place_up d k, place-next (k + d)))

  pub place-rises : (j k : ℕ) → j ≤ k → manifest_place s j ≤ manifest_place s k
  place-rises j k h =
      let e : j + (k - j) ≡ k = omega arith in
      rw e at (place_up (k - j) j)

  -- ---- what the tests of a tape say
  abbrev few : Bool
  few = leb (action_count s) 2048

  abbrev full : Bool
  full = eqb (record_place s (action_count s)) (length s)

  module _ (t : is_tape s ≡ true) where
    later : lengths_fit s (manifest_count s) && (few && full) ≡ true
    unfolding is_tape
    later = and_right (leb (manifest_count s) 32) (lengths_fit s (manifest_count s) && (few && full)) t

    last : few && full ≡ true
    last = and_right (lengths_fit s (manifest_count s)) (few && full) later

    few-manifests : manifest_count s ≤ 32
    unfolding is_tape
    few-manifests =
        leb-true (manifest_count s) 32
        (and_left (leb (manifest_count s) 32) (lengths_fit s (manifest_count s) && (few && full)) t)

    pub few-actions : action_count s ≤ 2048
    few-actions = leb-true (action_count s) 2048 (and_left few full last)

    pub tape-whole : record_place s (action_count s) ≡ length s
    tape-whole = eqb-true (record_place s (action_count s)) (length s) (and_right few full last)

    pub place_inside : (k : ℕ) → k ≤ manifest_count s → manifest_place s k + 2 ≤ length s
    place_inside k h = omega (arith, tape-whole, place-rises k (manifest_count s) h)

  places-most : (k : ℕ) → lengths_fit s k ≡ true → manifest_place s k ≤ 1 + 1026 * k
  unfolding manifest_place lengths_fit
  places-most zero e = omega arith
  places-most (suc k) e =
      omega (
        arith,
        places-most k (and_left (lengths_fit s k) (leb (manifest_length s k) 1024) e),
        leb-true (manifest_length s k) 1024 (and_right (lengths_fit s k) (leb (manifest_length s k) 1024) e),
      )

  -- ---- the longest tape: 32 manifests of 1,024 bytes and 2,048 records
  pub tape-most : is_tape s ≡ true → length s ≤ 57411
  tape-most t =
      omega (
        arith,
        tape-whole t,
        few-actions t,
        places-most (manifest_count s) (and_left (lengths_fit s (manifest_count s)) (few && full) (later t)),
        few-manifests t,
      )

-- ---- a tape and more bytes
module _ (s x : List ℕ) where
  u16-same : (a : ℕ) → a + 2 ≤ length s → u16_at (s ++ x) a ≡ u16_at s a
  u16-same a h =
      ap₂ (λ (m n : ℕ). m + 256 * n) (get_or-append s x 0 a (omega arith))
      (get_or-append s x 0 (a + 1) (omega arith))

  module _ (t : is_tape s ≡ true) where
    place_same : (k : ℕ) → k ≤ manifest_count s → manifest_place (s ++ x) k ≡ manifest_place s k
    place_same zero h = sym (place-first (s ++ x)) ∙ place-first s
    place_same (suc k) h =
        let e : manifest_place (s ++ x) k ≡ manifest_place s k = place_same k (omega arith) in
        let l : manifest_length (s ++ x) k ≡ manifest_length s k
        = ap (u16_at (s ++ x)) e ∙ u16-same (manifest_place s k) (place_inside s t k (omega arith)) in
        rw (sym (add-one k)) (omega (arith, place-next (s ++ x) k, place-next s k, e, l))

    not-longer : is_tape (s ++ x) ≡ true → 0 < length x → ⊥
    not-longer other h =
        let m : manifest_count (s ++ x) ≡ manifest_count s
        = get_or-append s x 0 0 (omega (arith, place_inside s t 0 (omega arith))) in
        let p : actions_place (s ++ x) ≡ actions_place s
        = ap (manifest_place (s ++ x)) m ∙ place_same (manifest_count s) (omega arith) in
        let n : action_count (s ++ x) ≡ action_count s
        = ap (u16_at (s ++ x)) p ∙ u16-same (actions_place s) (place_inside s t (manifest_count s) (omega arith)) in
        omega (arith, tape-whole (s ++ x) other, tape-whole s t, p, n, length-append s x)

  pub left_over : is_tape s ≡ true → 0 < length x → is_tape (s ++ x) ≡ false
  left_over t h = flat (is_tape (s ++ x)) (λ e. not-longer t e h)

  pub cut_off : is_tape (s ++ x) ≡ true → 0 < length x → is_tape s ≡ false
  cut_off t h = flat (is_tape s) (λ e. not-longer e t h)
