-- One turn of a loop of the validity test.
use Rattle.std.proofs.Common.{ℕ, suc, zero, ◌+◌, ◌-◌, ◌<◌, ◌≤◌, ◌≡◌, Bool, true, false, ◌&&◌, ◌||◌}
use Rattle.std.proofs.Common.{List, [], ◌∷◌, length, drop, get_or, leb, ltb, sym}
use Rattle.std.proofs.Common.{ap, ◌∙◌, arith, add-one, drop_of_length-le}
use Rattle.std.proofs.lemmas.Bool.{le-leb, lt-leb}
use borrow.Author.Tests.{lt-ltb, ltb-true}
use Rattle.std.proofs.Math.Dec.{leb-suc-suc}
use Rattle.manifest.specs.Good.{rising}
use Rattle.rules.specs.Lists.{any, all, keep}
use Rattle.rules.specs.ListsLaws.{and_left, and_right, and-false}
use Rattle.device.specs.Rising.{few_rising}

-- ---- the entries from place i on
pub from-suc : {A : Type 0} (l : List A) (i : ℕ) (x : A) → i < length l → x ≡ get_or l i x
    → drop i l ≡ x ∷ drop (suc i) l
from-suc [] i x h e = absurd (omega arith)
from-suc (y ∷ l) zero x h e = ap (λ (z : _). z ∷ l) (sym e)
from-suc (y ∷ l) (suc i) x h e = from-suc l i x (omega arith) e

from-here : {A : Type 0} (l : List A) (i : ℕ) (x : A) → i < length l → x ≡ get_or l i x → drop i l ≡ x ∷ drop (i + 1) l
from-here l i x h e = rw (add-one i) (from-suc l i x h e)

module _ {A : Type 0} (test : A → Bool) (l : List A) (i : ℕ) (x : A) (h : i < length l) (e : x ≡ get_or l i x) where
  pub all-here : all test (drop i l) ≡ test x && all test (drop (i + 1) l)
  all-here = ap (all test) (from-here l i x h e)

  pub any-here : any test (drop i l) ≡ test x || any test (drop (i + 1) l)
  any-here = ap (any test) (from-here l i x h e)

module _ {A : Type 0} (test : A → Bool) (l : List A) (i : ℕ) (h : length l ≤ i) where
  pub all-end : all test (drop i l) ≡ true
  all-end = ap (all test) (drop_of_length-le l {i = i} h)

  pub any-end : any test (drop i l) ≡ false
  any-end = ap (any test) (drop_of_length-le l {i = i} h)

-- ---- the entries that are one app's
module _ {A : Type 0} (mine : A → Bool) (key : A → ℕ) (ok : A → Bool) (room low : ℕ) where
  pub rises-end : (l : List A) (i : ℕ) → length l ≤ i → few_rising mine key ok room low (drop i l) ≡ true
  rises-end l i h = rw (drop_of_length-le l {i = i} h, le-leb 0 room (omega arith))

  module _ (l : List A) (i : ℕ) (x : A) (h : i < length l) (e : x ≡ get_or l i x) where
    pub rises-skip : mine x ≡ false
        → few_rising mine key ok room low (drop i l) ≡ few_rising mine key ok room low (drop (i + 1) l)
    rises-skip q = rw (from-here l i x h e, q)

    pub rises-next : mine x ≡ true → ltb 0 room && (ltb low (key x) && ok x) ≡ true
        → few_rising mine key ok room low (drop i l) ≡ few_rising mine key ok (room - 1) (key x) (drop (i + 1) l)
    rises-next q good =
        let n = length (keep mine (drop (i + 1) l)) in
        let more = ltb-true 0 room (and_left (ltb 0 room) (ltb low (key x) && ok x) good) in
        let one : room ≡ suc (room - 1) = omega arith in
        let fits : leb (suc n) room ≡ leb n (room - 1) = ap (leb (suc n)) one ∙ leb-suc-suc n (room - 1) in
        rw (from-here l i x h e, q, and_right (ltb 0 room) (ltb low (key x) && ok x) good)
        (ap (λ (t : Bool). t && rising key ok (key x) (keep mine (drop (i + 1) l))) fits)

    -- no room, a key that is not higher, or an entry that is not good
    pub rises-stop : mine x ≡ true → ltb 0 room && (ltb low (key x) && ok x) ≡ false
        → few_rising mine key ok room low (drop i l) ≡ false
    rises-stop q bad = rw (from-here l i x h e, q) (go room (ltb low (key x) && ok x) bad)
      where
        n : ℕ
        n = length (keep mine (drop (i + 1) l))

        go : (room : ℕ) (t : Bool) → ltb 0 room && t ≡ false
            → leb (suc n) room && (t && rising key ok (key x) (keep mine (drop (i + 1) l))) ≡ false
        go zero t b = rw (lt-leb (suc n) 0 (omega arith))
        go (suc r) t b = rw (rw (lt-ltb 0 (suc r) (omega arith)) at b, and-false (leb (suc n) (suc r)))
