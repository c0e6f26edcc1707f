-- The running numbers of a list: one more, one less, how many there are, and which is the lowest that is free.
use Rattle.std.specs.Prelude.{ℕ, zero, suc, ◌+◌, ◌-◌, ◌*◌, ◌/◌, ◌%◌, ◌^◌, ◌≤◌, ◌<◌, min, max, ◌≡◌, Bool, true, false}
use Rattle.std.specs.Prelude.{not, ◌&&◌, ◌||◌, cond, List, [], ◌∷◌, ◌++◌, eqb, ltb}
use Rattle.std.proofs.Math.Path.{refl}
use Rattle.std.proofs.Common.{sym, ap, ◌∙◌, arith, pow-suc, add-one, lt-ltb, ne_eqb, eqb-true}
use Rattle.std.proofs.Math.Option.{Option, none, some}
use Rattle.std.proofs.lemmas.Bool.{eqb-false}
use Rattle.std.specs.Int.Count.{count_trailing_zeros, under}
use Rattle.std.proofs.Math.Dec.{leb-suc-suc}
use Rattle.std.specs.Int.Bits.{bit_and, bit_or, and_step, or_step}
use Rattle.rules.specs.declared.Instance.{Instance}
use Rattle.rules.specs.Lists.{keep, find, upto, is_some, missing, map_option}
use Rattle.rules.specs.ListsLaws.{and-true, and-false, eqb-sym, by_eqb, any_append, any-one}
use Rattle.rules.specs.ListsLaws.{any-keep, any-cong, any-and, find-cong, find-any, none_any}
use Rattle.rules.specs.Limits.{large}
use Rattle.rules.specs.Action.{bit}
use Rattle.rules.specs.Refusals.{free_number}
use Rattle.state.specs.Tables.{State, run_in, view_of}
use Rattle.state.specs.Stored.{runs, digits_of, mask_of}
use Rattle.tables.specs.Running.{digit_of, without, next_of}

and-swap : (a b : Bool) → a && b ≡ b && a
and-swap true b = sym (and-true b)
and-swap false b = sym (and-false b)

-- ---- digits
low : (t : Bool) (n : ℕ) → (bit t + 2 * n) % 2 ≡ bit t
low true n = omega arith
low false n = omega arith

high : (t : Bool) (n : ℕ) → (bit t + 2 * n) / 2 ≡ n
high true n = omega arith
high false n = omega arith

digits-cong : (f g : ℕ → Bool) (a k : ℕ) → ((i : ℕ) → f i ≡ g i) → digits_of f a k ≡ digits_of g a k
unfolding digits_of
digits-cong f g a zero h = refl
digits-cong f g a (suc k) h = rw (h a, digits-cong f g (suc a) k h)

min-bit : (s t : Bool) → min (bit s) (bit t) ≡ bit (s && t)
min-bit true true = refl
min-bit true false = refl
min-bit false true = refl
min-bit false false = refl

max-bit : (s t : Bool) → max (bit s) (bit t) ≡ bit (s || t)
max-bit true true = refl
max-bit true false = refl
max-bit false true = refl
max-bit false false = refl

and-digits : (f g : ℕ → Bool) (a k : ℕ) → bit_and (digits_of f a k) (digits_of g a k) ≡ digits_of (λ i. f i && g i) a k
unfolding digits_of
and-digits f g a zero = refl
and-digits f g a (suc k) =
    let m = digits_of f (suc a) k in
    let n = digits_of g (suc a) k in
    and_step (bit (f a) + 2 * m) (bit (g a) + 2 * n)
    ∙ rw (high (f a) m, high (g a) n, low (f a) m, low (g a) n, and-digits f g (suc a) k, min-bit (f a) (g a))
    (omega arith)

or_digits : (f g : ℕ → Bool) (a k : ℕ) → bit_or (digits_of f a k) (digits_of g a k) ≡ digits_of (λ i. f i || g i) a k
unfolding digits_of
or_digits f g a zero = refl
or_digits f g a (suc k) =
    let m = digits_of f (suc a) k in
    let n = digits_of g (suc a) k in
    or_step (bit (f a) + 2 * m) (bit (g a) + 2 * n)
    ∙ rw (high (f a) m, high (g a) n, low (f a) m, low (g a) n, or_digits f g (suc a) k, max-bit (f a) (g a))
    (omega arith)

flip : (t : Bool) → bit t + bit (not t) ≡ 1
flip true = refl
flip false = refl

whole_sum : (f : ℕ → Bool) (a k : ℕ) → digits_of f a k + digits_of (λ i. not (f i)) a k + 1 ≡ 2 ^ k
unfolding digits_of
whole_sum f a zero = refl
whole_sum f a (suc k) =
    let h = whole_sum f (suc a) k in
    let p : 2 ^ suc k ≡ 2 ^ k * 2 = pow-suc 2 k in
    let t = flip (f a) in
    omega arith

complement : (f : ℕ → Bool) (a k : ℕ) → (2 ^ k - 1) - digits_of f a k ≡ digits_of (λ i. not (f i)) a k
complement f a k = let h = whole_sum f a k in omega arith

-- ---- one digit
no_digit : (n a k : ℕ) → n < a → digits_of (eqb n) a k ≡ 0
unfolding digits_of
no_digit n a zero h = refl
no_digit n a (suc k) h = rw (ne_eqb n a (λ e. omega arith), no_digit n (suc a) k (omega arith))

one-digit : (n a k : ℕ) → a ≤ n → n < a + k → digits_of (eqb n) a k ≡ 2 ^ (n - a)
unfolding digits_of
one-digit n a zero b c = absurd (omega arith)
one-digit n a (suc k) b c = go (eqb n a) refl (one-digit n (suc a) k)
  where
    go : (t : Bool) → eqb n a ≡ t → (suc a ≤ n → n < suc a + k → digits_of (eqb n) (suc a) k ≡ 2 ^ (n - suc a))
        → bit t + 2 * digits_of (eqb n) (suc a) k ≡ 2 ^ (n - a)
    go true e r =
        let w : n ≡ a = eqb-true n a e in
        let o : n - a ≡ 0 = omega arith in
        rw (no_digit n (suc a) k (omega arith), o)
    go false e r =
        let w = eqb-false n a e in
        let u : a < n = lt-ne w in
        let o : n - a ≡ suc (n - suc a) = omega arith in
        let p : 2 ^ (n - a) ≡ 2 ^ (n - suc a) * 2 = ap (λ (m : ℕ). 2 ^ m) o ∙ pow-suc 2 (n - suc a) in
        rw (p, r (omega arith) (omega arith)) (omega arith)
      where
        lt-ne : (n ≡ a → ⊥) → a < n
        lt-ne q = omega arith

past-digit : (n a k : ℕ) → a + k ≤ n → digits_of (eqb n) a k ≡ 0
unfolding digits_of
past-digit n a zero h = refl
past-digit n a (suc k) h = rw (ne_eqb n a (λ e. omega arith), past-digit n (suc a) k (omega arith))

pub digit-inside : (n : ℕ) → 1 ≤ n → n ≤ 64 → digit_of n ≡ 2 ^ (n - 1)
unfolding digit_of
digit-inside n a b = one-digit n 1 64 a (omega arith)

pub digit-none : digit_of 0 ≡ 0
unfolding digit_of
digit-none = no_digit 0 1 64 (omega arith)

pub digit-past : (n : ℕ) → 64 < n → digit_of n ≡ 0
unfolding digit_of
digit-past n h = past-digit n 1 64 (omega arith)

-- ---- one more and one less
pub mask-more : (is : List Instance) (i : Instance) → bit_or (mask_of is) (digit_of i.number) ≡ mask_of (is ++ (i ∷ []))
unfolding mask_of digit_of
mask-more is i =
    or_digits (runs is) (eqb i.number) 1 64
    ∙ digits-cong _ (runs (is ++ (i ∷ []))) 1 64 each
  where
    each : (n : ℕ) → runs is n || eqb i.number n ≡ runs (is ++ (i ∷ [])) n
    each n = sym (any_append (λ j. eqb j.number n) is (i ∷ []) ∙ rw (any-one (λ j. eqb j.number n) i))

pub mask-less : (is : List Instance) (n : ℕ)
    → bit_and (mask_of is) (without (digit_of n)) ≡ mask_of (keep (λ i. not (eqb i.number n)) is)
unfolding mask_of digit_of
mask-less is n =
    rw (complement (eqb n) 1 64) (and-digits (runs is) (λ m. not (eqb n m)) 1 64
    ∙ digits-cong _ (runs (keep (λ i. not (eqb i.number n)) is)) 1 64 each)
  where
    one : (m x : ℕ) → not (eqb x n) && eqb x m ≡ not (eqb n m) && eqb x m
    one m x = by_eqb (λ t. not (eqb x n) && t ≡ not (eqb n m) && t) x m
        (λ e. rw e (ap (λ (t : Bool). not t && true) (eqb-sym m n)))
        (λ e. and-false (not (eqb x n)) ∙ sym (and-false (not (eqb n m))))

    each : (m : ℕ) → runs is m && not (eqb n m) ≡ runs (keep (λ i. not (eqb i.number n)) is) m
    each m =
        and-swap (runs is m) (not (eqb n m))
        ∙ sym (any-keep (λ j. eqb j.number m) (λ i. not (eqb i.number n)) is
        ∙ any-cong (λ j. one m j.number) is ∙ any-and (not (eqb n m)) (λ j. eqb j.number m) is)

-- ---- the lowest number that is free
from : ℕ → ℕ → List ℕ
from a zero = []
from a (suc k) = a ∷ from (suc a) k

from_more : (a k : ℕ) → from a (suc k) ≡ from a k ++ ((a + k) ∷ [])
unfolding from
from_more a zero = let o : a + 0 ≡ a = omega arith in rw o
from_more a (suc k) =
    let o : a + suc k ≡ suc a + k = omega arith in
    rw o (ap (λ (l : List ℕ). a ∷ l) (from_more (suc a) k))

upto_from : (k : ℕ) → upto k ≡ from 1 k
unfolding upto
upto_from zero = unfold from in refl
upto_from (suc k) = let o : 1 + k ≡ suc k = omega arith in rw (upto_from k) (sym (from_more 1 k ∙ rw o))

ltb-suc : (m n : ℕ) → ltb (suc m) (suc n) ≡ ltb m n
ltb-suc m n = leb-suc-suc (suc m) n

abbrev lowest : (ℕ → Bool) → ℕ → ℕ → ℕ
lowest f a k = count_trailing_zeros k (digits_of f a k)

first : (f : ℕ → Bool) (a k : ℕ) → find f (from a k) ≡ cond (ltb (lowest f a k) k) (some (a + lowest f a k)) none
unfolding find from digits_of count_trailing_zeros
first f a zero = refl
first f a (suc k) =
    rw (low (f a) (digits_of f (suc a) k), high (f a) (digits_of f (suc a) k)) (go (f a) (first f (suc a) k))
  where
    go : (t : Bool)
        → find f (from (suc a) k) ≡ cond (ltb (lowest f (suc a) k) k) (some (suc a + lowest f (suc a) k)) none
        → cond t (some a) (find f (from (suc a) k))
        ≡ cond (ltb (under (bit t) (lowest f (suc a) k)) (suc k)) (some (a + under (bit t) (lowest f (suc a) k))) none
    go true e = rw (lt-ltb 0 (suc k) (omega arith)) (ap some (omega arith))
    go false e = e ∙ rw (ltb-suc (lowest f (suc a) k) k)
        (ap (λ (n : ℕ). cond (ltb (lowest f (suc a) k) k) (some n) none) (omega arith))

not-running : (is : List Instance) (n : ℕ) → missing (run_in is n) ≡ not (runs is n)
unfolding run_in missing is_some map_option
not-running is n = go (find (λ i. eqb i.number n) is) refl
  where
    go : (o : Option Instance) → find (λ i. eqb i.number n) is ≡ o
        → not (is_some (map_option (λ i. i.component) o)) ≡ not (runs is n)
    go none e = ap not (sym (none_any (λ i. eqb i.number n) is e))
    go (some i) e = ap not (sym (find-any (λ i. eqb i.number n) is i e))

-- what the code computes from the running numbers of a list is the free number of the rules
pub next-is-free : (s : State)
    → free_number large (view_of s)
    ≡ cond (ltb (next_of (mask_of s.instances)) 65) (some (next_of (mask_of s.instances))) none
unfolding mask_of free_number view_of
next-is-free s =
    let is = s.instances in
    let t : ℕ = lowest (λ n. not (runs is n)) 1 64 in
    let z : count_trailing_zeros 64 ((2 ^ 64 - 1) - digits_of (runs is) 1 64) ≡ t =
    ap (count_trailing_zeros 64) (complement (runs is) 1 64) in
    let o : 1 + t ≡ t + 1 = omega arith in
    let b : ltb (t + 1) 65 ≡ ltb t 64 = rw (add-one t) (ltb-suc t 64) in
    find-cong (not-running is) (upto 64)
    ∙ ap (find (λ n. not (runs is n))) (upto_from 64)
    ∙ first (λ n. not (runs is n)) 1 64
    ∙ rw (z, b, o)
