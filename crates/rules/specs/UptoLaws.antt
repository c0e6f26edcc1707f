-- The numbers 1 to n: which they are, that they are distinct, and how many things can have them.
use Rattle.std.specs.Prelude.{ℕ, zero, suc, ◌≤◌, ◌≡◌, Bool, true, false, ◌&&◌, ◌||◌, List, [], ◌∷◌, eqb, leb, length}
use Rattle.std.proofs.Math.Path.{refl}
use Rattle.std.proofs.Common.{◌∙◌, length-append, arith, eqb-true, leb-true, le-leb}
use Rattle.std.proofs.lemmas.Bool.{eqb-false}
use Rattle.rules.specs.Lists.{any, all, distinct, upto}
use Rattle.rules.specs.ListsLaws.{and_left, and_right, both, any_append, any-one, all_append, all-mono, all-mem}
use Rattle.rules.specs.ListsLaws.{or-true, flat, any-mem, distinct-one, counted, length-keep}

abbrev pub within : ℕ → ℕ → Bool
within n m = leb 1 m && leb m n

length-upto : (n : ℕ) → length (upto n) ≡ n
unfolding upto
length-upto zero = refl
length-upto (suc n) = let h = length-upto n in length-append (upto n) (suc n ∷ []) ∙ omega arith

pub upto-within : (n : ℕ) → all (within n) (upto n) ≡ true
unfolding upto
upto-within zero = refl
upto-within (suc n) = all_append (within (suc n)) (upto n) (suc n ∷ [])
    ∙ rw (
      all-mono (within n) (within (suc n)) wider (upto n) (upto-within n),
      le-leb 1 (suc n) (omega arith),
      le-leb (suc n) (suc n) (omega arith),
    )
  where
    wider : (m : ℕ) → within n m ≡ true → within (suc n) m ≡ true
    wider m h =
        let t = leb-true m n (and_right (leb 1 m) _ h) in
        both (and_left (leb 1 m) _ h) (le-leb m (suc n) (omega arith))

pub distinct-upto : (n : ℕ) → distinct eqb (upto n) ≡ true
unfolding upto
distinct-upto zero = unfold distinct in refl
distinct-upto (suc n) = distinct-one eqb (upto n) (suc n) (flat (any (λ m. eqb m (suc n)) (upto n)) above)
    (distinct-upto n)
  where
    above : any (λ m. eqb m (suc n)) (upto n) ≡ true → ⊥
    above b =
        let r = any-mem (λ m. eqb m (suc n)) (upto n) b in
        let q : r.0 ≡ suc n = eqb-true r.0 (suc n) r.2 in
        let t = leb-true r.0 n (and_right (leb 1 r.0) _ (all-mem (within n) r.1 (upto-within n))) in
        omega arith

-- a number from 1 to n is among them
pub among-upto : (n m : ℕ) → within n m ≡ true → any (eqb m) (upto n) ≡ true
unfolding upto
among-upto zero m h =
    let a = leb-true 1 m (and_left (leb 1 m) _ h) in
    let b = leb-true m 0 (and_right (leb 1 m) _ h) in
    absurd (omega arith)
among-upto (suc n) m h = any_append (eqb m) (upto n) (suc n ∷ []) ∙ go (eqb m (suc n)) refl (among-upto n m)
  where
    go : (t : Bool) → eqb m (suc n) ≡ t → (within n m ≡ true → any (eqb m) (upto n) ≡ true)
        → any (eqb m) (upto n) || any (eqb m) (suc n ∷ []) ≡ true
    go true e more = rw (any-one (eqb m) (suc n), e) (or-true (any (eqb m) (upto n)))
    go false e more =
        let d = eqb-false m (suc n) e in
        let b = leb-true m (suc n) (and_right (leb 1 m) _ h) in
        rw (more (both (and_left (leb 1 m) _ h) (le-leb m n (omega arith))))

-- things with distinct numbers, all among the numbers u, are no more than u
pub no_more : {A : Type 0} (num : A → ℕ) (u : List ℕ) → distinct eqb u ≡ true → (l : List A)
    → distinct (λ x y. eqb (num x) (num y)) l ≡ true → all (λ x. any (eqb (num x)) u) l ≡ true → length l ≤ length u
no_more num u du l d e =
    let c = counted num u du l d e in
    let k = length-keep (λ n. any (λ x. eqb (num x) n) l) u in
    omega arith

pub at-most : {A : Type 0} (num : A → ℕ) (n : ℕ) (l : List A) → distinct (λ x y. eqb (num x) (num y)) l ≡ true
    → all (λ x. within n (num x)) l ≡ true → length l ≤ n
at-most num n l d e =
    let h = no_more num (upto n) (distinct-upto n) l d
    (all-mono (λ x. within n (num x)) (λ x. any (eqb (num x)) (upto n)) (λ x. among-upto n (num x)) l e) in
    let u = length-upto n in
    omega arith
