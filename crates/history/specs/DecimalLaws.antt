-- The digits of a number below 10 ^ 19 are those of no other number, and two texts that are the same after a space and
-- a number have the same number there.
use Rattle.std.specs.Prelude.{ℕ, zero, suc, ◌+◌, ◌/◌, ◌%◌, ◌≤◌, ◌<◌, ◌^◌, ◌≡◌, refl, Bool, true, false, cond, List, []}
use Rattle.std.specs.Prelude.{◌∷◌, ◌++◌, reverse, length, ltb}
use Rattle.std.proofs.Common.{sym, ap, ◌∙◌, append_assoc, length-append, arith, ltb-false, ne_eqb}
use Rattle.std.proofs.lemmas.List.{append_cancel_right, reverse-append, reverse-reverse}
use Rattle.rules.specs.Lists.{mem}
use Rattle.rules.specs.ListsLaws.{mem-append, mem-one, mem-none, or-true, clashing}
use Rattle.history.specs.Sheet.{digits_within, decimal, space}

-- the digits of n: itself, if it is small, or those of its tenth and the last one
abbrev digits_by : (small : Bool) (k n : ℕ) → List ℕ
digits_by small k n = cond small ((48 + n) ∷ []) (digits_within k (n / 10) ++ ((48 + n % 10) ∷ []))

-- ---- no two numbers have the same digits
same-last : (x y : List ℕ) (a b : ℕ) → x ++ (a ∷ []) ≡ y ++ (b ∷ []) → (x ≡ y) × (a ≡ b)
same-last x y a b e =
    let back : a ∷ reverse x ≡ b ∷ reverse y
    = sym (reverse-append x (a ∷ [])) ∙ ap reverse e ∙ reverse-append y (b ∷ []) in
    let rest : reverse x ≡ reverse y = cc in
    (sym (reverse-reverse x) ∙ ap reverse rest ∙ reverse-reverse y, cc)

some-digit : (k n : ℕ) → 1 ≤ length (digits_within (suc k) n)
unfolding digits_within
some-digit k n = go (ltb n 10)
  where
    go : (t : Bool) → 1 ≤ length (digits_by t k n)
    go true = omega arith
    go false = simp length-append (omega arith)

-- numbers of the same digits are the same if their tenths are
same_if : (k n c : ℕ) → digits_within (suc (suc k)) n ≡ digits_within (suc (suc k)) c
    → (10 ≤ c → digits_within (suc k) (n / 10) ≡ digits_within (suc k) (c / 10) → n / 10 ≡ c / 10) → n ≡ c
unfolding digits_within
same_if k n c e tenths = go (ltb n 10) (ltb c 10) refl e
  where
    longer : (m d : ℕ) → digits_by false (suc k) m ≡ d ∷ [] → ⊥
    longer m d e = omega (arith, some-digit k (m / 10), simp length-append at (ap length e))

    go : (t u : Bool) → ltb c 10 ≡ u → digits_by t (suc k) n ≡ digits_by u (suc k) c → n ≡ c
    go true true b e = let digit : 48 + n ≡ 48 + c = cc in omega arith
    go true false b e = absurd (longer c (48 + n) (sym e))
    go false true b e = absurd (longer n (48 + c) e)
    go false false b e =
        let h = same-last (digits_within (suc k) (n / 10)) (digits_within (suc k) (c / 10)) _ _ e in
        let tenth = tenths (ltb-false c 10 b) h.0 in
        let digit : 48 + n % 10 ≡ 48 + c % 10 = h.1 in
        omega arith

-- so the digits of a number that leaves room to spare are those of no other
one_number : (k n c : ℕ) → c < 10 ^ suc k → digits_within (suc (suc k)) n ≡ digits_within (suc (suc k)) c → n ≡ c
one_number zero n c low e = same_if zero n c e (λ ten d. absurd (omega arith))
one_number (suc k) n c low e = same_if (suc k) n c e (λ ten d. one_number k (n / 10) (c / 10) (omega arith) d)

-- ---- a number after the last space of a text
no-space : (k n : ℕ) → mem space (digits_within k n) ≡ false
unfolding digits_within
no-space zero n = mem-none space
no-space (suc k) n = go (ltb n 10) (no-space k (n / 10))
  where
    go : (t : Bool) → mem space (digits_within k (n / 10)) ≡ false → mem space (digits_by t k n) ≡ false
    go true h = mem-one space (48 + n) ∙ ne_eqb space (48 + n) (λ e. omega arith)
    go false h = rw (mem-append, h, mem-one) (ne_eqb space (48 + n % 10) (λ e. omega arith))

spaced : (x v : List ℕ) → mem space (x ++ (space ∷ v)) ≡ true
spaced x v = rw mem-append (unfold mem in or-true (mem space x))

last-space : (x y v w : List ℕ) → mem space v ≡ false → mem space w ≡ false → x ++ (space ∷ v) ≡ y ++ (space ∷ w)
    → (x ≡ y) × (v ≡ w)
last-space [] [] v w p q e = (refl, cc)
last-space [] (b ∷ y) v w p q e = let h : v ≡ y ++ (space ∷ w) = cc in absurd (clashing (spaced y w) (rw h at p))
last-space (a ∷ x) [] v w p q e = let h : w ≡ x ++ (space ∷ v) = cc in absurd (clashing (spaced x v) (rw h at q))
last-space (a ∷ x) (b ∷ y) v w p q e = let h = last-space x y v w p q cc in (cc, h.1)

-- and more text after the number
pub same_number : (x y z : List ℕ) (n c : ℕ) → c < 10 ^ 19
    → x ++ (space ∷ (decimal n ++ z)) ≡ y ++ (space ∷ (decimal c ++ z)) → (x ≡ y) × (n ≡ c)
unfolding decimal
same_number x y z n c low e =
    let front : x ++ (space ∷ decimal n) ≡ y ++ (space ∷ decimal c)
    = append_cancel_right _ _ z
    (append_assoc x (space ∷ decimal n) z ∙ e ∙ sym (append_assoc y (space ∷ decimal c) z)) in
    let h = last-space x y (decimal n) (decimal c) (no-space 20 n) (no-space 20 c) front in
    (h.0, one_number 18 n c low h.1)
