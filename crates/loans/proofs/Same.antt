-- What the derived equality of two loans says, field after field; and the first place at which two tables differ.
use Rattle.std.proofs.Common.{ℕ, suc, ◌+◌, ◌≤◌, ◌≡◌, Bool, true, false, not, ◌&&◌, cond, eqb, ltb, List}
use Rattle.std.proofs.Common.{[], ◌∷◌, length, map, Some, None, refl, sym, ap, ◌∙◌, arith, ltb-false}
use Rattle.std.specs.List.{zip, position_or_len}
use Rattle.std.specs.Option.{unwrap_or}
use Rattle.std.proofs.lemmas.List.Recursion.{is_position_or_len}
use Rattle.std.proofs.lemmas.Slice.Zip.{length-zip, firsts-zip, seconds-zip}
use Rattle.rules.specs.declared.Loan.{Loan}
use Rattle.loans.specs.Lent.{is_same, first_change}

abbrev fields : Loan → Loan → Bool
fields x y =
    eqb x.kind y.kind
    && (eqb x.receiver y.receiver
    && (eqb x.provider y.provider && (eqb x.uri y.uri && eqb x.operations y.operations)))

by_fields : (x y : Loan) → fields x y ≡ is_same x y
unfolding is_same
by_fields x y = go (eqb x.kind y.kind) _ _
  where
    go : (b s t : Bool) → b && (s && t) ≡ (b && s) && t
    go true s t = refl
    go false s t = refl

module _ (x y : Loan) {t : Bool} (told : t ≡ not (fields x y)) where
  answer : t ≡ not (is_same x y)
  answer = told ∙ ap not (by_fields x y)

  go : (s : Bool) → t ≡ not s → (u : Bool) → t ≡ u → s ≡ not u
  go true e true q = cc
  go true e false q = refl
  go false e true q = refl
  go false e false q = cc

  pub differ : t ≡ true → is_same x y ≡ false
  differ q = go (is_same x y) answer true q

  pub same : t ≡ false → is_same x y ≡ true
  same q = go (is_same x y) answer false q

-- ---- the first difference, as the library finds it in the pairs
abbrev pub differing : Loan × Loan → Bool
differing p = not (fields p.0 p.1)

first_in : List (Loan × Loan) → ℕ
first_in ps = first_change (map (λ p. p.0) ps) (map (λ p. p.1) ps)

first_place : (ps : List (Loan × Loan)) → first_in ps ≡ position_or_len differing ps
first_place = is_position_or_len first_in differing (unfold first_in first_change in refl) step
  where
    step : (p : Loan × Loan) (ps : List (Loan × Loan))
        → first_in (p ∷ ps) ≡ cond (differing p) 0 (1 + first_in ps)
    step p ps = unfold first_in first_change in rw (by_fields p.0 p.1) (go (is_same p.0 p.1) _)
      where
        go : (t : Bool) (n : ℕ) → cond t (suc n) 0 ≡ cond (not t) 0 (1 + n)
        go true n = omega arith
        go false n = refl

no_further : (l m : List Loan) → first_change l m ≤ length l
unfolding first_change
no_further [] m = omega arith
no_further (x ∷ l) [] = omega arith
no_further (x ∷ l) (y ∷ m) = go (is_same x y) (no_further l m)
  where
    go : (t : Bool) {k n : ℕ} → k ≤ n → cond t (suc k) 0 ≤ suc n
    go true h = omega arith
    go false h = omega arith

pub first_found : (l m : List Loan) (n : ℕ) → length l ≡ n → length m ≡ n
    → unwrap_or (cond (ltb (position_or_len differing (zip l m)) (length (zip l m)))
    (Some (position_or_len differing (zip l m))) None) n
    ≡ first_change l m
first_found l m n a b = go (ltb (position_or_len differing (zip l m)) (length (zip l m))) refl
  where
    here : position_or_len differing (zip l m) ≡ first_change l m
    here = sym (first_place (zip l m))
        ∙ unfold first_in in rw (firsts-zip l m (b ∙ sym a), seconds-zip l m (b ∙ sym a))

    long : length (zip l m) ≡ n
    long = length-zip l m ∙ omega (arith, a, b)

    go : (t : Bool) → ltb (position_or_len differing (zip l m)) (length (zip l m)) ≡ t
        → unwrap_or (cond t (Some (position_or_len differing (zip l m))) None) n ≡ first_change l m
    go true q = here
    go false q =
        let past = ltb-false (position_or_len differing (zip l m)) (length (zip l m)) q in
        omega (arith, past, here, long, a, no_further l m)
