-- One turn of a loop that makes a table anew from what a change makes of each loan.
use Rattle.std.proofs.Common.{ℕ, ◌+◌, ◌<◌, ◌≤◌, ◌≡◌, Bool, true, false, List, [], ◌∷◌, ◌++◌, length}
use Rattle.std.proofs.Common.{map, take, get_or, ltb, cond}
use Rattle.std.proofs.Common.{refl, sym, ap, ◌∙◌, arith, length-take, add-one, take-suc, take_all, ltb-true, ltb-false}
use Rattle.std.proofs.lemmas.Bool.{le-leb}
use Rattle.std.proofs.lemmas.List.{get_or-map, length-map}
use Rattle.rules.specs.declared.Loan.{Loan}
use Rattle.rules.specs.Lists.{keep}
use Rattle.state.specs.Listed.{appended as pushed}
use Rattle.state.specs.Stored.{zero_loan}
use Rattle.state.specs.Effects.{carries_any}
use Rattle.tables.specs.HeldLaws.{entry-more}
use Rattle.tables.proofs.Turns.{keep-one, drop-one}
use Rattle.loans.specs.Held.{loans_table, appended}

-- what a default loan is
pub loan-zero : (x : Loan)
    → (x.kind ≡ 0) × ((x.receiver ≡ 0) × ((x.provider ≡ 0) × ((x.uri ≡ 0) × (x.operations ≡ 0)))) → x ≡ zero_loan
loan-zero x e =
    λ j. record {
      kind = e.0 j;
      receiver = e.1.0 j;
      provider = e.1.1.0 j;
      uri = e.1.1.1.0 j;
      operations = e.1.1.1.1 j;
    }

-- y is what is made of the loan at i
module _ (to : Loan → Loan) (l : List Loan) (i : ℕ) (d y : Loan) (h : i < length l) (e : y ≡ to (get_or l i d)) where
  inside : i < length (map to l)
  inside = rw (length-map l to) h

  made : y ≡ get_or (map to l) i y
  made = e ∙ sym (get_or-map to l i d y h)

  room : length l ≤ 128 → length (map to l) ≤ 128
  room fits = rw (length-map l to) fits

  pub made-more : length l ≤ 128
      → pushed 128 (loans_table (take i (map to l))) y ≡ loans_table (take (i + 1) (map to l))
  made-more fits =
      entry-more zero_loan 128 (take i (map to l)) y
      (omega (arith, inside, length-take i (map to l), room fits))
      ∙ ap loans_table (sym (ap (λ (j : ℕ). take j (map to l)) (add-one i)
      ∙ take-suc (map to l) i y inside ∙ rw (← made)))

  -- one that still carries an operation stays, and one that carries none goes
  pub left-more : length l ≤ 128 → carries_any y ≡ true
      → pushed 128 (loans_table (keep carries_any (take i (map to l)))) y
      ≡ loans_table (keep carries_any (take (i + 1) (map to l)))
  left-more fits q = keep-one carries_any (map to l) i y inside made zero_loan 128 (room fits) q

  pub left_same : carries_any y ≡ false
      → loans_table (keep carries_any (take i (map to l))) ≡ loans_table (keep carries_any (take (i + 1) (map to l)))
  left_same q = ap loans_table (drop-one carries_any (map to l) i y inside made q)

pub made_all : (to : Loan → Loan) (l : List Loan) (i : ℕ) → length l ≤ i → take i (map to l) ≡ map to l
made_all to l i h = take_all i (map to l) (rw (length-map l to) h)

-- one loan more at the end of a list, where there is room
pub one-more : (l : List Loan) (x : Loan) → pushed 128 (loans_table l) x ≡ loans_table (appended x l)
unfolding appended
one-more l x = go (ltb (length l) 128) refl
  where
    go : (t : Bool) → ltb (length l) 128 ≡ t
        → pushed 128 (loans_table l) x ≡ loans_table (cond t (l ++ (x ∷ [])) l)
    go true e = entry-more zero_loan 128 l x (ltb-true (length l) 128 e)
    go false e = unfold pushed in rw (le-leb 128 (length l) (ltb-false (length l) 128 e))
