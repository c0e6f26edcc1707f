-- Where two tables last differ: the loop that finds it, one record as the invariant and one law for each place of the
-- loop; and that writing the records that differ of the new table into the old one gives the new one.
use Prim.Native.Nat.{ℕ, zero, suc, ◌-◌, ◌≤◌, ◌<◌}
use Rattle.std.specs.Prelude.{◌≡◌, refl, Bool, true, false, ◌&&◌, cond, List, [], ◌∷◌, length, take, get_or, eqb}
use Rattle.std.proofs.Math.Path.{sym, ap}
use Rattle.std.proofs.Common.{◌∙◌, eqb-true, take_all}
use native.Mathlib.Omega.{arith}
use Rattle.rules.specs.declared.Loan.{Loan}
use Rattle.rules.specs.ListsLaws.{and_left, and_right}
use Rattle.loans.specs.Lent.{written, is_same, first_change, past, after_change, changed_in}
use Rattle.loans.specs.LentLaws.{nothing_written}

same-loans : (x y : Loan) → is_same x y ≡ true → x ≡ y
unfolding is_same
same-loans x y e =
    let front = and_left (eqb x.kind y.kind && eqb x.receiver y.receiver)
    (eqb x.provider y.provider && (eqb x.uri y.uri && eqb x.operations y.operations)) e in
    let back = and_right (eqb x.kind y.kind && eqb x.receiver y.receiver)
    (eqb x.provider y.provider && (eqb x.uri y.uri && eqb x.operations y.operations)) e in
    let last = and_right (eqb x.provider y.provider)
    (eqb x.uri y.uri && eqb x.operations y.operations) back in
    let kind = eqb-true x.kind y.kind
    (and_left (eqb x.kind y.kind) (eqb x.receiver y.receiver) front) in
    let receiver = eqb-true x.receiver y.receiver
    (and_right (eqb x.kind y.kind) (eqb x.receiver y.receiver) front) in
    let provider = eqb-true x.provider y.provider
    (and_left (eqb x.provider y.provider) (eqb x.uri y.uri && eqb x.operations y.operations) back) in
    let uri = eqb-true x.uri y.uri
    (and_left (eqb x.uri y.uri) (eqb x.operations y.operations) last) in
    let operations = eqb-true x.operations y.operations
    (and_right (eqb x.uri y.uri) (eqb x.operations y.operations) last) in
    λ i.
    record {
      kind = kind i;
      receiver = receiver i;
      provider = provider i;
      uri = uri i;
      operations = operations i;
    }

-- ---- the last change: the records from i on are the same
past-suc : (t : Bool) (n : ℕ) → past t (suc n) ≡ suc (suc n)
past-suc true n = refl
past-suc false n = refl

after_same : (j : ℕ) (l m : List Loan) (d : Loan) → j < length l → j < length m
    → is_same (get_or l j d) (get_or m j d) ≡ true
    → after_change (take (suc j) l) (take (suc j) m) ≡ after_change (take j l) (take j m)
unfolding after_change
after_same j [] m d a b e = absurd (omega arith)
after_same j (x ∷ l) [] d a b e = absurd (omega arith)
after_same zero (x ∷ l) (y ∷ m) d a b e = rw e
after_same (suc j) (x ∷ l) (y ∷ m) d a b e = ap (past (is_same x y)) (after_same j l m d (omega arith) (omega arith) e)

after-differs : (j : ℕ) (l m : List Loan) (d : Loan) → j < length l → j < length m
    → is_same (get_or l j d) (get_or m j d) ≡ false → after_change (take (suc j) l) (take (suc j) m) ≡ suc j
unfolding after_change
after-differs j [] m d a b e = absurd (omega arith)
after-differs j (x ∷ l) [] d a b e = absurd (omega arith)
after-differs zero (x ∷ l) (y ∷ m) d a b e = rw e
after-differs (suc j) (x ∷ l) (y ∷ m) d a b e =
    ap (past (is_same x y)) (after-differs j l m d (omega arith) (omega arith) e) ∙ past-suc (is_same x y) j

pub record Behind (old new : List Loan) (n i : ℕ) : Type 0 where
  pub whole : length old ≡ n
  pub also : length new ≡ n
  pub inside : i ≤ n
  pub same : after_change old new ≡ after_change (take i old) (take i new)

pub behind-begin : {old new : List Loan} {n : ℕ} → length old ≡ n → length new ≡ n → Behind old new n n
behind-begin {old} {new} {n} e f =
    record {
      whole = e;
      also = f;
      inside = omega arith;
      same = rw (take_all n old (omega arith), take_all n new (omega arith));
    }

module _ {old new : List Loan} {n i : ℕ} (s : Behind old new n i) where
  behind-at : 0 < i → after_change old new ≡ after_change (take (suc (i - 1)) old) (take (suc (i - 1)) new)
  behind-at h =
      let o : suc (i - 1) ≡ i = omega arith in
      s.same ∙ ap (λ (j : ℕ). after_change (take j old) (take j new)) (sym o)

  pub behind-next : 0 < i → (d : Loan) → is_same (get_or old (i - 1) d) (get_or new (i - 1) d) ≡ true
      → Behind old new n (i - 1)
  behind-next h d e =
      record {
        whole = s.whole;
        also = s.also;
        inside = omega (arith, s.inside);
        same = behind-at h ∙ after_same (i - 1) old new d (omega (arith, s.whole, s.inside))
            (omega (arith, s.also, s.inside)) e;
      }

  pub behind-differs : 0 < i → (d : Loan) → is_same (get_or old (i - 1) d) (get_or new (i - 1) d) ≡ false
      → i ≡ after_change old new
  behind-differs h d e =
      let f : after_change old new ≡ suc (i - 1) = behind-at h
      ∙ after-differs (i - 1) old new d (omega (arith, s.whole, s.inside)) (omega (arith, s.also, s.inside)) e in
      omega arith

  pub behind-ends : i ≤ 0 → 0 ≡ after_change old new
  unfolding after_change
  behind-ends h = let w : i ≡ 0 = omega arith in sym (s.same ∙ rw w)

-- ---- writing the records in which they differ
to_end : (old new : List Loan) → length old ≡ length new → written zero (after_change old new) new old ≡ new
unfolding after_change written
to_end [] [] e = refl
to_end [] (y ∷ new) e = absurd (omega arith)
to_end (x ∷ old) [] e = absurd (omega arith)
to_end (x ∷ old) (y ∷ new) e = go (is_same x y) (after_change old new) refl (to_end old new (omega arith))
  where
    go : (t : Bool) (n : ℕ) → is_same x y ≡ t → written zero n new old ≡ new
        → written zero (past t n) (y ∷ new) (x ∷ old) ≡ y ∷ new
    go true zero q h =
        let s = same-loans x y q in
        let o = nothing_written zero zero new old (omega arith) in
        cc
    go true (suc n) q h = ap (λ (r : List Loan). y ∷ r) h
    go false n q h = ap (λ (r : List Loan). y ∷ r) h

differing : (old new : List Loan) → length old ≡ length new
    → written (first_change old new) (after_change old new) new old ≡ new
unfolding first_change after_change written
differing [] [] e = refl
differing [] (y ∷ new) e = absurd (omega arith)
differing (x ∷ old) [] e = absurd (omega arith)
differing (x ∷ old) (y ∷ new) e =
    go (is_same x y) (first_change old new) (after_change old new) refl (differing old new (omega arith))
    (to_end old new (omega arith))
  where
    go : (t : Bool) (f n : ℕ) → is_same x y ≡ t → written f n new old ≡ new → written zero n new old ≡ new
        → written (cond t (suc f) 0) (past t n) (y ∷ new) (x ∷ old) ≡ y ∷ new
    go true f zero q h k =
        let s = same-loans x y q in
        let o = nothing_written f zero new old (omega arith) in
        cc
    go true f (suc n) q h k = let s = same-loans x y q in cc
    go false f n q h k = ap (λ (r : List Loan). y ∷ r) k

-- a slice that holds `old`, with the changed records of `new` written into it, holds `new`
pub changed-written : (old new : List Loan) → length old ≡ length new
    → written (changed_in old new).from (changed_in old new).to new old ≡ new
unfolding changed_in
changed-written old new e = differing old new e
