-- What the bytes ask for, as a case, is the action of the rules; and a code that is not listed asks for nothing.
use Rattle.std.specs.Prelude.{ℕ, zero, suc, ◌+◌, ◌≤◌, ◌≡◌, Bool, true, false, ◌&&◌, cond, List, [], ◌∷◌, length, eqb}
use Rattle.std.specs.Prelude.{leb, Option, None}
use Rattle.std.proofs.Math.Path.{refl}
use Rattle.std.proofs.Math.Option.{none}
use Rattle.std.proofs.Common.{arith, leb-true, ne_eqb}
use Rattle.manifest.specs.Layout.{u8_at}
use Rattle.rules.specs.Lists.{all, find, test, map_option}
use Rattle.rules.specs.ListsLaws.{and_left, and_right}
use Rattle.rules.specs.Action.{malformed, query}
use Rattle.rules.specs.Record.{forms, fitting, form_of, fields_of, asked, action_of}
use Rattle.loans.specs.declared.Record.{Record}
use Rattle.loans.specs.declared.Asked.{Asked}
use Rattle.loans.specs.Asked.{record_of, fields_with, well_formed, cases, asked_by, asked_of, action_from, action_for}

-- ---- codes that are not listed
abbrev listed : ℕ → Bool
listed n = leb 1 n && leb n 14

unlisted : {A : Type 0} (code : A → ℕ) (n : ℕ) → (1 ≤ n → n ≤ 14 → ⊥) → (l : List A)
    → all (λ t. listed (code t)) l ≡ true → find (λ t. eqb (code t) n) l ≡ none
unfolding find
unlisted code n h [] e = refl
unlisted code n h (x ∷ l) e =
    let both = and_left (listed (code x)) (all (λ t. listed (code t)) l) e in
    let low = leb-true 1 (code x) (and_left (leb 1 (code x)) (leb (code x) 14) both) in
    let high = leb-true (code x) 14 (and_right (leb 1 (code x)) (leb (code x) 14) both) in
    rw (ne_eqb (code x) n (λ q. h (omega arith) (omega arith)))
    (unlisted code n h l (and_right (listed (code x)) (all (λ t. listed (code t)) l) e))

-- a code that is none of 1 to 14
abbrev pub Other : ℕ → Type 0
Other n =
    (((((((((((((Unit {0} × (n ≡ 1 → ⊥)) × (n ≡ 2 → ⊥)) × (n ≡ 3 → ⊥)) × (n ≡ 4 → ⊥))
    × (n ≡ 5 → ⊥)) × (n ≡ 6 → ⊥)) × (n ≡ 7 → ⊥)) × (n ≡ 8 → ⊥)) × (n ≡ 9 → ⊥)) × (n ≡ 10 → ⊥))
    × (n ≡ 11 → ⊥)) × (n ≡ 12 → ⊥)) × (n ≡ 13 → ⊥))
    × (n ≡ 14 → ⊥)

past-five : (k n : ℕ) → (n ≡ k + 1 → ⊥) → (n ≡ k + 2 → ⊥) → (n ≡ k + 3 → ⊥)
    → (n ≡ k + 4 → ⊥) → (n ≡ k + 5 → ⊥)
    → k + 1 ≤ n → k + 6 ≤ n
past-five k n a b c d e low = omega arith

none_of_four : (n : ℕ) → (n ≡ 11 → ⊥) → (n ≡ 12 → ⊥) → (n ≡ 13 → ⊥) → (n ≡ 14 → ⊥) → 11 ≤ n
    → n ≤ 14 → ⊥
none_of_four n a b c d low high = omega arith

pub outside : (n : ℕ) → Other n → 1 ≤ n → n ≤ 14 → ⊥
outside n o low high =
    none_of_four n o.0.0.0.1 o.0.0.1 o.0.1 o.1
    (past-five 5 n o.0.0.0.0.0.0.0.0.1 o.0.0.0.0.0.0.0.1 o.0.0.0.0.0.0.1
    o.0.0.0.0.0.1 o.0.0.0.0.1
    (past-five 0 n o.0.0.0.0.0.0.0.0.0.0.0.0.0.1 o.0.0.0.0.0.0.0.0.0.0.0.0.1
    o.0.0.0.0.0.0.0.0.0.0.0.1 o.0.0.0.0.0.0.0.0.0.0.1 o.0.0.0.0.0.0.0.0.0.1
    low)) high

module _ (r : Record) (h : 1 ≤ r.code → r.code ≤ 14 → ⊥) where
  no-form : find (λ t. eqb t.code r.code) forms ≡ none
  no-form = unlisted (λ t. t.code) r.code h forms (unfold forms in refl)

  pub not-well-formed : well_formed r ≡ false
  unfolding well_formed test
  not-well-formed = rw no-form

  pub asks_nothing : asked_by r ≡ None
  unfolding asked_by map_option
  asks_nothing = rw (unlisted (λ k. k.code) r.code h cases (unfold cases in refl))

-- ---- the action
-- a case for a test, and its action for the test
either : (m : List ℕ) (t : Bool) (x : Option Asked)
    → action_for (cond t x None) m ≡ cond t (action_for x m) (query malformed)
either m true x = refl
either m false x = refl

abbrev at : ℕ → Record → Record
at n r =
    record {
      code = n;
      a = r.a;
      b = r.b;
      c = r.c;
      d = r.d;
      e = r.e;
    }

abbrev each : (m : List ℕ) (r : Record) (n : ℕ)
    → action_for (cond (well_formed (at n r)) (asked_by (at n r)) None) m
    ≡ cond (well_formed (at n r)) (action_for (asked_by (at n r)) m) (query malformed)
each m r n = either m (well_formed (at n r)) (asked_by (at n r))

abbrev Same : List ℕ → Record → Type 0
Same m r =
    action_for (cond (well_formed r) (asked_by r) None) m
    ≡ asked (find (λ t. eqb t.code r.code) forms) (fields_with m r)

beyond : (m : List ℕ) (r : Record) → (1 ≤ r.code → r.code ≤ 14 → ⊥) → Same m r
unfolding asked
beyond m r h = rw (not-well-formed r h, no-form r h)

by_code : (m : List ℕ) (r : Record) (n : ℕ) → Same m (at n r)
unfolding action_from well_formed asked_by asked find test map_option forms cases fitting
by_code m r zero = refl
by_code m r (suc zero) = each m r 1
by_code m r (suc (suc zero)) = each m r 2
by_code m r (suc (suc (suc zero))) = each m r 3
by_code m r (suc (suc (suc (suc zero)))) = each m r 4
by_code m r (suc (suc (suc (suc (suc zero))))) = each m r 5
by_code m r (suc (suc (suc (suc (suc (suc zero)))))) = each m r 6
by_code m r (suc (suc (suc (suc (suc (suc (suc zero))))))) = each m r 7
by_code m r (suc (suc (suc (suc (suc (suc (suc (suc zero)))))))) = each m r 8
by_code m r (suc (suc (suc (suc (suc (suc (suc (suc (suc zero))))))))) = each m r 9
by_code m r (suc (suc (suc (suc (suc (suc (suc (suc (suc (suc zero)))))))))) = each m r 10
by_code m r (suc (suc (suc (suc (suc (suc (suc (suc (suc (suc (suc zero))))))))))) = each m r 11
by_code m r (suc (suc (suc (suc (suc (suc (suc (suc (suc (suc (suc (suc zero)))))))))))) = each m r 12
by_code m r (suc (suc (suc (suc (suc (suc (suc (suc (suc (suc (suc (suc (suc zero))))))))))))) = each m r 13
by_code m r (suc (suc (suc (suc (suc (suc (suc (suc (suc (suc (suc (suc (suc (suc zero)))))))))))))) = each m r 14
by_code m r (suc (suc (suc (suc (suc (suc (suc (suc (suc (suc (suc (suc (suc (suc (suc n))))))))))))))) =
    beyond m (at (suc (suc (suc (suc (suc (suc (suc (suc (suc (suc (suc (suc (suc (suc (suc n))))))))))))))) r)
    (λ low high. omega arith)

pub asked-action : (s m : List ℕ) → action_for (asked_of s) m ≡ action_of s m
unfolding asked_of action_of form_of fields_of
asked-action s m = go (eqb (length s) 12)
  where
    go : (t : Bool)
        → action_for (cond t (cond (well_formed (record_of s)) (asked_by (record_of s)) None) None) m
        ≡ asked (cond t (find (λ f. eqb f.code (u8_at s 0)) forms) none) (fields_with m (record_of s))
    go true = by_code m (record_of s) (u8_at s 0)
    go false = unfold asked in refl
