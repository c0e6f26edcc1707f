-- What becomes of a search when an entry of a new number is added, or the entries of a number are removed.
use Rattle.std.specs.Prelude.{ℕ, ◌≡◌, Bool, true, false, not, ◌&&◌, List, [], ◌∷◌, ◌++◌}
use Rattle.std.proofs.Math.Path.{refl}
use Rattle.std.proofs.Common.{◌∙◌, eqb-true}
use Rattle.std.proofs.Math.Bool.{cond}
use Rattle.std.proofs.Math.Option.{Option, none, some}
use Rattle.std.proofs.Math.Dec.{eqb}
use Rattle.rules.specs.Lists.{any, keep, find, is_some, bind, or_find}
use Rattle.rules.specs.ListsLaws.{find-append, find-one, find-keep, find-cong, find-and, find_none, any-mem, any-mono}
use Rattle.rules.specs.ListsLaws.{any-keep, none-mem, by_eqb, eqb-sym, and-false, and_right, flat, clashing}
use Rattle.state.proofs.LookupLaws.{Only}
use Rattle.history.specs.Log.{unless}

-- of two searches at most one finds
pub or_swap : {A : Type 0} (a b : Option A) → (is_some a ≡ true → b ≡ none) → or_find b a ≡ or_find a b
unfolding or_find is_some
or_swap none none h = refl
or_swap none (some y) h = refl
or_swap (some x) b h = rw (h refl)

-- an entry that passes a test goes, where at most one is searched for
pub only-drop : {A : Type 0} (f t : A → Bool) (l : List A) → Only f l
    → find f (keep (λ x. not (t x)) l) ≡ unless t (find f l)
unfolding find unless bind
only-drop f t [] o = refl
only-drop f t (x ∷ l) o = go (t x) (f x) refl refl (only-drop f t l o.1)
  where
    rest : any f l ≡ false → find f (keep (λ x. not (t x)) l) ≡ none
    rest n = find_none f (keep (λ x. not (t x)) l) (any-keep f (λ x. not (t x)) l ∙ flat _ (λ b.
        clashing (any-mono (λ x. not (t x) && f x) f (λ x h. and_right (not (t x)) (f x) h) l b) n))

    go : (s r : Bool) → t x ≡ s → f x ≡ r → find f (keep (λ x. not (t x)) l) ≡ unless t (find f l)
        → find f (cond (not s) (x ∷ keep (λ x. not (t x)) l) (keep (λ x. not (t x)) l))
        ≡ unless t (cond r (some x) (find f l))
    go true true e q h = rw (rest (o.0 q), e)
    go true false e q h = h
    go false true e q h = rw (q, e)
    go false false e q h = rw q h

module _ {A : Type 0} (number : A → ℕ) where
  pub find-new : (l : List A) (x : A) (n : ℕ) → find (λ y. eqb (number y) (number x)) l ≡ none
      → find (λ y. eqb (number y) n) (l ++ (x ∷ []))
      ≡ cond (eqb (number x) n) (some x) (find (λ y. eqb (number y) n) l)
  unfolding or_find
  find-new l x n new = rw (find-append (λ y. eqb (number y) n) l (x ∷ []), find-one)
      (by_eqb (λ t. or_find (find (λ y. eqb (number y) n) l) (cond t (some x) none)
      ≡ cond t (some x) (find (λ y. eqb (number y) n) l)) (number x) n (λ e. rw (rw e at new))
      (λ _. old (find (λ y. eqb (number y) n) l)))
    where
      old : (o : Option A) → or_find o none ≡ o
      old none = refl
      old (some y) = refl

  pub find-gone : (l : List A) (b n : ℕ)
      → find (λ y. eqb (number y) n) (keep (λ y. not (eqb (number y) b)) l)
      ≡ cond (eqb b n) none (find (λ y. eqb (number y) n) l)
  find-gone l b n = find-keep (λ y. eqb (number y) n) (λ y. not (eqb (number y) b)) l ∙ find-cong each l
      ∙ find-and (not (eqb b n)) (λ y. eqb (number y) n) l ∙ out (eqb b n)
    where
      each : (y : A) → not (eqb (number y) b) && eqb (number y) n ≡ not (eqb b n) && eqb (number y) n
      each y = by_eqb (λ t. not (eqb (number y) b) && t ≡ not (eqb b n) && t) (number y) n
          (λ e. rw (e, eqb-sym n b)) (λ _. simp and-false)

      out : (t : Bool) → cond (not t) (find (λ y. eqb (number y) n) l) none
          ≡ cond t none (find (λ y. eqb (number y) n) l)
      out true = refl
      out false = refl

  -- where no number of a list is taken, and n is one of its numbers
  pub not_taken : (taken : ℕ → Bool) (l : List A) (n : ℕ) → any (λ x. taken (number x)) l ≡ false
      → any (λ x. eqb (number x) n) l ≡ true → taken n ≡ false
  not_taken taken l n new h =
      let r = any-mem (λ x. eqb (number x) n) l h in
      let q : number r.0 ≡ n = eqb-true (number r.0) n r.2 in
      rw q at (none-mem (λ x. taken (number x)) r.1 new)
