-- Laws of the searches: how they go through append, map and keep, and what is found.
use Prim.Native.Nat.{ℕ, suc, ◌≤◌}
use Rattle.std.proofs.Math.Path.{◌≡◌, refl, sym, ap}
use Rattle.std.proofs.Common.{◌∙◌, true≢false}
use Rattle.std.specs.Prelude.{Bool, ◌&&◌, ◌||◌}
use Rattle.std.proofs.Math.Bool.{true, false, not, cond, false≢true}
use mathlib.Core.List.{List, [], ◌∷◌, ◌++◌, map, Memᴰ}
use Rattle.std.proofs.Math.Option.{none, some}
use Rattle.std.proofs.Math.Dec.{eqb}
use Rattle.std.proofs.Math.ListN.{length}
use native.Mathlib.Omega.{arith}
use borrow.Author.Tests.{eqb-true, eqb-false, eq-eqb, ne_eqb, not-true}
use Rattle.rules.specs.Lists.{any, all, keep, find, distinct, mem, or_find, map_option}

-- Bool
pub and-false : (a : Bool) → a && false ≡ false
and-false true = refl
and-false false = refl

pub and-true : (a : Bool) → a && true ≡ a
and-true true = refl
and-true false = refl

pub or-false : (a : Bool) → a || false ≡ a
or-false true = refl
or-false false = refl

pub or_assoc : (a b c : Bool) → (a || b) || c ≡ a || (b || c)
or_assoc true b c = refl
or_assoc false b c = refl

pub and_assoc : (a b c : Bool) → (a && b) && c ≡ a && (b && c)
and_assoc true b c = refl
and_assoc false b c = refl

pub and_left : (a b : Bool) → a && b ≡ true → a ≡ true
and_left true b e = refl
and_left false b e = e

pub and_right : (a b : Bool) → a && b ≡ true → b ≡ true
and_right true b e = e
and_right false b e = absurd (false≢true e)

pub both : {a b : Bool} → a ≡ true → b ≡ true → a && b ≡ true
both p q = cc

pub eqb_same : (n : ℕ) → eqb n n ≡ true
eqb_same n = eq-eqb n n refl

pub eqb-sym : (m n : ℕ) → eqb m n ≡ eqb n m
eqb-sym m n = go (eqb m n) refl
  where
    go : (t : Bool) → eqb m n ≡ t → eqb m n ≡ eqb n m
    go true e = e ∙ sym (eq-eqb n m (sym (eqb-true m n e)))
    go false e = e ∙ sym (ne_eqb n m (λ q. eqb-false m n e (sym q)))

-- a test splits a proof in two: what holds of equal numbers, and what holds of the others
pub by_eqb {ℓ} : (P : Bool → Type ℓ) (m n : ℕ) → (m ≡ n → P true) → ((m ≡ n → ⊥) → P false) → P (eqb m n)
by_eqb P m n y z = go (eqb m n) refl
  where
    go : (t : Bool) → eqb m n ≡ t → P t
    go true e = y (eqb-true m n e)
    go false e = z (eqb-false m n e)

module _ {A : Type 0} where
  pub any_append : (f : A → Bool) (l m : List A) → any f (l ++ m) ≡ any f l || any f m
  any_append f [] m = refl
  any_append f (x ∷ l) m = rw (any_append f l m, or_assoc)

  pub any-one : (f : A → Bool) (x : A) → any f (x ∷ []) ≡ f x
  any-one f x = or-false (f x)

  pub any-keep : (f g : A → Bool) (l : List A) → any f (keep g l) ≡ any (λ x. g x && f x) l
  any-keep f g [] = refl
  any-keep f g (x ∷ l) = go (g x) (any-keep f g l)
    where
      go : (t : Bool) → any f (keep g l) ≡ any (λ x. g x && f x) l
          → any f (cond t (x ∷ keep g l) (keep g l)) ≡ (t && f x) || any (λ x. g x && f x) l
      go true e = rw e
      go false e = e

  pub any-cong : {f g : A → Bool} → ((x : A) → f x ≡ g x) → (l : List A) → any f l ≡ any g l
  any-cong {f} {g} e l = ap (λ (h : A → Bool). any h l) (λ i x. e x i)

  pub any-and : (c : Bool) (f : A → Bool) (l : List A) → any (λ x. c && f x) l ≡ c && any f l
  any-and true f l = refl
  any-and false f [] = refl
  any-and false f (x ∷ l) = any-and false f l

  pub all_append : (f : A → Bool) (l m : List A) → all f (l ++ m) ≡ all f l && all f m
  all_append f [] m = refl
  all_append f (x ∷ l) m = rw (all_append f l m, and_assoc)

module _ {A B : Type 0} where
  pub any-map : (f : B → Bool) (g : A → B) (l : List A) → any f (map g l) ≡ any (λ x. f (g x)) l
  any-map f g [] = refl
  any-map f g (x ∷ l) = rw (any-map f g l)

  pub keep-map : (f : B → Bool) (g : A → B) (l : List A) → keep f (map g l) ≡ map g (keep (λ x. f (g x)) l)
  keep-map f g [] = refl
  keep-map f g (x ∷ l) = go (f (g x)) (keep-map f g l)
    where
      go : (t : Bool) → keep f (map g l) ≡ map g (keep (λ x. f (g x)) l)
          → cond t (g x ∷ keep f (map g l)) (keep f (map g l))
          ≡ map g (cond t (x ∷ keep (λ x. f (g x)) l) (keep (λ x. f (g x)) l))
      go true e = rw e
      go false e = e

  pub map-append : (g : A → B) (l m : List A) → map g (l ++ m) ≡ map g l ++ map g m
  map-append g [] m = refl
  map-append g (x ∷ l) m = rw (map-append g l m)

pub mem-keep : (n : ℕ) (f : ℕ → Bool) (l : List ℕ) → mem n (keep f l) ≡ f n && mem n l
unfolding mem
mem-keep n f l = any-keep (eqb n) f l
    ∙ any-cong (λ x. by_eqb (λ t. f x && t ≡ f n && t) n x (λ e. rw e) (λ _. and-false (f x)
    ∙ sym (and-false (f n)))) l ∙ any-and (f n) (eqb n) l

pub cond-false : (t x : Bool) → cond t false x ≡ not t && x
cond-false true x = refl
cond-false false x = refl

pub cond-true : (t x : Bool) → cond t true x ≡ t || x
cond-true true x = refl
cond-true false x = refl

pub any-or : {A : Type 0} (f g : A → Bool) (l : List A) → any (λ x. f x || g x) l ≡ any f l || any g l
any-or f g [] = refl
any-or f g (x ∷ l) = rw (any-or f g l) (swap (f x) (g x) (any f l) (any g l))
  where
    swap : (a b c d : Bool) → (a || b) || (c || d) ≡ (a || c) || (b || d)
    swap true b c d = refl
    swap false true true d = refl
    swap false true false d = refl
    swap false false c d = refl

pub mem-append : (n : ℕ) (l m : List ℕ) → mem n (l ++ m) ≡ mem n l || mem n m
unfolding mem
mem-append n l m = any_append (eqb n) l m

pub mem-one : (n m : ℕ) → mem n (m ∷ []) ≡ eqb n m
unfolding mem
mem-one n m = any-one (eqb n) m

pub mem-none : (n : ℕ) → mem n [] ≡ false
unfolding mem
mem-none n = refl

-- Things that have a number and a list of numbers: a mark `p` on the thing numbered `a`.
module _ {A : Type 0} (num : A → ℕ) (get : A → List ℕ) where
  abbrev pub marked : List A → ℕ → ℕ → Bool
  marked rs a p = any (λ r. eqb (num r) a && mem p (get r)) rs

  -- mark q is added to the thing numbered b, which is there
  pub mark-add : (rs : List A) (b q a p : ℕ) → any (λ r. eqb (num r) b) rs ≡ true
      → any (λ r. eqb (num r) a && mem p (cond (eqb (num r) b) (get r ++ (q ∷ [])) (get r))) rs
      ≡ cond (eqb b a && eqb q p) true (marked rs a p)
  mark-add rs b q a p there = any-cong each rs
      ∙ any-or (λ r. c && eqb (num r) b) (λ r. eqb (num r) a && mem p (get r)) rs
      ∙ ap (λ (t : Bool). t || marked rs a p) (any-and c (λ r. eqb (num r) b) rs ∙ ap (λ (t : Bool). c && t) there
      ∙ and-true c) ∙ sym (cond-true c (marked rs a p))
    where
      c : Bool
      c = eqb b a && eqb q p

      dist : (s m t : Bool) → s && (m || t) ≡ ((s && t) && true) || (s && m)
      dist true true true = refl
      dist true true false = refl
      dist true false true = refl
      dist true false false = refl
      dist false m t = refl

      each : (r : A)
          → eqb (num r) a && mem p (cond (eqb (num r) b) (get r ++ (q ∷ [])) (get r)) ≡ (c && eqb (num r) b)
          || (eqb (num r) a && mem p (get r))
      each r = by_eqb (λ t. eqb (num r) a && mem p (cond t (get r ++ (q ∷ [])) (get r)) ≡ (c && t)
          || (eqb (num r) a && mem p (get r))) (num r) b
          (λ e. rw (e, mem-append p (get r) (q ∷ []), mem-one p q, eqb-sym p q)
          (dist (eqb b a) (mem p (get r)) (eqb q p)))
          (λ _. simp and-false)

  -- mark q is taken from the thing numbered b
  pub mark-drop : (rs : List A) (b q a p : ℕ)
      → any (λ r. eqb (num r) a && mem p (cond (eqb (num r) b) (keep (λ x. not (eqb x q)) (get r)) (get r))) rs
      ≡ cond (eqb b a && eqb q p) false (marked rs a p)
  mark-drop rs b q a p = any-cong each rs ∙ any-and (not c) (λ r. eqb (num r) a && mem p (get r)) rs
      ∙ sym (cond-false c (marked rs a p))
    where
      c : Bool
      c = eqb b a && eqb q p

      dist : (s t m : Bool) → s && (not t && m) ≡ not (s && t) && (s && m)
      dist true t m = refl
      dist false t m = refl

      each : (r : A)
          → eqb (num r) a && mem p (cond (eqb (num r) b) (keep (λ x. not (eqb x q)) (get r)) (get r)) ≡ not c
          && (eqb (num r) a && mem p (get r))
      each r = by_eqb (λ t. eqb (num r) a && mem p (cond t (keep (λ x. not (eqb x q)) (get r)) (get r)) ≡ not c
          && (eqb (num r) a && mem p (get r))) (num r) b
          (λ e. rw (e, mem-keep p (λ x. not (eqb x q)) (get r), eqb-sym p q) (dist (eqb b a) (eqb q p) (mem p (get r))))
          (λ n. by_eqb (λ t. t && mem p (get r) ≡ not c && (t && mem p (get r))) (num r) a
          (λ e. rw (ne_eqb b a (λ z. n (e ∙ sym z))))
          (λ _. simp and-false))

-- removals of things and of marks
module _ {A : Type 0} (num : A → ℕ) (get : A → List ℕ) where
  pub mark-remove : (rs : List A) (d : ℕ → Bool) (b a p : ℕ)
      → any (λ r. eqb (num r) a && mem p (keep (λ x. not (d x)) (get r))) (keep (λ r. not (eqb (num r) b)) rs)
      ≡ cond (eqb b a || d p) false (marked num get rs a p)
  mark-remove rs d b a p = any-keep (λ r. eqb (num r) a && mem p (keep (λ x. not (d x)) (get r)))
      (λ r. not (eqb (num r) b)) rs ∙ any-cong each rs ∙ any-and c (λ r. eqb (num r) a && mem p (get r)) rs
      ∙ sym (cond-false (eqb b a || d p) (marked num get rs a p))
    where
      c : Bool
      c = not (eqb b a || d p)

      both : (s d m : Bool) → not s && (not d && m) ≡ not (s || d) && m
      both true d m = refl
      both false d m = refl

      each : (r : A)
          → not (eqb (num r) b) && (eqb (num r) a && mem p (keep (λ x. not (d x)) (get r))) ≡ c
          && (eqb (num r) a && mem p (get r))
      each r = rw mem-keep
          (by_eqb (λ t. not (eqb (num r) b) && (t && (not (d p) && mem p (get r))) ≡ c && (t && mem p (get r)))
          (num r) a
          (λ e. rw (e, eqb-sym a b) (both (eqb b a) (d p) (mem p (get r))))
          (λ _. simp and-false))

module _ {A : Type 0} where
  pub find-holds : (f : A → Bool) (l : List A) (x : A) → find f l ≡ some x → f x ≡ true
  unfolding find
  find-holds f [] x e = let z : ◌≡◌ {A = Bool} false true = cc in absurd (false≢true z)
  find-holds f (y ∷ l) x e = go (f y) refl e (find-holds f l x)
    where
      go : (t : Bool) → f y ≡ t → cond t (some y) (find f l) ≡ some x → (find f l ≡ some x → f x ≡ true) → f x ≡ true
      go true q e h = let z : y ≡ x = cc in rw z at q
      go false q e h = h e

  pub find-any : (f : A → Bool) (l : List A) (x : A) → find f l ≡ some x → any f l ≡ true
  unfolding find
  find-any f [] x e = let z : ◌≡◌ {A = Bool} false true = cc in z
  find-any f (y ∷ l) x e = go (f y) e (find-any f l x)
    where
      go : (t : Bool) → cond t (some y) (find f l) ≡ some x → (find f l ≡ some x → any f l ≡ true) → t || any f l ≡ true
      go true e h = refl
      go false e h = h e

module _ {A : Type 0} (num : A → ℕ) (get : A → List ℕ) where
  -- removal of a thing
  pub mark-thing : (rs : List A) (b a p : ℕ)
      → any (λ r. eqb (num r) a && mem p (get r)) (keep (λ r. not (eqb (num r) b)) rs)
      ≡ cond (eqb b a) false (marked num get rs a p)
  mark-thing rs b a p = any-keep (λ r. eqb (num r) a && mem p (get r)) (λ r. not (eqb (num r) b)) rs ∙ any-cong each rs
      ∙ any-and (not (eqb b a)) (λ r. eqb (num r) a && mem p (get r)) rs
      ∙ sym (cond-false (eqb b a) (marked num get rs a p))
    where
      each : (r : A)
          → not (eqb (num r) b) && (eqb (num r) a && mem p (get r)) ≡ not (eqb b a) && (eqb (num r) a && mem p (get r))
      each r = by_eqb (λ t. not (eqb (num r) b) && (t && mem p (get r)) ≡ not (eqb b a) && (t && mem p (get r)))
          (num r) a
          (λ e. rw (e, eqb-sym a b))
          (λ _. simp and-false)

pub map-map : {A B C : Type 0} (g : B → C) (h : A → B) (l : List A) → map g (map h l) ≡ map (λ x. g (h x)) l
map-map g h [] = refl
map-map g h (x ∷ l) = rw (map-map g h l)

-- find
module _ {A : Type 0} where
  pub find-append : (f : A → Bool) (l m : List A) → find f (l ++ m) ≡ or_find (find f l) (find f m)
  unfolding find or_find
  find-append f [] m = refl
  find-append f (x ∷ l) m = go (f x) (find-append f l m)
    where
      go : (t : Bool) → find f (l ++ m) ≡ or_find (find f l) (find f m)
          → cond t (some x) (find f (l ++ m)) ≡ or_find (cond t (some x) (find f l)) (find f m)
      go true e = refl
      go false e = e

  pub find-one : (f : A → Bool) (x : A) → find f (x ∷ []) ≡ cond (f x) (some x) none
  unfolding find
  find-one f x = refl

  pub find-keep : (f g : A → Bool) (l : List A) → find f (keep g l) ≡ find (λ x. g x && f x) l
  unfolding find
  find-keep f g [] = refl
  find-keep f g (x ∷ l) = go (g x) (find-keep f g l)
    where
      go : (t : Bool) → find f (keep g l) ≡ find (λ x. g x && f x) l
          → find f (cond t (x ∷ keep g l) (keep g l)) ≡ cond (t && f x) (some x) (find (λ x. g x && f x) l)
      go true e = rw e
      go false e = e

  pub find-cong : {f g : A → Bool} → ((x : A) → f x ≡ g x) → (l : List A) → find f l ≡ find g l
  find-cong {f} {g} e l = ap (λ (h : A → Bool). find h l) (λ i x. e x i)

  pub find-and : (c : Bool) (f : A → Bool) (l : List A) → find (λ x. c && f x) l ≡ cond c (find f l) none
  unfolding find
  find-and true f l = refl
  find-and false f [] = refl
  find-and false f (x ∷ l) = find-and false f l

  pub find_none : (f : A → Bool) (l : List A) → any f l ≡ false → find f l ≡ none
  unfolding find
  find_none f [] e = refl
  find_none f (x ∷ l) e = go (f x) e (find_none f l)
    where
      go : (t : Bool) → t || any f l ≡ false → (any f l ≡ false → find f l ≡ none) → cond t (some x) (find f l) ≡ none
      go true e h = absurd (true≢false e)
      go false e h = h e

  pub none_any : (f : A → Bool) (l : List A) → find f l ≡ none → any f l ≡ false
  unfolding find
  none_any f [] e = refl
  none_any f (x ∷ l) e = go (f x) e (none_any f l)
    where
      go : (t : Bool) → cond t (some x) (find f l) ≡ none → (find f l ≡ none → any f l ≡ false) → t || any f l ≡ false
      go true e h = absurd (true≢false cc)
      go false e h = h e

pub find-map : {A B : Type 0} (f : B → Bool) (g : A → B) (l : List A)
    → find f (map g l) ≡ map_option g (find (λ x. f (g x)) l)
unfolding find map_option
find-map f g [] = refl
find-map f g (x ∷ l) = go (f (g x)) (find-map f g l)
  where
    go : (t : Bool) → find f (map g l) ≡ map_option g (find (λ x. f (g x)) l)
        → cond t (some (g x)) (find f (map g l)) ≡ map_option g (cond t (some x) (find (λ x. f (g x)) l))
    go true e = refl
    go false e = e

-- all, and witnesses
module _ {A : Type 0} where
  pub all-mono : (f g : A → Bool) → ((x : A) → f x ≡ true → g x ≡ true) → (l : List A) → all f l ≡ true
      → all g l ≡ true
  all-mono f g h [] e = refl
  all-mono f g h (x ∷ l) e = both (h x (and_left _ _ e)) (all-mono f g h l (and_right (f x) _ e))

  pub all_keep : (f g k : A → Bool) → ((x : A) → f x ≡ true → k x ≡ true → g x ≡ true) → (l : List A) → all f l ≡ true
      → all g (keep k l) ≡ true
  all_keep f g k h [] e = refl
  all_keep f g k h (x ∷ l) e = go (k x) refl (all_keep f g k h l (and_right (f x) _ e))
    where
      go : (t : Bool) → k x ≡ t → all g (keep k l) ≡ true → all g (cond t (x ∷ keep k l) (keep k l)) ≡ true
      go true q r = both (h x (and_left _ _ e) q) r
      go false q r = r

  -- something passes the test
  pub witness : (f : A → Bool) (l : List A) → any f l ≡ true → (x : A) × (f x ≡ true)
  witness f [] e = absurd (false≢true e)
  witness f (x ∷ l) e = go (f x) refl e (witness f l)
    where
      go : (t : Bool) → f x ≡ t → t || any f l ≡ true → (any f l ≡ true → (x : A) × (f x ≡ true))
          → (x : A) × (f x ≡ true)
      go true q e h = (x, q)
      go false q e h = h e

  -- of what all pass, something passes a test
  pub all_any : (f g : A → Bool) (l : List A) → all f l ≡ true → any g l ≡ true → (x : A) × (f x ≡ true) × (g x ≡ true)
  all_any f g [] a e = absurd (false≢true e)
  all_any f g (x ∷ l) a e = go (g x) refl e (all_any f g l (and_right (f x) _ a))
    where
      go : (t : Bool) → g x ≡ t → t || any g l ≡ true → (any g l ≡ true → (x : A) × (f x ≡ true) × (g x ≡ true))
          → (x : A) × (f x ≡ true) × (g x ≡ true)
      go true q e h = (x, and_left _ _ a, q)
      go false q e h = h e

  pub none-all : (f : A → Bool) (l : List A) → any f l ≡ false → all (λ x. not (f x)) l ≡ true
  none-all f [] e = refl
  none-all f (x ∷ l) e = go (f x) e (none-all f l)
    where
      go : (t : Bool) → t || any f l ≡ false → (any f l ≡ false → all (λ x. not (f x)) l ≡ true)
          → not t && all (λ x. not (f x)) l ≡ true
      go true e h = absurd (true≢false e)
      go false e h = h e

  pub any-mono : (f g : A → Bool) → ((x : A) → f x ≡ true → g x ≡ true) → (l : List A) → any f l ≡ true
      → any g l ≡ true
  any-mono f g h [] e = e
  any-mono f g h (x ∷ l) e = go (f x) refl e (any-mono f g h l)
    where
      go : (t : Bool) → f x ≡ t → t || any f l ≡ true → (any f l ≡ true → any g l ≡ true) → g x || any g l ≡ true
      go true q e r = rw (h x q)
      go false q e r = rw (r e) (or-true (g x))
        where
          or-true : (a : Bool) → a || true ≡ true
          or-true true = refl
          or-true false = refl

pub all_map : {A B : Type 0} (f : B → Bool) (g : A → B) (l : List A) → all f (map g l) ≡ all (λ x. f (g x)) l
all_map f g [] = refl
all_map f g (x ∷ l) = rw (all_map f g l)

pub or-true : (a : Bool) → a || true ≡ true
or-true true = refl
or-true false = refl

-- a test that is not true is false
pub flat : (t : Bool) → (t ≡ true → ⊥) → t ≡ false
flat true n = absurd (n refl)
flat false n = refl

pub clashing : {t : Bool} → t ≡ true → t ≡ false → ⊥
clashing p q = true≢false cc

-- what passes a test, passes it and one of two
pub any-split : {A : Type 0} (g f : A → Bool) (l : List A) → any f l ≡ true → any (λ x. g x && f x) l ≡ false
    → any (λ x. not (g x) && f x) l ≡ true
any-split g f [] e n = e
any-split g f (x ∷ l) e n = go (g x) (f x) e n (any-split g f l)
  where
    go : (s t : Bool) → t || any f l ≡ true → (s && t) || any (λ x. g x && f x) l ≡ false
        → (any f l ≡ true → any (λ x. g x && f x) l ≡ false → any (λ x. not (g x) && f x) l ≡ true)
        → (not s && t) || any (λ x. not (g x) && f x) l ≡ true
    go true true e n h = absurd (true≢false n)
    go true false e n h = h e n
    go false true e n h = refl
    go false false e n h = h e n

-- members
module _ {A : Type 0} where
  pub all-mem : (f : A → Bool) {x : A} {l : List A} → Memᴰ x l → all f l ≡ true → f x ≡ true
  all-mem f (Memᴰ.head e) a = rw e (and_left _ _ a)
  all-mem f (Memᴰ.tail {x = y} m) a = all-mem f m (and_right (f y) _ a)

  pub mem-all : (f : A → Bool) (l : List A) → ((x : A) → Memᴰ x l → f x ≡ true) → all f l ≡ true
  mem-all f [] h = refl
  mem-all f (x ∷ l) h = both (h x (Memᴰ.head refl)) (mem-all f l (λ y m. h y (Memᴰ.tail m)))

  pub keep-mem : (f g : A → Bool) (l : List A) → ((x : A) → Memᴰ x l → f x ≡ g x) → keep f l ≡ keep g l
  keep-mem f g [] h = refl
  keep-mem f g (x ∷ l) h = rw (h x (Memᴰ.head refl), keep-mem f g l (λ y m. h y (Memᴰ.tail m)))

  pub keep_all : (f : A → Bool) (l : List A) → ((x : A) → Memᴰ x l → f x ≡ true) → keep f l ≡ l
  keep_all f [] h = refl
  keep_all f (x ∷ l) h = rw (h x (Memᴰ.head refl), keep_all f l (λ y m. h y (Memᴰ.tail m)))

  pub none-mem : (f : A → Bool) {x : A} {l : List A} → Memᴰ x l → any f l ≡ false → f x ≡ false
  none-mem f {x} {l} m e = go (f x) (all-mem (λ y. not (f y)) m (none-all f l e))
    where
      go : (t : Bool) → not t ≡ true → t ≡ false
      go true e = absurd (false≢true e)
      go false e = refl

-- no two alike
module _ {A : Type 0} (same : A → A → Bool) where
  pub distinct-keep : (f : A → Bool) (l : List A) → distinct same l ≡ true → distinct same (keep f l) ≡ true
  unfolding distinct
  distinct-keep f [] e = refl
  distinct-keep f (x ∷ l) e = go (f x) (distinct-keep f l (and_right (not (any (same x) l)) _ e))
      (and_left _ (distinct same l) e)
    where
      go : (t : Bool) → distinct same (keep f l) ≡ true → not (any (same x) l) ≡ true
          → distinct same (cond t (x ∷ keep f l) (keep f l)) ≡ true
      go true r n = both {a = not (any (same x) (keep f l))}
          (rw (flat (any (same x) (keep f l))
          (λ b. clash₁ (any (same x) l) n
          (any-mono (λ y. f y && same x y) (same x) (λ y h. and_right (f y) _ h) l
          (rw (any-keep (same x) f l) at b))))) r
        where
          clash₁ : (t : Bool) → not t ≡ true → t ≡ true → ⊥
          clash₁ true p q = false≢true p
          clash₁ false p q = false≢true q
      go false r n = r

  pub distinct-one : (l : List A) (y : A) → any (λ x. same x y) l ≡ false → distinct same l ≡ true
      → distinct same (l ++ (y ∷ [])) ≡ true
  unfolding distinct
  distinct-one [] y n e = refl
  distinct-one (x ∷ l) y n e = go (same x y) refl n (distinct-one l y)
    where
      go : (t : Bool) → same x y ≡ t → t || any (λ x. same x y) l ≡ false
          → (any (λ x. same x y) l ≡ false → distinct same l ≡ true → distinct same (l ++ (y ∷ [])) ≡ true)
          → not (any (same x) (l ++ (y ∷ []))) && distinct same (l ++ (y ∷ [])) ≡ true
      go true q n h = absurd (true≢false n)
      go false q n h = both {a = not (any (same x) (l ++ (y ∷ [])))}
          (rw (any_append (same x) l (y ∷ []), q, or-false) (and_left _ (distinct same l) e))
          (h n (and_right (not (any (same x) l)) _ e))

  -- a change that leaves the test's answers
  pub distinct-map : (g : A → A) → ((x y : A) → same (g x) (g y) ≡ same x y) → (l : List A)
      → distinct same (map g l) ≡ distinct same l
  unfolding distinct
  distinct-map g h [] = refl
  distinct-map g h (x ∷ l) = rw (any-map (same (g x)) g l, any-cong (h x) l, distinct-map g h l)

module _ {A : Type 0} where
  pub keep-passes : (f : A → Bool) (l : List A) → all f (keep f l) ≡ true
  keep-passes f [] = refl
  keep-passes f (x ∷ l) = go (f x) refl (keep-passes f l)
    where
      go : (t : Bool) → f x ≡ t → all f (keep f l) ≡ true → all f (cond t (x ∷ keep f l) (keep f l)) ≡ true
      go true q e = both q e
      go false q e = e

  -- where all pass c, asking for c asks for nothing
  pub any-all : (f c : A → Bool) (l : List A) → all c l ≡ true → any (λ x. f x && c x) l ≡ any f l
  any-all f c [] e = refl
  any-all f c (x ∷ l) e = rw (and_left (c x) _ e, and-true, any-all f c l (and_right (c x) _ e))

pub none_kept : {A : Type 0} (f : A → Bool) (l : List A) → ((x : A) → Memᴰ x l → f x ≡ false) → keep f l ≡ []
none_kept f [] h = refl
none_kept f (x ∷ l) h = rw (h x (Memᴰ.head refl)) (none_kept f l (λ y m. h y (Memᴰ.tail m)))

-- counting: a list of things with distinct numbers, all among distinct numbers u, is as long as the part of u that its
-- numbers are
module _ where
  count-zero : (f : ℕ → Bool) (u : List ℕ) (m : ℕ) → any (eqb m) u ≡ false
      → length (keep (λ n. eqb m n || f n) u) ≡ length (keep f u)
  count-zero f u m n = ap length (keep-mem (λ n. eqb m n || f n) f u (λ x k. rw (none-mem (eqb m) k n)))

  count-one : (f : ℕ → Bool) (u : List ℕ) (m : ℕ) → distinct eqb u ≡ true → any (eqb m) u ≡ true → f m ≡ false
      → length (keep (λ n. eqb m n || f n) u) ≡ suc (length (keep f u))
  unfolding distinct
  count-one f [] m d e n = absurd (false≢true e)
  count-one f (x ∷ u) m d e n = by_eqb (λ t. t || any (eqb m) u ≡ true
      → length (cond (t || f x) (x ∷ keep (λ n. eqb m n || f n) u) (keep (λ n. eqb m n || f n) u))
      ≡ suc (length (cond (f x) (x ∷ keep f u) (keep f u)))) m x
      (λ q _. here q (f x) (rw q at n))
      (λ q e. there (f x) (count-one f u m (and_right (not (any (eqb x) u)) _ d) e n)) e
    where
      here : m ≡ x → (t : Bool) → f x ≡ false
          → length (x ∷ keep (λ n. eqb m n || f n) u) ≡ suc (length (cond (f x) (x ∷ keep f u) (keep f u)))
      here q t z = rw z
          (ap suc (count-zero f u m
          (rw (← q) at (not-true (any (eqb x) u) (and_left (not (any (eqb x) u)) (distinct eqb u) d)))))

      there : (t : Bool) → length (keep (λ n. eqb m n || f n) u) ≡ suc (length (keep f u))
          → length (cond t (x ∷ keep (λ n. eqb m n || f n) u) (keep (λ n. eqb m n || f n) u))
          ≡ suc (length (cond t (x ∷ keep f u) (keep f u)))
      there true h = ap suc h
      there false h = h

  pub counted : {A : Type 0} (num : A → ℕ) (u : List ℕ) → distinct eqb u ≡ true → (l : List A)
      → distinct (λ x y. eqb (num x) (num y)) l ≡ true → all (λ x. any (eqb (num x)) u) l ≡ true
      → length l ≡ length (keep (λ n. any (λ x. eqb (num x) n) l) u)
  unfolding distinct
  counted num u du [] d e = sym (ap length (keep-never u))
    where
      keep-never : (u : List ℕ) → keep (λ n. false) u ≡ []
      keep-never u = none_kept (λ n. false) u (λ x _. refl)
  counted num u du (x ∷ l) d e = ap suc
      (counted num u du l (and_right (not (any (λ y. eqb (num x) (num y)) l)) _ d)
      (and_right (any (eqb (num x)) u) _ e))
      ∙ sym (count-one (λ n. any (λ x. eqb (num x) n) l) u (num x) du (and_left _ (all (λ x. any (eqb (num x)) u) l) e)
      (any-cong (λ y. eqb-sym (num y) (num x)) l
      ∙ not-true (any (λ y. eqb (num x) (num y)) l) (and_left _ (distinct (λ x y. eqb (num x) (num y)) l) d)))

pub find-in : {A : Type 0} (f g : A → Bool) (l : List A) (x : A) → find f l ≡ some x → g x ≡ true → any g l ≡ true
unfolding find
find-in f g [] x e h = absurd (true≢false cc)
find-in f g (y ∷ l) x e h = go (f y) e (λ q. find-in f g l x q h)
  where
    go : (t : Bool) → cond t (some y) (find f l) ≡ some x → (find f l ≡ some x → any g l ≡ true) → g y || any g l ≡ true
    go true e r = let z : y ≡ x = cc in rw (z, h)
    go false e r = rw (r e) (or-true (g y))

-- what is found passes what all pass
pub all_found : {A : Type 0} (f g : A → Bool) (l : List A) (x : A) → find f l ≡ some x → all g l ≡ true → g x ≡ true
unfolding find
all_found f g [] x e h = absurd (true≢false cc)
all_found f g (y ∷ l) x e h = go (f y) e (λ q. all_found f g l x q (and_right (g y) _ h))
  where
    go : (t : Bool) → cond t (some y) (find f l) ≡ some x → (find f l ≡ some x → g x ≡ true) → g x ≡ true
    go true e more = let q : y ≡ x = cc in rw q at (and_left (g y) (all g l) h)
    go false e more = more e

pub find-mem : {A : Type 0} (f g : A → Bool) (l : List A) → ((x : A) → Memᴰ x l → f x ≡ g x) → find f l ≡ find g l
unfolding find
find-mem f g [] h = refl
find-mem f g (x ∷ l) h = rw (h x (Memᴰ.head refl), find-mem f g l (λ y m. h y (Memᴰ.tail m)))

-- of things with distinct numbers, the one that has the number is the one that is found
pub found : {A : Type 0} (num : A → ℕ) {x : A} {l : List A} → Memᴰ x l
    → distinct (λ x y. eqb (num x) (num y)) l ≡ true → find (λ y. eqb (num y) (num x)) l ≡ some x
unfolding find distinct
found num {x} (Memᴰ.head {x = y} {xs = l} e) d = rw (e, eqb_same (num y))
found num {x} (Memᴰ.tail {x = y} {xs = l} m) d = rw
    (none-mem (λ z. eqb (num y) (num z)) m
    (not-true (any (λ z. eqb (num y) (num z)) l)
    (and_left (not (any (λ z. eqb (num y) (num z)) l)) (distinct (λ x y. eqb (num x) (num y)) l) d)))
    (found num m (and_right (not (any (λ z. eqb (num y) (num z)) l)) _ d))

module _ {A : Type 0} where
  pub any-mem : (f : A → Bool) (l : List A) → any f l ≡ true → (x : A) × Memᴰ x l × (f x ≡ true)
  any-mem f [] e = absurd (false≢true e)
  any-mem f (x ∷ l) e = go (f x) refl e (any-mem f l)
    where
      go : (t : Bool) → f x ≡ t → t || any f l ≡ true → (any f l ≡ true → (x : A) × Memᴰ x l × (f x ≡ true))
          → (y : A) × Memᴰ y (x ∷ l) × (f y ≡ true)
      go true q e h = (x, Memᴰ.head refl, q)
      go false q e h = let r = h e in (r.0, Memᴰ.tail r.1, r.2)

  pub mem-any : (f : A → Bool) {x : A} {l : List A} → Memᴰ x l → f x ≡ true → any f l ≡ true
  mem-any f (Memᴰ.head {x = y} {xs = l} e) h = let z : f y ≡ true = rw e at h in rw z
  mem-any f (Memᴰ.tail {x = y} {xs = l} m) h = rw (mem-any f m h) (or-true (f y))

  -- a list changed where a test says so
  pub cond-all : (P : List A → Bool) (t : Bool) (l k : List A) → (t ≡ true → P k ≡ true) → P l ≡ true
      → P (cond t k l) ≡ true
  cond-all P true l k h e = h refl
  cond-all P false l k h e = e

module _ {A : Type 0} where
  pub keep_append : (f : A → Bool) (l m : List A) → keep f (l ++ m) ≡ keep f l ++ keep f m
  keep_append f [] m = refl
  keep_append f (x ∷ l) m = go (f x) (keep_append f l m)
    where
      go : (t : Bool) → keep f (l ++ m) ≡ keep f l ++ keep f m
          → cond t (x ∷ keep f (l ++ m)) (keep f (l ++ m)) ≡ cond t (x ∷ keep f l) (keep f l) ++ keep f m
      go true e = rw e
      go false e = e

  pub keep-keep : (f g : A → Bool) (l : List A) → keep f (keep g l) ≡ keep (λ x. g x && f x) l
  keep-keep f g [] = refl
  keep-keep f g (x ∷ l) = go (g x) (keep-keep f g l)
    where
      go : (t : Bool) → keep f (keep g l) ≡ keep (λ x. g x && f x) l
          → keep f (cond t (x ∷ keep g l) (keep g l))
          ≡ cond (t && f x) (x ∷ keep (λ x. g x && f x) l) (keep (λ x. g x && f x) l)
      go true e = rw e
      go false e = e

  pub length-keep : (f : A → Bool) (l : List A) → length (keep f l) ≤ length l
  length-keep f [] = omega arith
  length-keep f (x ∷ l) = go (f x) (length-keep f l)
    where
      go : (t : Bool) → length (keep f l) ≤ length l → length (cond t (x ∷ keep f l) (keep f l)) ≤ suc (length l)
      go true h = omega arith
      go false h = omega arith

module _ {A : Type 0} (same : A → A → Bool) where
  pub distinct_append : (l m : List A) → distinct same l ≡ true → distinct same m ≡ true
      → ((x y : A) → Memᴰ x l → Memᴰ y m → same x y ≡ false) → distinct same (l ++ m) ≡ true
  unfolding distinct
  distinct_append [] m d e h = e
  distinct_append (x ∷ l) m d e h = both {a = not (any (same x) (l ++ m))}
      (rw (
        any_append (same x) l m,
        not-true (any (same x) l)
            (and_left (not (any (same x) l)) (distinct same l) d),
        flat (any (same x) m)
            (λ b. let r = any-mem (same x) m b in clashing r.2 (h x r.0 (Memᴰ.head refl) r.1)),
      ))
      (distinct_append l m (and_right (not (any (same x) l)) _ d) e (λ y z p q. h y z (Memᴰ.tail p) q))

pub length-map : {A B : Type 0} (f : A → B) (l : List A) → length (map f l) ≡ length l
length-map f [] = refl
length-map f (x ∷ l) = ap suc (length-map f l)

pub distinct-image : {A B : Type 0} (same : B → B → Bool) (g : A → B) (l : List A)
    → distinct same (map g l) ≡ distinct (λ x y. same (g x) (g y)) l
unfolding distinct
distinct-image same g [] = refl
distinct-image same g (x ∷ l) = rw (any-map (same (g x)) g l, distinct-image same g l)

-- things of some number stay when those of another go
pub other : {A : Type 0} (num : A → ℕ) (l : List A) (n m : ℕ) → eqb m n ≡ false → any (λ r. eqb (num r) m) l ≡ true
    → any (λ r. eqb (num r) m) (keep (λ r. not (eqb (num r) n)) l) ≡ true
other num l n m d e = any-keep (λ r. eqb (num r) m) (λ r. not (eqb (num r) n)) l
    ∙ any-mono (λ r. eqb (num r) m) (λ r. not (eqb (num r) n) && eqb (num r) m)
    (λ r h. let q : num r ≡ m = eqb-true (num r) m h in rw (q, d, eqb_same m)) l e

pub found_at : {A : Type 0} (num : A → ℕ) (p : ℕ) {x : A} {l : List A} → Memᴰ x l
    → distinct (λ x y. eqb (num x) (num y)) l ≡ true → num x ≡ p → find (λ y. eqb (num y) p) l ≡ some x
found_at num p {x} {l} m d e = ap (λ (n : ℕ). find (λ y. eqb (num y) n) l) (sym e) ∙ found num m d
