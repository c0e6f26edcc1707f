-- What a place says of the list: the first entry that passes stands there, or none passes.
use Prim.Native.Nat.{ℕ, suc, ◌+◌, ◌-◌, ◌≤◌, ◌<◌, min}
use Rattle.std.proofs.Math.Path.{◌≡◌, refl}
use Rattle.std.proofs.Common.{sym, ap, ◌∙◌, length-take, get_or-take}
use Rattle.std.specs.Prelude.{Bool, ◌||◌, length, take, get_or}
use Rattle.std.proofs.Math.Bool.{true, false, cond}
use mathlib.Core.List.{List, [], ◌∷◌}
use Rattle.std.proofs.Math.Option.{none, some}
use native.Mathlib.Omega.{arith}
use Rattle.std.proofs.Math.Nat.{sub-zero}
use Rattle.rules.specs.Lists.{any, find}
use Rattle.rules.specs.ListsLaws.{find-any}
use Rattle.std.specs.List.{position_from}
use Rattle.std.specs.Option.{is_some}
use Rattle.std.specs.Prelude.{Some, None}
use Rattle.std.proofs.lemmas.Iterator.Adapters.{position_from-zero}
use Rattle.tables.specs.Finding.{place_of, first_of}
use Rattle.tables.specs.Looking.{option_of}
use Rattle.tables.specs.OptionLaws.{option-some, option_none}

module _ {A : Type 0} (f : A → Bool) where
  nowhere : (i : ℕ) (l : List A) → position_from f i l ≡ None → find f l ≡ none
  unfolding find
  nowhere i [] e = refl
  nowhere i (x ∷ l) e = go (f x) (nowhere (i + 1) l) e
    where
      go : (t : Bool) → (position_from f (i + 1) l ≡ None → find f l ≡ none)
          → cond t (Some i) (position_from f (i + 1) l) ≡ None → cond t (some x) (find f l) ≡ none
      go true h e = absurd (let z : ◌≡◌ {A = ℕ} 0 1 = cc in omega arith)
      go false h e = h e

  somewhere : (i : ℕ) (l : List A) → is_some (position_from f i l) ≡ any f l
  somewhere i [] = refl
  somewhere i (x ∷ l) = go (f x) (somewhere (i + 1) l)
    where
      go : (t : Bool) → is_some (position_from f (i + 1) l) ≡ any f l
          → is_some (cond t (Some i) (position_from f (i + 1) l)) ≡ t || any f l
      go true h = refl
      go false h = h

  -- a place is found exactly if some entry passes
  pub at-if-any : (l : List A) → is_some (place_of f l) ≡ any f l
  at-if-any l = ap is_some (position_from-zero f l) ∙ somewhere 0 l

  -- no entry passes
  pub not_found : (l : List A) → place_of f l ≡ None → find f l ≡ none
  not_found l e = nowhere 0 l (sym (position_from-zero f l) ∙ e)

module _ {A : Type 0} (f : A → Bool) (d : A) where
  record There (i : ℕ) (l : List A) (j : ℕ) : Type 0 where
    pub low : i ≤ j
    pub high : j < i + length l
    pub hit : f (get_or l (j - i) d) ≡ true
    pub same : find f l ≡ some (get_or l (j - i) d)

  there : (i : ℕ) (l : List A) (j : ℕ) → position_from f i l ≡ Some j → There i l j
  unfolding find
  there i [] j e = absurd (let z : ◌≡◌ {A = ℕ} 0 1 = cc in omega arith)
  there i (x ∷ l) j e = go (f x) refl (there (i + 1) l j) e
    where
      go : (t : Bool) → f x ≡ t → (position_from f (i + 1) l ≡ Some j → There (i + 1) l j)
          → cond t (Some i) (position_from f (i + 1) l) ≡ Some j → There i (x ∷ l) j
      go true q h e =
          let w : i ≡ j = cc in
          let o : j - i ≡ 0 = omega arith in
          record { low = omega arith; high = omega arith; hit = rw o q; same = rw (q, o) }
      go false q h e =
          let r = h e in
          let o : j - i ≡ suc (j - (i + 1)) = omega (arith, r.low) in
          record {
            low = omega (arith, r.low);
            high = omega (arith, r.high);
            hit = rw o r.hit;
            same = rw (q, o) r.same;
          }

  -- the entry at the place of a table's array is the first of its list that passes
  pub record Found (e : List A) (k j : ℕ) : Type 0 where
    pub held : j < k
    pub below : j < length e
    pub hit : f (get_or e j d) ≡ true
    pub same : find f (take k e) ≡ some (get_or e j d)
    pub passes : any f (take k e) ≡ true

  pub found : (e : List A) (k j : ℕ) → place_of f (take k e) ≡ Some j → Found e k j
  found e k j h =
      let r = there 0 (take k e) j (sym (position_from-zero f (take k e)) ∙ h) in
      let l : length (take k e) ≡ min k (length e) = length-take k e in
      let b : j < k = omega (arith, r.high) in
      let g : get_or (take k e) (j - 0) d ≡ get_or e j d = rw (sub-zero j) (get_or-take k e j d b) in
      let s : find f (take k e) ≡ some (get_or e j d) = r.same ∙ ap some g in
      record {
        held = b;
        below = omega (arith, r.high);
        hit = rw g at r.hit;
        same = s;
        passes = find-any f (take k e) _ s;
      }

module _ {A : Type 0} (f : A → Bool) where
  -- the library's search is that of the rules
  pub first : (l : List A) → first_of f l ≡ option_of (find f l)
  unfolding find
  first [] = refl
  first (x ∷ l) = go (f x) (first l)
    where
      go : (t : Bool) → first_of f l ≡ option_of (find f l)
          → cond t (Some x) (first_of f l) ≡ option_of (cond t (some x) (find f l))
      go true h = refl
      go false h = h

  pub first-some : (l : List A) (x : A) → first_of f l ≡ Some x → find f l ≡ some x
  first-some l x e = option-some (find f l) x (sym (first l) ∙ e)

  pub first_none : (l : List A) → first_of f l ≡ None → find f l ≡ none
  first_none l e = option_none (find f l) (sym (first l) ∙ e)
