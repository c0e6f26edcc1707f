-- Searches in lists and tests on what may be missing, all of them computed; the words in which the rules are said.
-- Document 01, "Numbers that come back": a condition about something missing does not apply (`test`).
use Rattle.std.specs.Prelude.{ℕ, zero, suc, Bool, true, false, not, ◌&&◌, cond, List, [], ◌∷◌, ◌++◌, eqb}
use Rattle.std.proofs.Math.Option.{Option, none, some}
pub use Rattle.std.specs.List.{list_any as any, list_all as all, filter as keep}

module _ {A : Type 0} where
  -- the first that passes
  unfoldable pub find : (A → Bool) → List A → Option A
  find f [] = none
  find f (x ∷ l) = cond (f x) (some x) (find f l)

  -- no two are the same
  unfoldable pub distinct : (A → A → Bool) → List A → Bool
  distinct same [] = true
  distinct same (x ∷ l) = not (any (same x) l) && distinct same l

unfoldable pub mem : ℕ → List ℕ → Bool
mem n l = any (eqb n) l

-- 1 to n
unfoldable pub upto : ℕ → List ℕ
upto zero = []
upto (suc n) = upto n ++ (suc n ∷ [])

-- what may be missing
module _ {A : Type 0} where
  unfoldable pub is_some : Option A → Bool
  is_some none = false
  is_some (some x) = true

  unfoldable pub missing : Option A → Bool
  missing o = not (is_some o)

  -- what a test says of a thing; of a missing thing it says nothing
  unfoldable pub test : Option A → (A → Bool) → Bool
  test none f = false
  test (some x) f = f x

  unfoldable pub bind : {B : Type 0} → Option A → (A → Option B) → Option B
  bind none f = none
  bind (some x) f = f x

  unfoldable pub map_option : {B : Type 0} → (A → B) → Option A → Option B
  map_option g none = none
  map_option g (some x) = some (g x)

  unfoldable pub or_else : A → Option A → A
  or_else y none = y
  or_else y (some x) = x

  -- the first of two searches that finds something
  unfoldable pub or_find : Option A → Option A → Option A
  or_find none y = y
  or_find (some x) y = some x
