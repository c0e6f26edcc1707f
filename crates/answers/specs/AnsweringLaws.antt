-- The first refusal that applies is the answer, and what the searches of the code tell of the view.
use Rattle.std.specs.Prelude.{ℕ, zero, suc, ◌-◌, ◌≤◌, ◌<◌, ◌≡◌, refl, Bool, true, false, ◌&&◌, ◌||◌, cond, List}
use Rattle.std.specs.Prelude.{[], ◌∷◌, map, eqb}
use Rattle.std.proofs.Common.{sym, ap, ◌∙◌, arith}
use Rattle.std.proofs.Math.Option.{Option, none, some}
use Rattle.std.specs.Option.{is_some as code_is_some}
use Rattle.manifest.specs.declared.Resource.{Resource}
use Rattle.rules.specs.declared.Part.{Part}
use Rattle.rules.specs.declared.Instance.{Instance}
use Rattle.rules.specs.declared.Reason.{Reason}
use Rattle.rules.specs.Lists.{any, find, is_some, map_option, upto}
use Rattle.rules.specs.ListsLaws.{any_append, find-map, map-map}
use Rattle.rules.specs.Refusals.{Refusal, ◌when◌}
use Rattle.rules.specs.Answer.{Answer, refused, decide}
use Rattle.state.specs.declared.App.{App}
use Rattle.state.specs.Stored.{row_of}
use Rattle.state.specs.Tables.{apps_of, app_at, part_at, run_in, is_resource, value_in}
use Rattle.tables.specs.Finding.{is_app, is_part, is_instance}
use Rattle.tables.specs.Looking.{option_of}

-- ---- the order of the refusals
module _ (n : Reason) (rs : List Refusal) (done : Answer) {r b : Bool} (asked : r ≡ b) where
  -- a refusal that applies is the answer
  pub refuses : r ≡ true → refused n ≡ decide (n when b ∷ rs) done
  unfolding decide
  refuses e = rw (sym asked ∙ e)

  -- one that does not apply leaves the answer to the rest
  pub passes : r ≡ false → decide rs done ≡ decide (n when b ∷ rs) done
  unfolding decide
  passes e = rw (sym asked ∙ e)

-- where none applies, the action is done
pub ends : {done : Answer} → done ≡ decide [] done
unfolding decide
ends = refl

-- ---- searches
module _ {A : Type 0} where
  pub found-if-any : (f : A → Bool) (l : List A) → any f l ≡ is_some (find f l)
  unfolding find is_some
  found-if-any f [] = refl
  found-if-any f (x ∷ l) = go (f x) (found-if-any f l)
    where
      go : (t : Bool) → any f l ≡ is_some (find f l) → t || any f l ≡ is_some (cond t (some x) (find f l))
      go true e = refl
      go false e = e

  pub some-map : {B : Type 0} (g : A → B) (o : Option A) → is_some o ≡ is_some (map_option g o)
  unfolding is_some map_option
  some-map g none = refl
  some-map g (some x) = refl

  pub here-if-any : {B : Type 0} (g : A → B) (f : A → Bool) (l : List A) → any f l ≡ is_some (map_option g (find f l))
  here-if-any g f l = found-if-any f l ∙ some-map g (find f l)

-- an app of the code against a row of the rules
app-search : (l : List App) (n : ℕ) → app_at (apps_of (map row_of l)) n
    ≡ map_option (λ a. (row_of a).app) (find (is_app n) l)
unfolding app_at
app-search l n = rw (map-map (λ r. r.app) row_of l) (find-map (λ a. eqb a.number n) (λ a. (row_of a).app) l)

pub app-here : (l : List App) (n : ℕ) → any (is_app n) l ≡ is_some (app_at (apps_of (map row_of l)) n)
app-here l n = here-if-any (λ a. (row_of a).app) (is_app n) l ∙ ap is_some (sym (app-search l n))

pub part-here : (l : List Part) (n : ℕ) → any (is_part n) l ≡ is_some (part_at l n)
unfolding part_at
part-here l n = found-if-any (is_part n) l

pub run-here : (l : List Instance) (n : ℕ) → any (is_instance n) l ≡ is_some (run_in l n)
unfolding run_in
run-here l n = here-if-any (λ i. i.component) (is_instance n) l

pub value-here : (l : List Resource) (p u : ℕ) → any (is_resource p u) l ≡ is_some (value_in l p u)
unfolding value_in
value-here l p u = here-if-any (λ r. r.value) (is_resource p u) l

-- the code's option against the rules'
pub some-here : {A : Type 0} (o : Option A) → code_is_some (option_of o) ≡ is_some o
unfolding is_some
some-here none = refl
some-here (some x) = refl

-- ---- two tests
module _ {a b x y : Bool} where
  pub or-both : a ≡ x → b ≡ y → a || b ≡ x || y
  or-both e h = rw (e, h)

  pub and_both : a ≡ x → b ≡ y → a && b ≡ x && y
  and_both e h = rw (e, h)

-- ---- the numbers 1 to n, from the highest
pub any-upto : (f : ℕ → Bool) (n : ℕ) → 0 < n → any f (upto n) ≡ f n || any f (upto (n - 1))
unfolding upto
any-upto f zero h = absurd (omega arith)
any-upto f (suc n) h =
    let w : suc n - 1 ≡ n = omega arith in
    any_append f (upto n) (suc n ∷ []) ∙ rw w (swap (any f (upto n)) (f (suc n)))
  where
    swap : (a b : Bool) → a || (b || false) ≡ b || a
    swap true true = refl
    swap true false = refl
    swap false true = refl
    swap false false = refl

pub none_left : (f : ℕ → Bool) (n : ℕ) → n ≤ 0 → any f (upto n) ≡ false
unfolding upto
none_left f zero h = refl
none_left f (suc n) h = absurd (omega arith)
