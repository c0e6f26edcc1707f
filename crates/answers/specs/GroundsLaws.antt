-- What is asked of a thing looked for and of a ground, which tables an instance and a receiver depend on, and a write
-- as an access with another value.
use Rattle.std.specs.Prelude.{ℕ, ◌≡◌, refl, Bool, true, false, not, cond, List, [], ◌∷◌, Ok, Err, leb, length, take}
use Rattle.std.proofs.Common.{◌∙◌, sym, length-take, arith, leb-true, leb-false, le-leb}
use Rattle.std.proofs.Math.Option.{Option, none, some}
use Rattle.std.proofs.lemmas.Bool.{lt-leb}
use Rattle.rules.specs.declared.Ground.{Ground}
use Rattle.rules.specs.declared.Ground.TheVariants.{Nothing}
use Rattle.rules.specs.Limits.{large}
use Rattle.rules.specs.Lists.{missing, is_some, test, or_else}
use Rattle.rules.specs.Action.{Receiver, an_instance, an_app, writing, write}
use Rattle.rules.specs.View.{View}
use Rattle.rules.specs.Grounds.{is_ground, running_app}
use Rattle.rules.specs.Refusals.{Refusal, refusals, no_receiving_app, no_receiving_instance}
use Rattle.rules.specs.Answer.{Answer, done, refused, decide, answer, ground_for, value_for}
use Rattle.state.specs.Tables.{State, view_of}
use Rattle.tables.specs.Looking.{view_by}
use Rattle.answers.specs.Answering.{access_in}

-- ---- a thing looked for
module _ {A : Type 0} {o : Option A} where
  pub gone : o ≡ none → missing o ≡ true
  unfolding missing is_some
  gone e = rw e

  pub there : {x : A} → o ≡ some x → missing o ≡ false
  unfolding missing is_some
  there e = rw e

module _ {A : Type 0} (o : Option A) (f : A → Bool) where
  pub test-some : {x : A} → o ≡ some x → f x ≡ test o f
  unfolding test
  test-some e = rw e

  pub test-none : o ≡ none → false ≡ test o f
  unfolding test
  test-none e = rw e

-- ---- what is asked of a ground
pub unground : (o : Option Ground) (g : Ground) → o ≡ some g → {t : Bool} → t ≡ is_ground g
    → not t ≡ test o (λ g. not (is_ground g))
unfolding test
unground o g e h = rw (e, h)

pub done-as : (o : Option Ground) (w : Option ℕ) (g : Ground) (x : ℕ) → o ≡ some g → w ≡ some x
    → done g x ≡ done (or_else Nothing o) (or_else 0 w)
unfolding or_else
done-as o w g x e h = rw (e, h)

-- ---- room for a loan
pub room-is : {A : Type 0} (l : List A) (k : ℕ) → length l ≡ 128 → leb 128 k ≡ leb 128 (length (take k l))
room-is l k e = go (leb 128 k) refl
  where
    go : (t : Bool) → leb 128 k ≡ t → leb 128 k ≡ leb 128 (length (take k l))
    go true h = h ∙ sym (le-leb 128 (length (take k l)) (omega (arith, leb-true 128 k h, length-take k l)))
    go false h = h ∙ sym (lt-leb 128 (length (take k l)) (omega (arith, leb-false 128 k h, length-take k l)))

-- ---- which tables an instance and a receiver depend on
pub not-running-by : (s : State) (n : ℕ)
    → missing (running_app (view_by s.rows [] s.parts s.instances) n) ≡ missing (running_app (view_of s) n)
unfolding running_app view_by view_of
not-running-by s n = refl

pub receiving-app-by : (s : State) (r : Receiver)
    → no_receiving_app (view_by s.rows [] [] []) r ≡ no_receiving_app (view_of s) r
unfolding no_receiving_app view_by view_of
receiving-app-by s (an_instance n) = refl
receiving-app-by s (an_app b) = refl

pub receiving-instance-by : (s : State) (r : Receiver)
    → no_receiving_instance (view_by s.rows [] s.parts s.instances) r ≡ no_receiving_instance (view_of s) r
unfolding no_receiving_instance
receiving-instance-by s (an_instance n) = not-running-by s n
receiving-instance-by s (an_app b) = refl

-- ---- a write is an access with another value
unfoldable pub with_value : ℕ → Answer → Answer
with_value x (Ok d) = done d.ground x
with_value x (Err n) = refused n

pub revalued : (rs : List Refusal) (g : Ground) (x y : ℕ) → with_value x (decide rs (done g y)) ≡ decide rs (done g x)
unfolding decide with_value
revalued [] g x y = refl
revalued (r ∷ rs) g x y = go r.applies (revalued rs g x y)
  where
    go : (t : Bool) → with_value x (decide rs (done g y)) ≡ decide rs (done g x)
        → with_value x (cond t (refused r.reason) (decide rs (done g y)))
        ≡ cond t (refused r.reason) (decide rs (done g x))
    go true e = refl
    go false e = e

pub written : (v : View) (p n u x : ℕ) → with_value x (access_in v p n u writing) ≡ answer large v (write p n u x)
unfolding access_in answer refusals ground_for value_for
written v p n u x = revalued _ _ x _
