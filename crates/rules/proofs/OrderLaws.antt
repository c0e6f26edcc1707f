-- The answer is the smallest number that applies, and done exactly where none does: each action's list rises, and the
-- first that applies of a rising list is the least that does.
use Rattle.std.specs.Prelude.{ℕ, ◌≤◌, ◌<◌, ◌≡◌, refl, Bool, true, false, ◌&&◌, cond, List, [], ◌∷◌, map, ltb}
use Rattle.std.proofs.Common.{sym, ap, ◌∙◌, true≢false, arith, ltb-true}
use Rattle.std.proofs.lemmas.Bool.{false≢true}
use mathlib.Core.List.Memᴰ
use Rattle.rules.specs.declared.Ground.{Ground}
use Rattle.rules.specs.declared.Reason.{Reason}
use Rattle.rules.specs.Lists.{all}
use Rattle.rules.specs.ListsLaws.{all-mem, all_map, and_left, and_right}
use Rattle.rules.specs.Limits.{Limits}
use Rattle.rules.specs.Action.{install, uninstall, grant, revoke, grant_group, revoke_group, start, stop, lend}
use Rattle.rules.specs.Action.{withdraw, read, ask, malformed, Action, on_apps, on_grants, on_runs, write, on_loans}
use Rattle.rules.specs.Action.{query}
use Rattle.rules.specs.View.{View}
use Rattle.rules.specs.Refusals.{Refusal, refusals}
use Rattle.rules.specs.Answer.{Answer, done, refused, decide, answer, ground_for, value_for, number_of}
use Rattle.rules.specs.Order.{Applies, Ordered}

-- every number stands below all later ones
unfoldable rising : List ℕ → Bool
rising [] = true
rising (n ∷ l) = all (ltb n) l && rising l

abbrev numbers : List Refusal → List ℕ
numbers rs = map (λ r. number_of r.reason) rs

-- the numbers of each action's list rise
rise : (L : Limits) (v : View) (x : Action) → rising (numbers (refusals L v x)) ≡ true
unfolding refusals rising
rise L v (on_apps (install i m)) = refl
rise L v (on_apps (uninstall b)) = refl
rise L v (on_grants (grant b p)) = refl
rise L v (on_grants (revoke b p)) = refl
rise L v (on_grants (grant_group b p)) = refl
rise L v (on_grants (revoke_group b p)) = refl
rise L v (on_runs (start c n)) = refl
rise L v (on_runs (stop n)) = refl
rise L v (write p n u x) = refl
rise L v (on_loans (lend o p n u k)) = refl
rise L v (on_loans (withdraw o p n u)) = refl
rise L v (query (read p n u)) = refl
rise L v (query (ask b p)) = refl
rise L v (query malformed) = refl

-- the first that applies, of a rising list, is the least that does
least : (rs : List Refusal) (d : Answer) (q : Reason) → rising (numbers rs) ≡ true → decide rs d ≡ refused q
    → (d ≡ refused q → ⊥) → Applies rs q × ((n : Reason) → Applies rs n → number_of q ≤ number_of n)
unfolding decide rising
least [] d q h e nay = absurd (nay e)
least (r ∷ rs) d q h e nay = go r.applies refl e
    (λ z. least rs d q (and_right (all (ltb (number_of r.reason)) (numbers rs)) _ h) z nay)
  where
    Goal : Type 0
    Goal = Applies (r ∷ rs) q × ((n : Reason) → Applies (r ∷ rs) n → number_of q ≤ number_of n)

    below : (n : Reason) → Applies rs n → number_of r.reason < number_of n
    below n m = ltb-true (number_of r.reason) (number_of n)
        (all-mem (λ s. ltb (number_of r.reason) (number_of s.reason)) m
        (sym (all_map (ltb (number_of r.reason)) (λ s. number_of s.reason) rs)
        ∙ and_left _ (rising (numbers rs)) h))

    here : r.reason ≡ q → (n : Reason) → Applies (r ∷ rs) n → number_of q ≤ number_of n
    here s n (Memᴰ.head e) = let t : n ≡ q = ap (λ (r : Refusal). r.reason) e ∙ s in rw t (omega arith)
    here s n (Memᴰ.tail m) = let b = below n m in let t : number_of r.reason ≡ number_of q = ap number_of s in
        omega arith

    later : r.applies ≡ false → ((n : Reason) → Applies rs n → number_of q ≤ number_of n) → (n : Reason)
        → Applies (r ∷ rs) n → number_of q ≤ number_of n
    later a f n (Memᴰ.head e) = absurd (true≢false (ap (λ (r : Refusal). r.applies) e ∙ a))
    later a f n (Memᴰ.tail m) = f n m

    go : (t : Bool) → r.applies ≡ t → cond t (refused r.reason) (decide rs d) ≡ refused q
        → (decide rs d ≡ refused q → Applies rs q × ((n : Reason) → Applies rs n → number_of q ≤ number_of n)) → Goal
    go true a e more = let s : r.reason ≡ q = cc in
        (Memᴰ.head (λ i. record { reason = sym s i; applies = sym a i }), here s)
    go false a e more = let f = more e in (Memᴰ.tail f.0, later a f.1)

none-applies : (rs : List Refusal) (g : Ground) (w : ℕ) (d : Answer) → decide rs d ≡ done g w → (n : Reason)
    → Applies rs n → ⊥
unfolding decide
none-applies [] g w d e n m = elim m [ ]
none-applies (r ∷ rs) g w d e n (Memᴰ.head q) = let a : true ≡ r.applies = ap (λ (r : Refusal). r.applies) q in
    go r.applies a e
  where
    go : (t : Bool) → true ≡ t → cond t (refused r.reason) (decide rs d) ≡ done g w → ⊥
    go true a e = false≢true cc
    go false a e = true≢false a
none-applies (r ∷ rs) g w d e n (Memᴰ.tail m) = go r.applies e (λ z. none-applies rs g w d z n m)
  where
    go : (t : Bool) → cond t (refused r.reason) (decide rs d) ≡ done g w → (decide rs d ≡ done g w → ⊥) → ⊥
    go true e more = false≢true cc
    go false e more = more e

all_quiet : (rs : List Refusal) (d : Answer) → ((n : Reason) → Applies rs n → ⊥) → decide rs d ≡ d
unfolding decide
all_quiet [] d h = refl
all_quiet (r ∷ rs) d h = go r.applies refl (all_quiet rs d (λ n m. h n (Memᴰ.tail m)))
  where
    go : (t : Bool) → r.applies ≡ t → decide rs d ≡ d → cond t (refused r.reason) (decide rs d) ≡ d
    go true a more = absurd (h r.reason (Memᴰ.head (λ i. record { reason = r.reason; applies = sym a i })))
    go false a more = more

pub ordered : (L : Limits) (v : View) (x : Action) → Ordered L v x
unfolding answer
ordered L v x = record {
  done = (
    none-applies (refusals L v x) (ground_for v x) (value_for L v x)
        (done (ground_for v x) (value_for L v x)),
    all_quiet (refusals L v x) (done (ground_for v x) (value_for L v x)),
  );
  refused = λ q e. least (refusals L v x) (done (ground_for v x) (value_for L v x)) q (rise L v x) e
      (λ z. false≢true cc);
}
