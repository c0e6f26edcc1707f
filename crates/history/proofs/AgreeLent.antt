-- The count of loans from the log agrees with the length of the loan table: at each action, the pairs of the table that
-- are still lent at the end and not lent again later.
use Rattle.std.specs.Prelude.{ℕ, ◌+◌, ◌≡◌, Bool, true, ◌&&◌, ◌||◌, eqb}
use Rattle.std.proofs.Math.Path.{refl, sym, ap}
use Rattle.std.proofs.Common.{◌∙◌, length-append, add-zero, add_comm, arith}
use Rattle.std.proofs.Math.Bool.{false, not, cond}
use Rattle.std.proofs.lemmas.Bool.{false≢true}
use mathlib.Core.List.{List, [], ◌∷◌, map}
use Rattle.std.proofs.Math.Option.{Option}
use Rattle.std.proofs.Math.ListN.{length}
use Rattle.rules.specs.declared.Loan.{Loan}
use Rattle.rules.specs.declared.Part.{Part}
use Rattle.rules.specs.Lists.{any, keep, test}
use Rattle.rules.specs.ListsLaws.{all-mem, none-mem, keep_append, keep-keep, keep-map, keep-mem, length-map, eqb-sym}
use Rattle.rules.specs.ListsLaws.{eqb_same, and-true, and-false}
use Rattle.rules.specs.Action.{Receiver, an_instance, an_app, receiver_kind, receiver_number, same_receiver, Op}
use Rattle.rules.specs.Action.{carries}
use Rattle.rules.specs.Action.{install, uninstall, start, stop, lend, withdraw, Action, on_apps, on_grants, on_runs}
use Rattle.rules.specs.Action.{write}
use Rattle.rules.specs.Action.{on_loans, query}
use Rattle.rules.specs.DoneLaws.{lends_some}
use Rattle.state.specs.Tables.{is_to, is_on, is_loan}
use Rattle.state.specs.Effects.{loan_of, loans_after}
use Rattle.state.proofs.LookupLaws.{Only, only-distinct, some-lent}
use Rattle.state.specs.Valid.{same_loan}
use Rattle.history.specs.Log.{Past, Pair, is_of, same_pair, lends, lasting, lent_by}
use Rattle.history.proofs.AgreeLoans.{Alike, alike}
use Rattle.history.proofs.AgreePairs.{Fine, of_kind, receiver_of, pair_of, some_in, kind-is, number_is}
use Rattle.history.proofs.AgreePairs.{receiver-of-new, added, pairs-step}

-- the pair is lent again later
abbrev pub later : List Past → Pair → Bool
later newer k = any (λ e. lends k e.action) newer

abbrev pub left_pairs : (Pair → Bool) → List Past → List Loan → ℕ
left_pairs still newer ls = length (keep (λ k. still k && not (later newer k)) (map pair_of ls))

-- at most one entry of a list is hit: it, and the others
split_one : {A : Type 0} (f hit : A → Bool) (c : Bool) → ((x : A) → hit x ≡ true → f x ≡ c) → (l : List A) → Only hit l
    → any hit l ≡ true → length (keep f l) ≡ cond c 1 0 + length (keep (λ x. f x && not (hit x)) l)
split_one f hit c is [] o e = absurd (false≢true e)
split_one {A} f hit c is (x ∷ l) o e = go (hit x) refl e (split_one f hit c is l o.1)
  where
    unhit : List A
    unhit = keep (λ x. f x && not (hit x)) l

    rest : any hit l ≡ false → unhit ≡ keep f l
    rest n = keep-mem (λ x. f x && not (hit x)) f l (λ x m. rw (none-mem hit m n) (and-true (f x)))

    one : (t : Bool) → length (cond t (x ∷ keep f l) (keep f l))
        ≡ cond t 1 0 + length (cond (t && false) (x ∷ keep f l) (keep f l))
    one true = omega arith
    one false = omega arith

    more : (t : Bool) (n : ℕ) → length (keep f l) ≡ n + length unhit
        → length (cond t (x ∷ keep f l) (keep f l)) ≡ n + length (cond (t && true) (x ∷ unhit) unhit)
    more true n h = omega arith
    more false n h = h

    go : (t : Bool) → hit x ≡ t → t || any hit l ≡ true
        → (any hit l ≡ true → length (keep f l) ≡ cond c 1 0 + length unhit)
        → length (cond (f x) (x ∷ keep f l) (keep f l))
        ≡ cond c 1 0 + length (cond (f x && not t) (x ∷ unhit) unhit)
    go true q e h = rw (rest (o.0 q), is x q) (one c)
    go false q e h = more (f x) (cond c 1 0) (h e)

-- a loan is of a pair exactly if it is to the receiver on the resource
pair_is : (r : Receiver) (p u : ℕ) (x : Loan) → Alike r p u x
    → pair_of x ≡ record { receiver = r; provider = p; uri = u }
unfolding pair_of receiver_of loan_of
pair_is r p u x a = rw (a.kind, a.receiver, a.provider, a.uri)
    (ap (λ (j : Receiver). record { receiver = j; provider = p; uri = u }) (receiver-of-new r p u 0))

same-pair : (r : Receiver) (p u : ℕ) (x : Loan) → of_kind x ≡ true
    → same_pair (record { receiver = r; provider = p; uri = u }) (pair_of x) ≡ is_loan r p u x
unfolding same_pair same_receiver pair_of is_loan is_to is_on
same-pair r p u x h = rw (
  ← kind-is x h,
  ← number_is x,
  eqb-sym (receiver_kind r) x.kind,
  eqb-sym (receiver_number r) x.receiver,
  eqb-sym p x.provider,
  eqb-sym u x.uri,
)

only-loan : (ls : List Loan) → Fine ls → (r : Receiver) (p u : ℕ) → Only (is_loan r p u) ls
only-loan ls fine r p u = only-distinct (is_loan r p u) same_loan same ls fine.pairs
  where
    same : (x y : Loan) → is_loan r p u x ≡ true → is_loan r p u y ≡ true → same_loan x y ≡ true
    same x y e f =
        let a = alike r p u x e in
        let b = alike r p u y f in
        rw (
          a.kind,
          a.receiver,
          a.provider,
          a.uri,
          b.kind,
          b.receiver,
          b.provider,
          b.uri,
          eqb_same (receiver_kind r),
          eqb_same (receiver_number r),
          eqb_same p,
          eqb_same u,
        )

module _ (still : Pair → Bool) (newer : List Past) (v : ℕ) where
  -- still lent, and this is its latest lend
  abbrev lasts : Pair → Bool
  lasts k = still k && not (later newer k)

  lent-count : (ls : List Loan) → Fine ls → (o p n u : ℕ) (r : Receiver)
      → length (keep lasts (map pair_of ls)) + length (keep lasts (added (some_in ls) (on_loans (lend o p n u r))))
      ≡ lasting still newer (on_loans (lend o p n u r))
      + left_pairs still (record { action = on_loans (lend o p n u r); value = v } ∷ newer) ls
  unfolding added lasting lends
  lent-count ls fine o p n u r =
      ap (λ (n : ℕ). n + length (keep lasts (cond (some_in ls pair) [] (pair ∷ [])))) (by-loans lasts)
      ∙ go (some_in ls pair) refl
      ∙ ap (λ (n : ℕ). cond (lasts pair) 1 0 + n) (others ∙ sym (by-loans less))
    where
      pair : Pair
      pair = record { receiver = r; provider = p; uri = u }

      less : Pair → Bool
      less k = still k && not (same_pair pair k || later newer k)

      by-loans : (f : Pair → Bool) → length (keep f (map pair_of ls)) ≡ length (keep (λ x. f (pair_of x)) ls)
      by-loans f = ap length (keep-map f pair_of ls) ∙ length-map pair_of (keep (λ x. f (pair_of x)) ls)

      hits : any (is_loan r p u) ls ≡ some_in ls pair
      hits = unfold some_in in sym (some-lent ls r p u fine.operations)

      out : (a b c : Bool) → (a && not b) && not c ≡ a && not (c || b)
      out true true true = refl
      out true true false = refl
      out true false true = refl
      out true false false = refl
      out false b c = refl

      rest : List Loan
      rest = keep (λ x. lasts (pair_of x) && not (is_loan r p u x)) ls

      others : length rest ≡ length (keep (λ x. less (pair_of x)) ls)
      others = ap length (keep-mem (λ x. lasts (pair_of x) && not (is_loan r p u x)) (λ x. less (pair_of x)) ls
          (λ x m. rw (← same-pair r p u x (all-mem of_kind m fine.kinds))
          (out (still (pair_of x)) (later newer (pair_of x)) (same_pair pair (pair_of x)))))

      one : (t : Bool) → length (cond t (pair ∷ []) []) ≡ cond t 1 0
      one true = refl
      one false = refl

      go : (t : Bool) → some_in ls pair ≡ t
          → length (keep (λ x. lasts (pair_of x)) ls) + length (keep lasts (cond t [] (pair ∷ [])))
          ≡ cond (lasts pair) 1 0 + length rest
      go true e = (add-zero _ ∙ split_one (λ x. lasts (pair_of x)) (is_loan r p u) (lasts pair)
          (λ x h. ap lasts (pair_is r p u x (alike r p u x h))) ls (only-loan ls fine r p u) (hits ∙ e))
      go false e = rw (one (lasts pair)) (add_comm (length (keep (λ x. lasts (pair_of x)) ls)) _
          ∙ ap (λ (l : List Loan). cond (lasts pair) 1 0 + length l)
          (keep-mem (λ x. lasts (pair_of x)) (λ x. lasts (pair_of x) && not (is_loan r p u x)) ls
          (λ x m. rw (none-mem (is_loan r p u) m (hits ∙ e)) (sym (and-true (lasts (pair_of x)))))))

  pub loans-count : (ks : List Part) (ls : List Loan) (x : Action) → lends_some x ≡ true → Fine ls
      → ((k : Pair) → still k && not (later newer k) ≡ true → some_in (loans_after ks ls x) k ≡ true)
      → left_pairs still newer (loans_after ks ls x)
      ≡ lasting still newer x + left_pairs still (record { action = x; value = v } ∷ newer) ls
  loans-count ks ls x w fine h = ap (λ (l : List Pair). length (keep lasts l)) (pairs-step ks ls x w fine)
      ∙ ap length (keep_append lasts (keep some (map pair_of ls)) (added (some_in ls) x))
      ∙ length-append (keep lasts (keep some (map pair_of ls))) _
      ∙ ap (λ (l : List Pair). length l + length (keep lasts (added (some_in ls) x))) kept ∙ go x
    where
      some : Pair → Bool
      some k = some_in (loans_after ks ls x) k

      kept : keep lasts (keep some (map pair_of ls)) ≡ keep lasts (map pair_of ls)
      kept = keep-keep lasts some (map pair_of ls) ∙ keep-mem (λ k. some k && lasts k) lasts (map pair_of ls)
          (λ k _. out (some k) (lasts k) (h k))
        where
          out : (s p : Bool) → (p ≡ true → s ≡ true) → s && p ≡ p
          out s true h = rw (h refl)
          out s false h = and-false s

      same : length (keep lasts (map pair_of ls)) + 0 ≡ 0 + length (keep lasts (map pair_of ls))
      same = omega arith

      go : (x : Action) → length (keep lasts (map pair_of ls)) + length (keep lasts (added (some_in ls) x))
          ≡ lasting still newer x + left_pairs still (record { action = x; value = v } ∷ newer) ls
      go (on_apps z) = unfold added lasting lends in same
      go (on_grants z) = unfold added lasting lends in same
      go (on_runs z) = unfold added lasting lends in same
      go (write p n u y) = unfold added lasting lends in same
      go (on_loans (lend o p n u r)) = lent-count ls fine o p n u r
      go (on_loans (withdraw o p n u)) = unfold added lasting lends in same
      go (query z) = unfold added lasting lends in same

-- what is lent after an action that does not lend it was lent before
ended : (t was : Bool) → cond t false was ≡ true → was ≡ true
ended true was e = absurd (false≢true e)
ended false was e = e

pub lent-before : (provider : Option Part) (x : Action) (k : Pair) (op : Op) (was : Bool) → lends k x ≡ false
    → lent_by provider x k.receiver k.provider k.uri op was ≡ true → was ≡ true
unfolding lends lent_by same_pair
lent-before provider (on_apps (install i m)) k op was n e = e
lent-before provider (on_apps (uninstall b)) k op was n e =
    ended (test provider (is_of b) || same_receiver k.receiver (an_app b)) was e
lent-before provider (on_grants z) k op was n e = e
lent-before provider (on_runs (start c m)) k op was n e = e
lent-before provider (on_runs (stop m)) k op was n e = ended (same_receiver k.receiver (an_instance m)) was e
lent-before provider (write p m u y) k op was n e = e
lent-before provider (on_loans (lend o p m u r)) k op was n e = rw n at e
lent-before provider (on_loans (withdraw o p m u)) k op was n e =
    ended ((eqb p k.provider && eqb u k.uri) && carries op o) was e
lent-before provider (query z) k op was n e = e
