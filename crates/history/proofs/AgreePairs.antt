-- The receiver and resource pairs of the loan table, in order: an action keeps those with an operation still lent, and
-- a lend adds its own where nothing of it was lent.
use Rattle.std.specs.Prelude.{ℕ, ◌≡◌, Bool, not, ◌&&◌, ◌||◌, cond, eqb}
use Rattle.std.proofs.Math.Path.{refl, sym, ap, subst}
use Rattle.std.proofs.Common.{◌∙◌, eqb-true}
use Rattle.std.proofs.Math.Bool.{true, false, and_comm}
use mathlib.Core.List.Memᴰ
use mathlib.Core.List.{List, [], ◌∷◌, ◌++◌, map, append-nil, Memᴰ}
use Rattle.std.proofs.lemmas.Bool.{not-true}
use Rattle.rules.specs.declared.Loan.{Loan}
use Rattle.rules.specs.declared.Part.{Part}
use Rattle.rules.specs.Lists.{any, all, keep, distinct}
use Rattle.rules.specs.ListsLaws.{any-cong, any-mono, all-mem, all_append, all_map, keep-mem, keep_all, keep-map}
use Rattle.rules.specs.ListsLaws.{map-map, map-append, none-mem, eqb-sym, eqb_same, or-false, and_left, and_right, flat}
use Rattle.rules.specs.ListsLaws.{clashing}
use Rattle.rules.specs.Action.{Receiver, an_instance, an_app, receiver_kind, receiver_number, Op, reading, writing}
use Rattle.rules.specs.Action.{carries}
use Rattle.rules.specs.Action.{is_operations, install, uninstall, start, stop, lend, withdraw, Action, on_apps}
use Rattle.rules.specs.Action.{on_grants}
use Rattle.rules.specs.Action.{on_runs, write, on_loans, query}
use Rattle.rules.specs.ActionLaws.{carries-those}
use Rattle.rules.specs.DoneLaws.{lends_some}
use Rattle.state.specs.Tables.{is_to, is_on, is_loan, lent_in}
use Rattle.state.specs.Effects.{loan_of, with_operations, kept, carries_any, reduce, widened, ends_with, loans_after}
use Rattle.state.specs.EffectsLaws.{carries-some}
use Rattle.state.proofs.LookupLaws.{full_loans, some-lent, loans-distinct, loans-full}
use Rattle.state.specs.Valid.{same_loan}
use Rattle.history.specs.Log.{Pair}
use Rattle.history.proofs.AgreeLoans.{lent-reduced}

-- ---- the pair of a loan to an instance or to an app
abbrev pub of_kind : Loan → Bool
of_kind x = eqb x.kind 1 || eqb x.kind 2

unfoldable pub receiver_of : Loan → Receiver
receiver_of x = cond (eqb x.kind 1) (an_instance x.receiver) (an_app x.receiver)

unfoldable pub pair_of : Loan → Pair
pair_of x = record { receiver = receiver_of x; provider = x.provider; uri = x.uri }

-- an operation of the pair is lent
unfoldable pub some_in : List Loan → Pair → Bool
some_in ls k =
    lent_in ls k.receiver k.provider k.uri reading || lent_in ls k.receiver k.provider k.uri writing

-- the loans' kinds, operations and pairs are as in a valid state
pub record Fine (ls : List Loan) : Type 0 where
  pub kinds : all of_kind ls ≡ true
  pub operations : full_loans ls ≡ true
  pub pairs : distinct same_loan ls ≡ true

pub kind-is : (x : Loan) → of_kind x ≡ true → x.kind ≡ receiver_kind (receiver_of x)
unfolding receiver_of receiver_kind
kind-is x h = go (eqb x.kind 1) refl h
  where
    go : (t : Bool) → eqb x.kind 1 ≡ t → t || eqb x.kind 2 ≡ true
        → x.kind ≡ receiver_kind (cond t (an_instance x.receiver) (an_app x.receiver))
    go true e h = eqb-true x.kind 1 e
    go false e h = eqb-true x.kind 2 h

pub number_is : (x : Loan) → x.receiver ≡ receiver_number (receiver_of x)
unfolding receiver_of receiver_number
number_is x = go (eqb x.kind 1)
  where
    go : (t : Bool) → x.receiver ≡ receiver_number (cond t (an_instance x.receiver) (an_app x.receiver))
    go true = refl
    go false = refl

pub receiver-of-new : (r : Receiver) (p u o : ℕ) → receiver_of (loan_of r p u o) ≡ r
unfolding receiver_of loan_of receiver_kind receiver_number
receiver-of-new (an_instance n) p u o = refl
receiver-of-new (an_app b) p u o = refl

-- a loan is of another's pair exactly if the two are the same
of_pair : (x z : Loan) → of_kind x ≡ true → is_loan (receiver_of x) x.provider x.uri z ≡ same_loan z x
unfolding is_loan is_to is_on
of_pair x z h = rw (← kind-is x h, ← number_is x)

same-sym : (x y : Loan) → same_loan x y ≡ same_loan y x
same-sym x y = rw (
  eqb-sym x.kind y.kind,
  eqb-sym x.receiver y.receiver,
  eqb-sym x.provider y.provider,
  eqb-sym x.uri y.uri,
)

same_self : (x : Loan) → same_loan x x ≡ true
same_self x = rw (eqb_same x.kind, eqb_same x.receiver, eqb_same x.provider, eqb_same x.uri)

-- ---- what is lent under a loan's pair is what the loan carries
alone : (op : Op) {x : Loan} {ls : List Loan} → Memᴰ x ls → distinct same_loan ls ≡ true
    → any (λ z. same_loan z x && carries op z.operations) ls ≡ carries op x.operations
unfolding distinct
alone op {x} (Memᴰ.head {x = y} {xs = l} e) d =
    let quiet = not-true (any (same_loan y) l) (and_left _ (distinct same_loan l) d) in
    let rest : any (λ z. same_loan z y && carries op z.operations) l ≡ false = flat _ (λ b.
    clashing (any-mono (λ z. same_loan z y && carries op z.operations) (same_loan y)
    (λ z h. same-sym y z ∙ and_left (same_loan z y) _ h) l b) quiet) in
    subst (λ (w : Loan). any (λ z. same_loan z w && carries op z.operations) (y ∷ l) ≡ carries op w.operations) (sym e)
    (rw (same_self y, rest) (or-false (carries op y.operations)))
alone op {x} (Memᴰ.tail {x = y} {xs = l} m) d =
    let quiet = not-true (any (same_loan y) l) (and_left _ (distinct same_loan l) d) in
    rw (none-mem (same_loan y) m quiet) (alone op m (and_right (not (any (same_loan y) l)) _ d))

module _ (ls : List Loan) (fine : Fine ls) {x : Loan} (m : Memᴰ x ls) where
  own-operations : (op : Op) → lent_in ls (receiver_of x) x.provider x.uri op ≡ carries op x.operations
  unfolding lent_in
  own-operations op =
      any-cong (λ z. ap (λ (t : Bool). t && carries op z.operations)
      (of_pair x z (all-mem of_kind m fine.kinds))) ls
      ∙ alone op m fine.pairs

  own-some : some_in ls (pair_of x) ≡ true
  unfolding some_in pair_of
  own-some = rw (own-operations reading, own-operations writing)
      (unfold carries_any in carries-some x (all-mem (λ x. is_operations x.operations) m fine.operations))

pub pairs-stay : (ls : List Loan) → Fine ls → keep (some_in ls) (map pair_of ls) ≡ map pair_of ls
pairs-stay ls fine = keep-map (some_in ls) pair_of ls
    ∙ ap (map pair_of) (keep_all (λ x. some_in ls (pair_of x)) ls (λ x m. own-some ls fine m))

-- a change of operations leaves the pairs
same-pairs : (f : Loan → Op → Bool) (ls : List Loan) → map pair_of (map (λ x. with_operations (f x) x) ls)
    ≡ map pair_of ls
unfolding pair_of receiver_of with_operations
same-pairs f ls = map-map pair_of (λ x. with_operations (f x) x) ls

-- ---- after an ending that goes by receiver and resource
pairs-reduced : (keeps : Loan → Op → Bool) (ls : List Loan) → Fine ls
    → ((x y : Loan) → y.kind ≡ x.kind → y.receiver ≡ x.receiver → y.provider ≡ x.provider → y.uri ≡ x.uri
    → (op : Op) → keeps y op ≡ keeps x op)
    → map pair_of (reduce keeps ls) ≡ keep (some_in (reduce keeps ls)) (map pair_of ls)
unfolding reduce kept
pairs-reduced keeps ls fine same = ap (map pair_of) (keep-map carries_any (kept keeps) ls)
    ∙ same-pairs (λ x op. carries op x.operations && keeps x op) (keep (λ x. carries_any (kept keeps x)) ls)
    ∙ ap (map pair_of) (keep-mem (λ x. carries_any (kept keeps x)) (λ x. some_in (reduce keeps ls) (pair_of x)) ls each)
    ∙ sym (keep-map (some_in (reduce keeps ls)) pair_of ls)
  where
    one : (x : Loan) → Memᴰ x ls → (op : Op) → carries op (kept keeps x).operations
        ≡ lent_in (reduce keeps ls) (receiver_of x) x.provider x.uri op
    one x m op = sym (lent-reduced keeps ls (receiver_of x) x.provider x.uri op (keeps x op)
        (λ y a. same x y (a.kind ∙ sym (kind-is x (all-mem of_kind m fine.kinds))) (a.receiver ∙ sym (number_is x))
        a.provider a.uri op)
        ∙ ap (λ (t : Bool). keeps x op && t) (own-operations ls fine m op)
        ∙ and_comm (keeps x op) (carries op x.operations)
        ∙ sym (unfold with_operations in carries-those (λ op. carries op x.operations && keeps x op) op))

    each : (x : Loan) → Memᴰ x ls → carries_any (kept keeps x) ≡ some_in (reduce keeps ls) (pair_of x)
    each x m = unfold carries_any some_in pair_of in rw (one x m reading, one x m writing)

-- ---- after a lend
module _ (ls : List Loan) (fine : Fine ls) (o p u : ℕ) (r : Receiver) (full : is_operations o ≡ true) where
  abbrev pair : Pair
  pair = record { receiver = r; provider = p; uri = u }

  abbrev lent : Bool → List Loan
  lent t = cond t (map (widened r p u o) ls) (ls ++ (loan_of r p u o ∷ []))

  lent-fine : Fine (lent (any (is_loan r p u) ls))
  unfolding loans_after lends_some
  lent-fine = record {
    kinds = kinds (any (is_loan r p u) ls);
    operations = loans-full [] ls (on_loans (lend o p 0 u r)) full fine.operations;
    pairs = loans-distinct [] ls (on_loans (lend o p 0 u r)) fine.pairs;
  }
    where
      new : (r : Receiver) → all of_kind (loan_of r p u o ∷ []) ≡ true
      new (an_instance n) = unfold loan_of receiver_kind in refl
      new (an_app b) = unfold loan_of receiver_kind in refl

      kinds : (t : Bool) → all of_kind (lent t) ≡ true
      kinds true = unfold widened with_operations in (all_map of_kind (widened r p u o) ls ∙ fine.kinds)
      kinds false = all_append of_kind ls (loan_of r p u o ∷ []) ∙ rw (fine.kinds, new r)

  new-pair : pair_of (loan_of r p u o) ≡ pair
  unfolding pair_of
  new-pair = rw (receiver-of-new r p u o) (unfold loan_of in refl)

  pairs-lent : map pair_of (lent (any (is_loan r p u) ls))
      ≡ keep (some_in (lent (any (is_loan r p u) ls))) (map pair_of ls) ++ cond (some_in ls pair) [] (pair ∷ [])
  pairs-lent = rw (some-here) (go (any (is_loan r p u) ls) lent-fine)
    where
      some-here : some_in ls pair ≡ any (is_loan r p u) ls
      some-here = unfold some_in in some-lent ls r p u fine.operations

      unchanged : map pair_of (map (widened r p u o) ls) ≡ map pair_of ls
      unchanged = unfold widened in
          same-pairs (λ x op. carries op x.operations || (is_loan r p u x && carries op o)) ls

      go : (t : Bool) → Fine (lent t)
          → map pair_of (lent t) ≡ keep (some_in (lent t)) (map pair_of ls) ++ cond t [] (pair ∷ [])
      go true f = sym (append-nil _ ∙ ap (keep (some_in (lent true))) (sym unchanged) ∙ pairs-stay (lent true) f)
      go false f = map-append pair_of ls (loan_of r p u o ∷ []) ∙ rw new-pair
          (ap (λ (l : List Pair). l ++ (pair ∷ [])) (sym (keep-map (some_in (lent false)) pair_of ls
          ∙ ap (map pair_of) (keep_all (λ x. some_in (lent false) (pair_of x)) ls
          (λ x m. own-some (lent false) f (Memᴰ.append_left (loan_of r p u o ∷ []) m))))))

-- the pair that a lend adds, where nothing of it was lent
unfoldable pub added : (Pair → Bool) → Action → List Pair
added some (on_apps z) = []
added some (on_grants z) = []
added some (on_runs z) = []
added some (write p n u x) = []
added some (on_loans (lend o p n u r)) =
    let pair : Pair = record { receiver = r; provider = p; uri = u } in cond (some pair) [] (pair ∷ [])
added some (on_loans (withdraw o p n u)) = []
added some (query z) = []

pub pairs-step : (ks : List Part) (ls : List Loan) (x : Action) → lends_some x ≡ true → Fine ls
    → map pair_of (loans_after ks ls x) ≡ keep (some_in (loans_after ks ls x)) (map pair_of ls) ++ added (some_in ls) x
unfolding loans_after lends_some added
pairs-step ks ls (on_apps (install i m)) w f = sym (append-nil _ ∙ pairs-stay ls f)
pairs-step ks ls (on_apps (uninstall b)) w f = pairs-reduced (λ x op. not (ends_with ks b x)) ls f
    (unfold ends_with is_to in λ x y k n p u op. rw (k, n, p)) ∙ sym (append-nil _)
pairs-step ks ls (on_grants z) w f = sym (append-nil _ ∙ pairs-stay ls f)
pairs-step ks ls (on_runs (start c n)) w f = sym (append-nil _ ∙ pairs-stay ls f)
pairs-step ks ls (on_runs (stop n)) w f = pairs-reduced (λ x op. not (is_to (an_instance n) x)) ls f
    (unfold is_to in λ x y k m p u op. rw (k, m)) ∙ sym (append-nil _)
pairs-step ks ls (write p n u x) w f = sym (append-nil _ ∙ pairs-stay ls f)
pairs-step ks ls (on_loans (lend o p n u r)) w f = pairs-lent ls f o p u r w
pairs-step ks ls (on_loans (withdraw o q n v)) w f = pairs-reduced (λ x op. not (is_on q v x && carries op o)) ls f
    (unfold is_on in λ x y k m p u op. rw (p, u)) ∙ sym (append-nil _)
pairs-step ks ls (query z) w f = sym (append-nil _ ∙ pairs-stay ls f)
