-- The log rule of loans agrees with the loan table, action by action.
use Rattle.std.specs.Prelude.{ℕ, ◌≡◌, Bool, not, ◌&&◌, ◌||◌, List, [], ◌∷◌, ◌++◌, map}
use Rattle.std.proofs.Math.Path.{refl, sym, ap}
use Rattle.std.proofs.Common.{◌∙◌, eqb-true}
use Rattle.std.proofs.Math.Bool.{true, false, cond, and_comm, or_comm}
use Rattle.std.proofs.Math.Dec.{eqb}
use Rattle.rules.specs.declared.Loan.{Loan}
use Rattle.rules.specs.declared.Part.{Part}
use Rattle.rules.specs.Lists.{any, distinct}
use Rattle.rules.specs.ListsLaws.{any_append, any-one, any-map, any-keep, any-cong, any-and, any-or, eqb-sym, and-false}
use Rattle.rules.specs.ListsLaws.{and-true, or-false, and_left, and_right, cond-false, cond-true}
use Rattle.rules.specs.Action.{Receiver, an_instance, an_app, receiver_kind, receiver_number, same_receiver, Op}
use Rattle.rules.specs.Action.{reading}
use Rattle.rules.specs.Action.{writing, carries, install, uninstall, start, stop, lend, withdraw, Action, on_apps}
use Rattle.rules.specs.Action.{on_grants, on_runs, write, on_loans, query}
use Rattle.rules.specs.ActionLaws.{carries-those}
use Rattle.state.specs.Tables.{part_at, owned_by, is_to, is_on, is_loan, lent_in}
use Rattle.state.specs.Effects.{loan_of, with_operations, kept, carries_any, reduce, widened, ends_with, loans_after}
use Rattle.state.proofs.LookupLaws.{owner-is}
use Rattle.state.specs.Valid.{same_part}
use Rattle.history.specs.Log.{lent_by}

-- the loan is the one to a receiver on a resource
pub record Alike (r : Receiver) (p u : ℕ) (x : Loan) : Type 0 where
  pub kind : x.kind ≡ receiver_kind r
  pub receiver : x.receiver ≡ receiver_number r
  pub provider : x.provider ≡ p
  pub uri : x.uri ≡ u

pub alike : (r : Receiver) (p u : ℕ) (x : Loan) → is_loan r p u x ≡ true → Alike r p u x
unfolding is_loan is_to is_on
alike r p u x e =
    let to = and_left (is_to r x) (is_on p u x) e in
    let on = and_right (is_to r x) (is_on p u x) e in
    record {
      kind = eqb-true x.kind (receiver_kind r) (and_left _ (eqb x.receiver (receiver_number r)) to);
      receiver = eqb-true x.receiver (receiver_number r) (and_right (eqb x.kind (receiver_kind r)) _ to);
      provider = eqb-true x.provider p (and_left _ (eqb x.uri u) on);
      uri = eqb-true x.uri u (and_right (eqb x.provider p) _ on);
    }

-- it is, or it is not
by-loan {ℓ} : (P : Bool → Type ℓ) (r : Receiver) (p u : ℕ) (x : Loan) → (Alike r p u x → P true) → P false
    → P (is_loan r p u x)
by-loan P r p u x y z = go (is_loan r p u x) refl
  where
    go : (t : Bool) → is_loan r p u x ≡ t → P t
    go true e = y (alike r p u x e)
    go false e = z

-- what is lent after an ending of loans that goes by receiver and resource
pub lent-reduced : (keeps : Loan → Op → Bool) (ls : List Loan) (r : Receiver) (p u : ℕ) (op : Op) (c : Bool)
    → ((x : Loan) → Alike r p u x → keeps x op ≡ c) → lent_in (reduce keeps ls) r p u op ≡ c && lent_in ls r p u op
unfolding lent_in reduce kept with_operations is_loan is_to is_on
lent-reduced keeps ls r p u op c same = any-keep lent carries_any (map (kept keeps) ls)
    ∙ any-cong (λ x. some-op op x (is_loan r p u x)) (map (kept keeps) ls) ∙ any-map lent (kept keeps) ls
    ∙ any-cong each ls ∙ any-and c lent ls
  where
    lent : Loan → Bool
    lent x = is_loan r p u x && carries op x.operations

    some-op : (op : Op) (x : Loan) (s : Bool)
        → carries_any x && (s && carries op x.operations) ≡ s && carries op x.operations
    some-op reading x s = unfold carries_any in go (carries reading x.operations) s
      where
        go : (a s : Bool) → (a || carries writing x.operations) && (s && a) ≡ s && a
        go true s = refl
        go false s = simp and-false
    some-op writing x s = unfold carries_any in go (carries reading x.operations) (carries writing x.operations) s
      where
        go : (a b s : Bool) → (a || b) && (s && b) ≡ s && b
        go true b s = refl
        go false true s = refl
        go false false s = simp and-false

    each : (x : Loan) → lent (kept keeps x) ≡ c && lent x
    each x = by-loan
        (λ t. t && carries op (kept keeps x).operations ≡ c && (t && carries op x.operations)) r p u x
        (λ a. carries-those (λ op. carries op x.operations && keeps x op) op
        ∙ rw (same x a) (and_comm (carries op x.operations) c))
        (simp and-false)

module _ (ls : List Loan) (o q y : ℕ) (j r : Receiver) (p u : ℕ) (op : Op) where
  -- the loan is one of these, and the operation among them
  abbrev given : Bool
  given = (same_receiver j r && (eqb q p && eqb y u)) && carries op o

  lent-widened : any (is_loan j q y) ls ≡ true
      → lent_in (map (widened j q y o) ls) r p u op ≡ cond given true (lent_in ls r p u op)
  unfolding lent_in widened with_operations is_loan is_to is_on same_receiver
  lent-widened here = any-map (λ x. is_loan r p u x && carries op x.operations) (widened j q y o) ls
      ∙ any-cong each ls
      ∙ any-or (λ x. given && is_loan j q y x) (λ x. is_loan r p u x && carries op x.operations) ls
      ∙ ap (λ (t : Bool). t || lent_in ls r p u op)
      (any-and given (is_loan j q y) ls ∙ ap (λ (t : Bool). given && t) here ∙ and-true given)
      ∙ sym (cond-true given (lent_in ls r p u op))
    where
      dist : (s m t : Bool) → s && (m || t) ≡ ((s && t) && true) || (s && m)
      dist true true true = refl
      dist true true false = refl
      dist true false true = refl
      dist true false false = refl
      dist false m t = refl

      each : (x : Loan) → is_loan r p u x && carries op (widened j q y o x).operations
          ≡ (given && is_loan j q y x) || (is_loan r p u x && carries op x.operations)
      each x = ap (λ (t : Bool). is_loan r p u x && t)
          (carries-those (λ op. carries op x.operations || (is_loan j q y x && carries op o)) op)
          ∙ by-loan (λ t. is_loan r p u x && (carries op x.operations || (t && carries op o))
          ≡ (given && t) || (is_loan r p u x && carries op x.operations)) j q y x
          (λ a. rw (a.kind, a.receiver, a.provider, a.uri)
          (dist (same_receiver j r && (eqb q p && eqb y u)) (carries op x.operations) (carries op o)))
          (simp (and-false, or-false))

  lent-lengthened : lent_in (ls ++ (loan_of j q y o ∷ [])) r p u op ≡ cond given true (lent_in ls r p u op)
  unfolding lent_in loan_of is_loan is_to is_on same_receiver
  lent-lengthened = any_append (λ x. is_loan r p u x && carries op x.operations) ls (loan_of j q y o ∷ [])
      ∙ rw (any-one (λ x. is_loan r p u x && carries op x.operations) (loan_of j q y o))
      (or_comm (lent_in ls r p u op) given ∙ sym (cond-true given (lent_in ls r p u op)))

  lent-more : lent_in (cond (any (is_loan j q y) ls) (map (widened j q y o) ls) (ls ++ (loan_of j q y o ∷ []))) r p u op
      ≡ cond given true (lent_in ls r p u op)
  lent-more = go (any (is_loan j q y) ls) refl
    where
      go : (t : Bool) → any (is_loan j q y) ls ≡ t
          → lent_in (cond t (map (widened j q y o) ls) (ls ++ (loan_of j q y o ∷ []))) r p u op
          ≡ cond given true (lent_in ls r p u op)
      go true e = lent-widened e
      go false e = lent-lengthened

pub lent-step : (ks : List Part) → distinct same_part ks ≡ true → (ls : List Loan) (x : Action) (r : Receiver) (p u : ℕ)
    (op : Op) → lent_in (loans_after ks ls x) r p u op ≡ lent_by (part_at ks p) x r p u op (lent_in ls r p u op)
unfolding loans_after lent_by
lent-step ks one ls (on_apps (install i m)) r p u op = refl
lent-step ks one ls (on_apps (uninstall b)) r p u op =
    lent-reduced (λ x op. not (ends_with ks b x)) ls r p u op (not (owned_by ks b p || same_receiver r (an_app b)))
    (unfold ends_with is_to same_receiver in λ x a. rw (a.kind, a.receiver, a.provider))
    ∙ sym (cond-false (owned_by ks b p || same_receiver r (an_app b)) (lent_in ls r p u op))
    ∙ ap (λ (t : Bool). cond (t || same_receiver r (an_app b)) false (lent_in ls r p u op)) (owner-is ks one b p)
lent-step ks one ls (on_grants z) r p u op = refl
lent-step ks one ls (on_runs (start c n)) r p u op = refl
lent-step ks one ls (on_runs (stop n)) r p u op =
    lent-reduced (λ x op. not (is_to (an_instance n) x)) ls r p u op (not (same_receiver r (an_instance n)))
    (unfold is_to same_receiver in λ x a. rw (a.kind, a.receiver))
    ∙ sym (cond-false (same_receiver r (an_instance n)) (lent_in ls r p u op))
lent-step ks one ls (write q n y x) r p u op = refl
lent-step ks one ls (on_loans (lend o q n y j)) r p u op = lent-more ls o q y j r p u op
lent-step ks one ls (on_loans (withdraw o q n y)) r p u op =
    lent-reduced (λ x op. not (is_on q y x && carries op o)) ls r p u op (not ((eqb q p && eqb y u) && carries op o))
    (unfold is_on in λ x a. rw (a.provider, a.uri, eqb-sym p q, eqb-sym u y))
    ∙ sym (cond-false ((eqb q p && eqb y u) && carries op o) (lent_in ls r p u op))
lent-step ks one ls (query z) r p u op = refl
