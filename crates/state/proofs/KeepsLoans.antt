-- Every accepted action keeps the loans valid: a loan whose receiver, resource or provider goes, goes with it.
use Rattle.std.specs.Prelude.{ℕ, ◌≡◌, refl, Bool, true, ◌&&◌, ◌||◌, cond, List, [], ◌∷◌, ◌++◌, map}
use Rattle.std.proofs.Common.{sym, ◌∙◌, eqb-true}
use Rattle.std.proofs.Math.Bool.{false, not}
use Rattle.std.proofs.lemmas.Bool.{false≢true, not-true}
use Rattle.std.proofs.Math.Option.{Option, none, some}
use Rattle.std.proofs.Math.Dec.{eqb}
use Rattle.manifest.specs.declared.Resource.{Resource}
use Rattle.rules.specs.declared.Definition.{Definition}
use Rattle.rules.specs.declared.Part.{Part}
use Rattle.rules.specs.declared.Loan.{Loan}
use Rattle.rules.specs.declared.Ground.{Ground}
use Rattle.rules.specs.Lists.{any, all, keep, find, is_some, test, bind, map_option}
use Rattle.rules.specs.ListsLaws.{and_left, and_right, and-true, or-true, both, any_append, any-map, any-keep, any-mono}
use Rattle.rules.specs.ListsLaws.{all_append, all_map, all-mono, all_keep, all-mem, mem-all, find-any, other}
use Rattle.rules.specs.Limits.{Limits}
use Rattle.rules.specs.Action.{Receiver, an_instance, an_app, receiver_kind, receiver_number, GrantAction, install}
use Rattle.rules.specs.Action.{uninstall, grant, revoke, grant_group, revoke_group, start, stop, lend, withdraw, Action}
use Rattle.rules.specs.Action.{on_apps, on_grants, on_runs, write, on_loans, query}
use Rattle.rules.specs.Grounds.{running_app}
use Rattle.rules.specs.Answer.{done, answer}
use Rattle.rules.specs.DoneLaws.{or-false_l, or-false_r, receiver_there, lend-facts, lends_some_lem}
use Rattle.state.specs.Tables.{Row, State, app_number, part_at, owned_by, run_in, is_resource, value_in, is_to, is_loan}
use Rattle.state.specs.Tables.{view_of}
use Rattle.state.specs.Effects.{grants_at, groups_at, keep_grants, apps_after, parts_after, put, resources_after}
use Rattle.state.specs.Effects.{instances_after, loan_of, with_operations, kept, carries_any, reduce, widened}
use Rattle.state.specs.Effects.{ends_with, loans_after, next}
use Rattle.state.specs.EffectsLaws.{reduce-keep}
use Rattle.state.specs.Valid.{is_installed, is_live, is_sharing_provider}
use Rattle.state.specs.Ok.{LoansOk}
use Rattle.state.proofs.LookupLaws.{run-any, full_loans, loans-distinct, loans-full}
use Rattle.state.proofs.KeepsRows.{installed-is, installed-map}
use Rattle.state.proofs.KeepsInstances.{part-more, part-less}

-- ---- what each loan has to have: a live receiver, an existing resource, a sharing provider
record LoanOk (s : State) (x : Loan) : Type 0 where
  live : is_live s x ≡ true
  resource : any (is_resource x.provider x.uri) s.resources ≡ true
  sharing : test (part_at s.parts x.provider) is_sharing_provider ≡ true

abbrev good_loan : State → Loan → Bool
good_loan s x =
    is_live s x
    && (any (is_resource x.provider x.uri) s.resources
    && test (part_at s.parts x.provider) is_sharing_provider)

loan-ok : (s : State) (x : Loan) → good_loan s x ≡ true → LoanOk s x
loan-ok s x e =
    let rest = and_right (is_live s x) _ e in
    record {
      live = and_left (is_live s x) _ e;
      resource = and_left (any (is_resource x.provider x.uri) s.resources) _ rest;
      sharing = and_right (any (is_resource x.provider x.uri) s.resources) _ rest;
    }

good-loan : (s : State) (x : Loan) → LoanOk s x → good_loan s x ≡ true
good-loan s x ok = rw (ok.live, ok.resource, ok.sharing)

-- ---- a receiver that is live stays so, if the instance or the app does
live-still : (s t : State) (x : Loan)
    → (eqb x.kind 1 ≡ true → any (λ i. eqb i.number x.receiver) s.instances ≡ true
    → any (λ i. eqb i.number x.receiver) t.instances ≡ true)
    → (eqb x.kind 2 ≡ true → is_installed s.rows x.receiver ≡ true → is_installed t.rows x.receiver ≡ true)
    → is_live s x ≡ true → is_live t x ≡ true
live-still s t x instance app e = go (eqb x.kind 1) (eqb x.kind 2)
    (any (λ i. eqb i.number x.receiver) s.instances) (is_installed s.rows x.receiver) instance app e
  where
    go : (k j a b : Bool) {c d : Bool} → (k ≡ true → a ≡ true → c ≡ true) → (j ≡ true → b ≡ true → d ≡ true)
        → (k && a) || (j && b) ≡ true → (k && c) || (j && d) ≡ true
    go true j true b f g e = rw (f refl refl)
    go true true false true {c} f g e = rw (g refl refl) (or-true c)
    go true true false false f g e = absurd (false≢true e)
    go true false false b f g e = absurd (false≢true e)
    go false true a true f g e = g refl refl
    go false true a false f g e = absurd (false≢true e)
    go false false a b f g e = absurd (false≢true e)

-- grants and groups change no app
still-installed : (ds : List Definition) (rs : List Row) (z : GrantAction) (b : ℕ)
    → is_installed (apps_after ds rs (on_grants z)) b ≡ is_installed rs b
unfolding apps_after grants_at groups_at
still-installed ds rs (grant c p) b = installed-map (grants_at c _) (λ r. refl) rs b
still-installed ds rs (revoke c p) b = installed-map (grants_at c _) (λ r. refl) rs b
still-installed ds rs (grant_group c p) b = installed-map (groups_at c _) (λ r. refl) rs b
still-installed ds rs (revoke_group c p) b = installed-map (groups_at c _) (λ r. refl) rs b

-- the resource of another app's provider stays
resource-less : (ks : List Part) (rs : List Resource) (b p u : ℕ) → owned_by ks b p ≡ false
    → any (is_resource p u) rs ≡ true → any (is_resource p u) (keep (λ r. not (owned_by ks b r.provider)) rs) ≡ true
unfolding is_resource
resource-less ks rs b p u d e = any-keep (is_resource p u) (λ r. not (owned_by ks b r.provider)) rs
    ∙ any-mono (is_resource p u) (λ r. not (owned_by ks b r.provider) && is_resource p u r) (λ r h.
    let q : r.provider ≡ p = eqb-true r.provider p (and_left (eqb r.provider p) _ h) in
    both {a = not (owned_by ks b r.provider)} (rw (q, d)) h) rs e

-- ---- the loans that end with an app or an instance
unfoldable ended : List Part → Action → Loan → Bool
ended ks (on_apps (install i m)) x = false
ended ks (on_apps (uninstall b)) x = ends_with ks b x
ended ks (on_grants z) x = false
ended ks (on_runs (start c n)) x = false
ended ks (on_runs (stop n)) x = is_to (an_instance n) x
ended ks (write p n u y) x = false
ended ks (on_loans z) x = false
ended ks (query z) x = false

-- every other stays what it has to be
module _ (s : State) (v : ℕ) (k : Loan) (ok : LoanOk s k) where
  outlasts-app : (b : ℕ) → ends_with s.parts b k ≡ false → LoanOk (next s (on_apps (uninstall b)) v) k
  unfolding next apps_after instances_after parts_after resources_after ends_with is_to receiver_kind receiver_number
      keep_grants
  outlasts-app b n = record {
    live = live-still s (next s (on_apps (uninstall b)) v) k
        (λ _ e. e)
        (λ j e. installed-map (keep_grants _) (λ r. refl) (keep (λ r. not (eqb (app_number r) b)) s.rows) k.receiver
        ∙ other app_number s.rows b k.receiver
        (rw j at (or-false_r (owned_by s.parts b k.provider) (is_to (an_app b) k) n)) e) ok.live;
    resource = resource-less s.parts s.resources b k.provider k.uri not-owned ok.resource;
    sharing = rw (part-less s.parts b k.provider not-owned) ok.sharing;
  }
    where
      not-owned : owned_by s.parts b k.provider ≡ false
      not-owned = or-false_l (owned_by s.parts b k.provider) (is_to (an_app b) k) n

  outlasts-instance : (m : ℕ) → is_to (an_instance m) k ≡ false → LoanOk (next s (on_runs (stop m)) v) k
  unfolding next apps_after instances_after parts_after resources_after is_to receiver_kind receiver_number
  outlasts-instance m n = record {
    live = live-still s (next s (on_runs (stop m)) v) k
        (λ j e. other (λ i. i.number) s.instances m k.receiver (rw j at n) e)
        (λ _ e. e) ok.live;
    resource = ok.resource;
    sharing = ok.sharing;
  }

  lasts : (x : Action) → ended s.parts x k ≡ false → LoanOk (next s x v) k
  unfolding next ended apps_after instances_after parts_after resources_after put is_resource
  lasts (on_apps (install i m)) n = record {
    live = live-still s (next s (on_apps (install i m)) v) k
        (λ _ e. e)
        (λ _ e. any_append (λ r. eqb (app_number r) k.receiver) s.rows _ ∙ rw e) ok.live;
    resource = any_append (is_resource k.provider k.uri) s.resources _ ∙ rw ok.resource;
    sharing = part-more s.parts _ k.provider is_sharing_provider ok.sharing;
  }
  lasts (on_apps (uninstall b)) n = outlasts-app b n
  lasts (on_grants z) n = record {
    live = live-still s (next s (on_grants z) v) k
        (λ _ e. e)
        (λ _ e. still-installed s.definitions s.rows z k.receiver ∙ e) ok.live;
    resource = ok.resource;
    sharing = ok.sharing;
  }
  lasts (on_runs (start c m)) n = record {
    live = live-still s (next s (on_runs (start c m)) v) k
        (λ _ e. any_append (λ i. eqb i.number k.receiver) s.instances _ ∙ rw e)
        (λ _ e. e) ok.live;
    resource = ok.resource;
    sharing = ok.sharing;
  }
  lasts (on_runs (stop m)) n = outlasts-instance m n
  lasts (write p m u y) n = record {
    live = ok.live;
    resource = any-map (is_resource k.provider k.uri) (put p u y) s.resources ∙ ok.resource;
    sharing = ok.sharing;
  }
  lasts (on_loans z) n = record { live = ok.live; resource = ok.resource; sharing = ok.sharing }
  lasts (query z) n = record { live = ok.live; resource = ok.resource; sharing = ok.sharing }

-- ---- the loan that a done lend makes
lent_ok : (L : Limits) (s : State) (o p n u : ℕ) (r : Receiver) (g : Ground) (v : ℕ)
    → answer L (view_of s) (on_loans (lend o p n u r)) ≡ done g v → LoanOk s (loan_of r p u o)
unfolding view_of bind map_option is_some receiver_there running_app value_in loan_of receiver_kind receiver_number
lent_ok L s o p n u r g v e =
    let f = lend-facts L (view_of s) o p n u r g v e in
    record { live = live r f.receiver; resource = resource f.resource; sharing = f.sharing }
  where
    bind-some : {A B : Type 0} (o : Option A) (h : A → Option B) → is_some (bind o h) ≡ true → is_some o ≡ true
    bind-some none h e = e
    bind-some (some a) h e = refl

    live : (r : Receiver) → receiver_there (view_of s) r ≡ true → is_live s (loan_of r p u o) ≡ true
    live (an_instance m) h = rw (sym (run-any s.instances m) ∙ bind-some (run_in s.instances m) _ h)
    live (an_app b) h = sym (installed-is s.rows b) ∙ h

    resource : is_some (value_in s.resources p u) ≡ true → any (is_resource p u) s.resources ≡ true
    resource h = go (find (is_resource p u) s.resources) refl h
      where
        go : (o : Option Resource) → find (is_resource p u) s.resources ≡ o
            → is_some (map_option (λ r. r.value) o) ≡ true → any (is_resource p u) s.resources ≡ true
        go none q h = absurd (false≢true h)
        go (some r) q h = find-any (is_resource p u) s.resources r q

-- ---- all of them
module _ (L : Limits) (s : State) (g : Ground) (v : ℕ) (full : full_loans s.loans ≡ true)
    (ok : all (good_loan s) s.loans ≡ true) where
  stays : (x : Action) (k : Loan) → ended s.parts x k ≡ false → good_loan s k ≡ true → good_loan (next s x v) k ≡ true
  stays x k n e = good-loan (next s x v) k (lasts s v k (loan-ok s k e) x n)

  all_stay : (x : Action) → ((k : Loan) → ended s.parts x k ≡ false) → all (good_loan (next s x v)) s.loans ≡ true
  all_stay x n = all-mono (good_loan s) (good_loan (next s x v)) (λ k e. stays x k (n k) e) s.loans ok

  others-stay : (x : Action) (ends : Loan → Bool) → ((k : Loan) → ended s.parts x k ≡ ends k)
      → all (good_loan (next s x v)) (reduce (λ k op. not (ends k)) s.loans) ≡ true
  others-stay x ends h = rw (reduce-keep (λ k. not (ends k)) s.loans full)
      (all_keep (good_loan s) (good_loan (next s x v)) (λ k. not (ends k))
      (λ k e n. stays x k (h k ∙ not-true (ends k) n) e) s.loans ok)

  good-loans : (x : Action) → answer L (view_of s) x ≡ done g v
      → all (good_loan (next s x v)) (loans_after s.parts s.loans x) ≡ true
  unfolding loans_after ended
  good-loans (on_apps (install i m)) e = all_stay (on_apps (install i m)) (λ k. refl)
  good-loans (on_apps (uninstall b)) e = others-stay (on_apps (uninstall b)) (ends_with s.parts b) (λ k. refl)
  good-loans (on_grants z) e = all_stay (on_grants z) (λ k. refl)
  good-loans (on_runs (start c n)) e = all_stay (on_runs (start c n)) (λ k. refl)
  good-loans (on_runs (stop n)) e = others-stay (on_runs (stop n)) (is_to (an_instance n)) (λ k. refl)
  good-loans (write p n u y) e = all_stay (write p n u y) (λ k. refl)
  good-loans (on_loans (lend o p n u r)) e = go (any (is_loan r p u) s.loans)
    where
      after : State
      after = next s (on_loans (lend o p n u r)) v

      go : (t : Bool)
          → all (good_loan after) (cond t (map (widened r p u o) s.loans) (s.loans ++ (loan_of r p u o ∷ []))) ≡ true
      go true = all_map (good_loan after) (widened r p u o) s.loans
          ∙ (unfold widened with_operations in all_stay (on_loans (lend o p n u r)) (λ k. refl))
      go false = all_append (good_loan after) s.loans (loan_of r p u o ∷ [])
          ∙ rw (all_stay (on_loans (lend o p n u r)) (λ k. refl))
          ((and-true _ ∙ good-loan after (loan_of r p u o)
          (lasts s v (loan_of r p u o) (lent_ok L s o p n u r g v e) (on_loans (lend o p n u r)) refl)))
  good-loans (on_loans (withdraw o p n u)) e = unfold reduce in
      all_keep (good_loan after) (good_loan after) carries_any (λ k h _. h) (map (kept _) s.loans)
      (all_map (good_loan after) (kept _) s.loans
      ∙ (unfold kept with_operations in all_stay (on_loans (withdraw o p n u)) (λ k. refl)))
    where
      after : State
      after = next s (on_loans (withdraw o p n u)) v
  good-loans (query z) e = all_stay (query z) (λ k. refl)

pub loans-ok : (L : Limits) (s : State) (x : Action) (g : Ground) (v : ℕ) → answer L (view_of s) x ≡ done g v
    → LoansOk s → LoansOk (next s x v)
unfolding next
loans-ok L s x g v e ok = record {
  operations = loans-full s.parts s.loans x (lends_some_lem L (view_of s) x g v e) ok.operations;
  live = all-mono (good_loan after) (is_live after) (λ k h. (loan-ok after k h).live) after.loans each;
  resources = all-mono (good_loan after) (λ k. any (is_resource k.provider k.uri) after.resources)
      (λ k h. (loan-ok after k h).resource) after.loans each;
  sharing = all-mono (good_loan after) (λ k. test (part_at after.parts k.provider) is_sharing_provider)
      (λ k h. (loan-ok after k h).sharing) after.loans each;
  pairs = loans-distinct s.parts s.loans x ok.pairs;
}
  where
    after : State
    after = next s x v

    before : all (good_loan s) s.loans ≡ true
    before = mem-all (good_loan s) s.loans (λ k m. good-loan s k (record {
      live = all-mem (is_live s) m ok.live;
      resource = all-mem (λ k. any (is_resource k.provider k.uri) s.resources) m ok.resources;
      sharing = all-mem (λ k. test (part_at s.parts k.provider) is_sharing_provider) m ok.sharing;
    }))

    each : all (good_loan after) after.loans ≡ true
    each = good-loans L s g v ok.operations before x e
