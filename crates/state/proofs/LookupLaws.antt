-- What the tables tell by their numbers, and which of it every action keeps: the lookups of apps, components, instances
-- and loans, the numbers that stay distinct, and the providers that stay there.
use Rattle.std.specs.Prelude.{ℕ, ◌≡◌, Bool, true, ◌&&◌, ◌||◌, cond, leb}
use Rattle.std.proofs.Math.Path.{refl}
use Rattle.std.proofs.Common.{sym, ap, ◌∙◌}
use Rattle.std.proofs.Math.Bool.{false, not}
use mathlib.Core.List.{List, [], ◌∷◌, ◌++◌, map}
use Rattle.std.proofs.Math.Option.{Option, none, some}
use Rattle.std.proofs.Math.Dec.{eqb}
use borrow.Author.Tests.{eqb-true, eq-eqb, not-true}
use Rattle.manifest.specs.Layout.{Manifest}
use Rattle.manifest.specs.Good.{is_provider, is_provider_of}
use Rattle.manifest.specs.declared.Resource.{Resource}
use Rattle.rules.specs.declared.Definition.{Definition}
use Rattle.rules.specs.declared.Part.{Part}
use Rattle.rules.specs.declared.Instance.{Instance}
use Rattle.rules.specs.declared.Loan.{Loan}
use Rattle.rules.specs.declared.Ground.{Ground}
use Rattle.rules.specs.Lists.{any, all, keep, find, distinct, is_some, test, map_option}
use Rattle.rules.specs.ListsLaws.{and_left, and_right, and-true, and-false, or-false, or-true, both, flat, clashing}
use Rattle.rules.specs.ListsLaws.{any_append, any-map, any-keep, any-cong, any-mono, any-or, any-all, any-mem}
use Rattle.rules.specs.ListsLaws.{any-split, all_append, all_map, all-mono, all_keep, keep-map, keep-passes, none-mem}
use Rattle.rules.specs.ListsLaws.{none_any, find-any, map-map, map-append, distinct-keep, distinct-one, distinct-map}
use Rattle.rules.specs.Limits.{Limits}
use Rattle.rules.specs.Action.{Receiver, Op, reading, writing, carries, operations_of, is_operations, install}
use Rattle.rules.specs.Action.{uninstall}
use Rattle.rules.specs.Action.{grant, revoke, grant_group, revoke_group, start, stop, lend, withdraw, Action, on_apps}
use Rattle.rules.specs.Action.{on_grants, on_runs, write, on_loans, query}
use Rattle.rules.specs.ActionLaws.{carries-those, operations-if-any}
use Rattle.rules.specs.View.{App, app_of, part_of}
use Rattle.rules.specs.Answer.{done, answer}
use Rattle.rules.specs.DoneLaws.{install-good, provided, start-free, start-range, lends_some}
use Rattle.state.specs.Tables.{Row, State, apps_of, part_at, owned_by, defined_by, run_in, is_to, is_on, is_loan}
use Rattle.state.specs.Tables.{lent_in}
use Rattle.state.specs.Tables.{view_of}
use Rattle.state.specs.Effects.{grants_at, groups_at, keep_grants, apps_after, parts_after, put, resources_after}
use Rattle.state.specs.Effects.{instances_after, loan_of, with_operations, kept, carries_any, reduce, widened}
use Rattle.state.specs.Effects.{loans_after}
use Rattle.state.specs.EffectsLaws.{carries-some}
use Rattle.state.specs.Valid.{same_part, same_permission, same_instance, same_loan}

-- ---- at most one entry of a list passes a test
module _ {A : Type 0} (f : A → Bool) where
  abbrev pub Only : List A → Type 0
  Only [] = Unit {0}
  Only (x ∷ l) = (f x ≡ true → any f l ≡ false) × Only l

  pub only-distinct : (same : A → A → Bool) → ((x y : A) → f x ≡ true → f y ≡ true → same x y ≡ true) → (l : List A)
      → distinct same l ≡ true → Only l
  unfolding distinct
  only-distinct same h [] d = tt
  only-distinct same h (x ∷ l) d = (
    λ e. flat (any f l) (λ b.
        let r = any-mem f l b in
        let quiet = not-true (any (same x) l) (and_left (not (any (same x) l)) (distinct same l) d) in
        clashing (h x r.0 e r.2) (none-mem (same x) r.1 quiet)),
    only-distinct same h l (and_right (not (any (same x) l)) (distinct same l) d),
  )

  -- whether it passes another test is what the search for it tells
  pub only-any : (t : A → Bool) (l : List A) → Only l → any (λ x. t x && f x) l ≡ test (find f l) t
  unfolding find test
  only-any t [] o = refl
  only-any t (x ∷ l) o = go (f x) refl (only-any t l o.1)
    where
      rest : any f l ≡ false → any (λ x. t x && f x) l ≡ false
      rest n = flat _ (λ b. clashing (any-mono (λ x. t x && f x) f (λ x h. and_right (t x) (f x) h) l b) n)

      go : (s : Bool) → f x ≡ s → any (λ x. t x && f x) l ≡ test (find f l) t
          → (t x && s) || any (λ x. t x && f x) l ≡ test (cond s (some x) (find f l)) t
      go true e h = rw (rest (o.0 e), and-true) (or-false (t x))
      go false e h = rw and-false h

-- ---- apps
-- what an action does to the list of apps
unfoldable pub installed_after : List App → Action → List App
installed_after apps (on_apps (install i m)) = apps ++ (app_of i m ∷ [])
installed_after apps (on_apps (uninstall b)) = keep (λ a. not (eqb a.number b)) apps
installed_after apps (on_grants z) = apps
installed_after apps (on_runs z) = apps
installed_after apps (write p n u x) = apps
installed_after apps (on_loans z) = apps
installed_after apps (query z) = apps

pub apps-after : (ds : List Definition) (rs : List Row) (x : Action)
    → apps_of (apps_after ds rs x) ≡ installed_after (apps_of rs) x
unfolding apps_after installed_after grants_at groups_at keep_grants
apps-after ds rs (on_apps (install i m)) = map-append (λ r. r.app) rs _
apps-after ds rs (on_apps (uninstall b)) =
    map-map (λ r. r.app) (keep_grants _) (keep (λ r. not (eqb r.app.number b)) rs)
    ∙ sym (keep-map (λ a. not (eqb a.number b)) (λ r. r.app) rs)
apps-after ds rs (on_grants (grant b q)) = map-map (λ r. r.app) (grants_at b _) rs
apps-after ds rs (on_grants (revoke b q)) = map-map (λ r. r.app) (grants_at b _) rs
apps-after ds rs (on_grants (grant_group b q)) = map-map (λ r. r.app) (groups_at b _) rs
apps-after ds rs (on_grants (revoke_group b q)) = map-map (λ r. r.app) (groups_at b _) rs
apps-after ds rs (on_runs z) = refl
apps-after ds rs (write p n u x) = refl
apps-after ds rs (on_loans z) = refl
apps-after ds rs (query z) = refl

-- ---- components and definitions of distinct numbers
module _ (ks : List Part) (one : distinct same_part ks ≡ true) where
  pub only_part : (c : ℕ) → Only (λ k. eqb k.component.number c) ks
  only_part c = only-distinct (λ k. eqb k.component.number c) same_part
      (λ x y e f. eq-eqb x.component.number y.component.number
      (eqb-true x.component.number c e ∙ sym (eqb-true y.component.number c f))) ks one

  -- the owner of a component is its app
  pub owner-is : (b c : ℕ) → owned_by ks b c ≡ test (part_at ks c) (λ k. eqb k.app b)
  unfolding owned_by part_at
  owner-is b c = only-any (λ k. eqb k.component.number c) (λ k. eqb k.app b) ks (only_part c)

module _ (ds : List Definition) (one : distinct same_permission ds ≡ true) where
  pub only-definition : (p : ℕ) → Only (λ d. eqb d.define.permission p) ds
  only-definition p = only-distinct (λ d. eqb d.define.permission p) same_permission
      (λ x y e f. eq-eqb x.define.permission y.define.permission
      (eqb-true x.define.permission p e ∙ sym (eqb-true y.define.permission p f))) ds one

  pub definer-is : (b p : ℕ)
      → defined_by ds b p ≡ test (find (λ d. eqb d.define.permission p) ds) (λ d. eqb d.app b)
  unfolding defined_by
  definer-is b p = only-any (λ d. eqb d.define.permission p) (λ d. eqb d.app b) ds (only-definition p)

-- ---- instances
pub run-any : (is : List Instance) (n : ℕ) → is_some (run_in is n) ≡ any (λ i. eqb i.number n) is
unfolding run_in is_some map_option
run-any is n = go (find (λ i. eqb i.number n) is) refl
  where
    go : (o : Option Instance) → find (λ i. eqb i.number n) is ≡ o
        → is_some (map_option (λ i. i.component) o) ≡ any (λ i. eqb i.number n) is
    go none e = sym (none_any (λ i. eqb i.number n) is e)
    go (some i) e = sym (find-any (λ i. eqb i.number n) is i e)

module _ (L : Limits) (s : State) where
  pub instances-distinct : (x : Action) (g : Ground) (v : ℕ) → answer L (view_of s) x ≡ done g v
      → distinct same_instance s.instances ≡ true → distinct same_instance (instances_after s.instances x v) ≡ true
  unfolding instances_after view_of
  instances-distinct (on_apps z) g v e h = h
  instances-distinct (on_grants z) g v e h = h
  instances-distinct (on_runs (start c n)) g v e h = distinct-one same_instance s.instances _
      (sym (run-any s.instances v) ∙ rw (start-free L (view_of s) g v c n e) (unfold is_some in refl)) h
  instances-distinct (on_runs (stop n)) g v e h =
      distinct-keep same_instance (λ i. not (eqb i.number n)) s.instances h
  instances-distinct (write p n u x) g v e h = h
  instances-distinct (on_loans z) g v e h = h
  instances-distinct (query z) g v e h = h

  abbrev pub in_range : Instance → Bool
  in_range i = leb 1 i.number && leb i.number L.instances

  pub instances-range : (x : Action) (g : Ground) (v : ℕ) → answer L (view_of s) x ≡ done g v
      → all in_range s.instances ≡ true → all in_range (instances_after s.instances x v) ≡ true
  unfolding instances_after
  instances-range (on_apps z) g v e h = h
  instances-range (on_grants z) g v e h = h
  instances-range (on_runs (start c n)) g v e h =
      all_append in_range s.instances _ ∙ rw (h, start-range L (view_of s) g v c n e)
  instances-range (on_runs (stop n)) g v e h =
      all_keep in_range in_range (λ i. not (eqb i.number n)) (λ i p _. p) s.instances h
  instances-range (write p n u x) g v e h = h
  instances-range (on_loans z) g v e h = h
  instances-range (query z) g v e h = h

-- ---- the provider of every resource is there
abbrev pub has_provider : List Part → Resource → Bool
has_provider ks r = any (λ k. eqb k.component.number r.provider) ks

pub providers-install : (ks : List Part) (rs : List Resource) (m : Manifest)
    → all (λ r. any (is_provider_of r.provider) m.components) m.resources ≡ true
    → all (has_provider ks) rs ≡ true
    → all (has_provider (ks ++ map (part_of m) m.components)) (rs ++ m.resources) ≡ true
providers-install ks rs m fine own = all_append (has_provider (ks ++ new)) rs m.resources ∙ both
    (all-mono (has_provider ks) (has_provider (ks ++ new))
    (λ r e. any_append (λ k. eqb k.component.number r.provider) ks new ∙ rw e) rs own)
    (all-mono (λ r. any (is_provider_of r.provider) m.components) (has_provider (ks ++ new))
    (λ r e. any_append (λ k. eqb k.component.number r.provider) ks new
    ∙ rw (mine r e) (or-true (has_provider ks r))) m.resources fine)
  where
    new : List Part
    new = map (part_of m) m.components

    mine : (r : Resource) → any (is_provider_of r.provider) m.components ≡ true → has_provider new r ≡ true
    mine r e = any-map (λ k. eqb k.component.number r.provider) (part_of m) m.components
        ∙ any-mono (is_provider_of r.provider) (λ c. eqb c.number r.provider)
        (λ c h. and_left (eqb c.number r.provider) (is_provider c) h) m.components e

pub providers-uninstall : (ks : List Part) (rs : List Resource) (b : ℕ) → all (has_provider ks) rs ≡ true
    → all (has_provider (keep (λ k. not (eqb k.app b)) ks)) (keep (λ r. not (owned_by ks b r.provider)) rs) ≡ true
unfolding owned_by
providers-uninstall ks rs b own =
    all_keep (has_provider ks) (has_provider (keep (λ k. not (eqb k.app b)) ks))
    (λ r. not (owned_by ks b r.provider))
    (λ r e n. any-keep (λ k. eqb k.component.number r.provider) (λ k. not (eqb k.app b)) ks
    ∙ any-split (λ k. eqb k.app b) (λ k. eqb k.component.number r.provider) ks e
    (not-true (owned_by ks b r.provider) n)) rs own

pub providers-write : (ks : List Part) (rs : List Resource) (p u x : ℕ) → all (has_provider ks) rs ≡ true
    → all (has_provider ks) (map (put p u x) rs) ≡ true
unfolding put
providers-write ks rs p u x own = all_map (has_provider ks) (put p u x) rs ∙ own

pub providers-stay : (L : Limits) (s : State) (x : Action) (g : Ground) (v : ℕ) → answer L (view_of s) x ≡ done g v
    → all (has_provider s.parts) s.resources ≡ true
    → all (has_provider (parts_after s.parts x)) (resources_after s.parts s.resources x) ≡ true
unfolding resources_after parts_after
providers-stay L s (on_apps (install i m)) g v e own =
    providers-install s.parts s.resources m (provided m (install-good L (view_of s) g v i m e)) own
providers-stay L s (on_apps (uninstall b)) g v e own = providers-uninstall s.parts s.resources b own
providers-stay L s (on_grants z) g v e own = own
providers-stay L s (on_runs z) g v e own = own
providers-stay L s (write p n u x) g v e own = providers-write s.parts s.resources p u x own
providers-stay L s (on_loans z) g v e own = own
providers-stay L s (query z) g v e own = own

-- ---- loans
abbrev pub full_loans : List Loan → Bool
full_loans ls = all (λ x. is_operations x.operations) ls

-- an operation is lent exactly where there is a loan
pub some-lent : (ls : List Loan) (r : Receiver) (p u : ℕ) → full_loans ls ≡ true
    → lent_in ls r p u reading || lent_in ls r p u writing ≡ any (is_loan r p u) ls
unfolding lent_in carries_any
some-lent ls r p u c =
    sym (any-or (λ x. is_loan r p u x && carries reading x.operations)
    (λ x. is_loan r p u x && carries writing x.operations) ls)
    ∙ any-cong (λ x. dist (is_loan r p u x) (carries reading x.operations) (carries writing x.operations)) ls
    ∙ any-all (is_loan r p u) carries_any ls (all-mono (λ x. is_operations x.operations) carries_any carries-some ls c)
  where
    dist : (s a b : Bool) → (s && a) || (s && b) ≡ s && (a || b)
    dist true a b = refl
    dist false a b = refl

-- no two loans are the same
reduced-distinct : (keeps : Loan → Op → Bool) (ls : List Loan) → distinct same_loan ls ≡ true
    → distinct same_loan (reduce keeps ls) ≡ true
unfolding reduce kept with_operations
reduced-distinct keeps ls d = distinct-keep same_loan carries_any (map (kept keeps) ls)
    (distinct-map same_loan (kept keeps) (λ x y. refl) ls ∙ d)

lent-distinct : (ls : List Loan) (o p u : ℕ) (r : Receiver) → distinct same_loan ls ≡ true
    → distinct same_loan (cond (any (is_loan r p u) ls) (map (widened r p u o) ls) (ls ++ (loan_of r p u o ∷ [])))
    ≡ true
unfolding is_loan is_to is_on loan_of widened with_operations
lent-distinct ls o p u r d = go (any (is_loan r p u) ls) refl
  where
    go : (t : Bool) → any (is_loan r p u) ls ≡ t
        → distinct same_loan (cond t (map (widened r p u o) ls) (ls ++ (loan_of r p u o ∷ []))) ≡ true
    go true e = distinct-map same_loan (widened r p u o) (λ x y. refl) ls ∙ d
    go false e = distinct-one same_loan ls (loan_of r p u o) e d

pub loans-distinct : (ks : List Part) (ls : List Loan) (x : Action) → distinct same_loan ls ≡ true
    → distinct same_loan (loans_after ks ls x) ≡ true
unfolding loans_after
loans-distinct ks ls (on_apps (install i m)) d = d
loans-distinct ks ls (on_apps (uninstall b)) d = reduced-distinct _ ls d
loans-distinct ks ls (on_grants z) d = d
loans-distinct ks ls (on_runs (start c n)) d = d
loans-distinct ks ls (on_runs (stop n)) d = reduced-distinct _ ls d
loans-distinct ks ls (write p n u x) d = d
loans-distinct ks ls (on_loans (lend o p n u r)) d = lent-distinct ls o p u r d
loans-distinct ks ls (on_loans (withdraw o p n u)) d = reduced-distinct _ ls d
loans-distinct ks ls (query z) d = d

-- each has operations 1 to 3
full-if-any : (f : Op → Bool) (x : Loan)
    → is_operations (with_operations f x).operations ≡ carries_any (with_operations f x)
unfolding carries_any with_operations
full-if-any f x = operations-if-any f ∙ sym (ap (λ (t : Bool). t || f writing) (carries-those f reading))
    ∙ sym (ap (λ (t : Bool). carries reading (operations_of f) || t) (carries-those f writing))

reduced-full : (keeps : Loan → Op → Bool) (ls : List Loan) → full_loans (reduce keeps ls) ≡ true
unfolding reduce
reduced-full keeps ls = ap full_loans (keep-map carries_any (kept keeps) ls)
    ∙ all_map (λ x. is_operations x.operations) (kept keeps) (keep (λ x. carries_any (kept keeps x)) ls)
    ∙ all-mono (λ x. carries_any (kept keeps x)) (λ x. is_operations (kept keeps x).operations)
    (λ x e. unfold kept in (full-if-any (λ op. carries op x.operations && keeps x op) x ∙ (unfold kept in e)))
    (keep (λ x. carries_any (kept keeps x)) ls) (keep-passes (λ x. carries_any (kept keeps x)) ls)

lent-full : (ls : List Loan) (o p u : ℕ) (r : Receiver) → is_operations o ≡ true → full_loans ls ≡ true
    → full_loans (cond (any (is_loan r p u) ls) (map (widened r p u o) ls) (ls ++ (loan_of r p u o ∷ []))) ≡ true
unfolding widened with_operations loan_of carries_any
lent-full ls o p u r w c = go (any (is_loan r p u) ls)
  where
    more : (a b s t : Bool) → a || b ≡ true → (a || s) || (b || t) ≡ true
    more true b s t e = refl
    more false true s t e = or-true s
    more false false s t e = absurd (clashing e refl)

    each : (x : Loan) → is_operations x.operations ≡ true → is_operations (widened r p u o x).operations ≡ true
    each x e = operations-if-any (λ op. carries op x.operations || (is_loan r p u x && carries op o))
        ∙ more (carries reading x.operations) (carries writing x.operations) _ _ (carries-some x e)

    go : (t : Bool) → full_loans (cond t (map (widened r p u o) ls) (ls ++ (loan_of r p u o ∷ []))) ≡ true
    go true = all_map (λ x. is_operations x.operations) (widened r p u o) ls
        ∙ all-mono (λ x. is_operations x.operations) (λ x. is_operations (widened r p u o x).operations) each ls c
    go false = all_append (λ x. is_operations x.operations) ls (loan_of r p u o ∷ []) ∙ rw (c, w)

pub loans-full : (ks : List Part) (ls : List Loan) (x : Action) → lends_some x ≡ true → full_loans ls ≡ true
    → full_loans (loans_after ks ls x) ≡ true
unfolding loans_after lends_some
loans-full ks ls (on_apps (install i m)) w c = c
loans-full ks ls (on_apps (uninstall b)) w c = reduced-full _ ls
loans-full ks ls (on_grants z) w c = c
loans-full ks ls (on_runs (start b n)) w c = c
loans-full ks ls (on_runs (stop n)) w c = reduced-full _ ls
loans-full ks ls (write p n u x) w c = c
loans-full ks ls (on_loans (lend o p n u r)) w c = lent-full ls o p u r w c
loans-full ks ls (on_loans (withdraw o p n u)) w c = reduced-full _ ls
loans-full ks ls (query z) w c = c
