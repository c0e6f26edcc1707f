-- Every accepted action keeps within the limits: what adds to a table is refused where there is no room.
use Rattle.std.specs.Prelude.{ℕ, ◌+◌, ◌≡◌, Bool, ◌&&◌, cond, List, [], ◌∷◌, ◌++◌, map, ltb}
use Rattle.std.proofs.Math.Path.{refl}
use Rattle.std.proofs.Math.Bool.{true, false, not}
use Rattle.std.proofs.Math.Dec.{leb}
use Rattle.std.proofs.Math.ListN.{length}
use Rattle.std.proofs.Common.{length-append, arith}
use borrow.Author.Tests.{leb-true, leb-false, le-leb, ltb-false}
use Rattle.rules.specs.declared.Loan.{Loan}
use Rattle.rules.specs.declared.Ground.{Ground}
use Rattle.rules.specs.Lists.{any, keep}
use Rattle.rules.specs.ListsLaws.{length-keep, length-map}
use Rattle.rules.specs.Limits.{Limits}
use Rattle.rules.specs.Action.{Op, install, uninstall, grant, revoke, grant_group, revoke_group, start, stop, lend}
use Rattle.rules.specs.Action.{withdraw, Action, on_apps, on_grants, on_runs, write, on_loans, query}
use Rattle.rules.specs.View.{part_of}
use Rattle.rules.specs.Refusals.{crowded, lent_any}
use Rattle.rules.specs.Answer.{done, answer}
use Rattle.rules.specs.DoneLaws.{install-room, lend-room, or-false_l, or-false_r}
use Rattle.state.specs.Tables.{State, is_loan, view_of}
use Rattle.state.specs.Effects.{apps_after, parts_after, resources_after, loan_of, kept, carries_any, reduce, widened}
use Rattle.state.specs.Effects.{loans_after, next}
use Rattle.state.specs.Ok.{InstancesOk, LimitsOk}
use Rattle.state.proofs.LookupLaws.{full_loans, some-lent}
use Rattle.state.proofs.CapacityLaws.{instances-fit}

-- ---- a list within a limit, and one made of it
module _ {A : Type 0} (l : List A) (k : ℕ) where
  kept-within : (f : A → Bool) → leb (length l) k ≡ true → leb (length (keep f l)) k ≡ true
  kept-within f e =
      let t = leb-true (length l) k e in
      let h = length-keep f l in
      le-leb (length (keep f l)) k (omega arith)

  mapped-within : {B : Type 0} (f : A → B) → leb (length l) k ≡ true → leb (length (map f l)) k ≡ true
  mapped-within f e = rw (length-map f l) e

  one-more-within : (x : A) → leb k (length l) ≡ false → leb (length (l ++ (x ∷ []))) k ≡ true
  one-more-within x e =
      let t = leb-false k (length l) e in
      rw (length-append l (x ∷ [])) (le-leb (length l + 1) k (omega arith))

  more_within : (m : List A) (n : ℕ) → length m ≡ n → ltb k (length l + n) ≡ false → leb (length (l ++ m)) k ≡ true
  more_within m n q e =
      let t = ltb-false k (length l + n) e in
      rw (length-append l m) (le-leb (length l + length m) k (omega arith))

reduced-within : (keeps : Loan → Op → Bool) (ls : List Loan) (k : ℕ) → leb (length ls) k ≡ true
    → leb (length (reduce keeps ls)) k ≡ true
unfolding reduce
reduced-within keeps ls k e = kept-within (map (kept keeps) ls) k carries_any (mapped-within ls k (kept keeps) e)

-- ---- each table
module _ (L : Limits) (s : State) (ok : LimitsOk L s) (g : Ground) (v : ℕ) where
  apps-within : (x : Action) → answer L (view_of s) x ≡ done g v
      → leb (length (apps_after s.definitions s.rows x)) L.apps ≡ true
  unfolding apps_after crowded view_of
  apps-within (on_apps (install i m)) e = one-more-within s.rows L.apps _
      (or-false_l (leb L.apps (length s.rows)) _ (install-room L (view_of s) g v i m e))
  apps-within (on_apps (uninstall b)) e = mapped-within (keep _ s.rows) L.apps _
      (kept-within s.rows L.apps _ ok.apps)
  apps-within (on_grants (grant b p)) e = mapped-within s.rows L.apps _ ok.apps
  apps-within (on_grants (revoke b p)) e = mapped-within s.rows L.apps _ ok.apps
  apps-within (on_grants (grant_group b p)) e = mapped-within s.rows L.apps _ ok.apps
  apps-within (on_grants (revoke_group b p)) e = mapped-within s.rows L.apps _ ok.apps
  apps-within (on_runs z) e = ok.apps
  apps-within (write p n u x) e = ok.apps
  apps-within (on_loans z) e = ok.apps
  apps-within (query z) e = ok.apps

  components-within : (x : Action) → answer L (view_of s) x ≡ done g v
      → leb (length (parts_after s.parts x)) L.components ≡ true
  unfolding parts_after crowded view_of
  components-within (on_apps (install i m)) e =
      more_within s.parts L.components _ (length m.components) (length-map (part_of m) m.components)
      (or-false_l (ltb L.components (length s.parts + length m.components)) _
      (or-false_r (leb L.apps (length s.rows)) _ (install-room L (view_of s) g v i m e)))
  components-within (on_apps (uninstall b)) e = kept-within s.parts L.components _ ok.components
  components-within (on_grants z) e = ok.components
  components-within (on_runs z) e = ok.components
  components-within (write p n u x) e = ok.components
  components-within (on_loans z) e = ok.components
  components-within (query z) e = ok.components

  resources-within : (x : Action) → answer L (view_of s) x ≡ done g v
      → leb (length (resources_after s.parts s.resources x)) L.resources ≡ true
  unfolding resources_after crowded view_of
  resources-within (on_apps (install i m)) e =
      more_within s.resources L.resources m.resources (length m.resources) refl
      (or-false_r (ltb L.components (length s.parts + length m.components)) _
      (or-false_r (leb L.apps (length s.rows)) _ (install-room L (view_of s) g v i m e)))
  resources-within (on_apps (uninstall b)) e = kept-within s.resources L.resources _ ok.resources
  resources-within (on_grants z) e = ok.resources
  resources-within (on_runs z) e = ok.resources
  resources-within (write p n u x) e = mapped-within s.resources L.resources _ ok.resources
  resources-within (on_loans z) e = ok.resources
  resources-within (query z) e = ok.resources

  loans-within : (x : Action) → answer L (view_of s) x ≡ done g v → full_loans s.loans ≡ true
      → leb (length (loans_after s.parts s.loans x)) L.loans ≡ true
  unfolding loans_after lent_any view_of
  loans-within (on_apps (install i m)) e full = ok.loans
  loans-within (on_apps (uninstall b)) e full = reduced-within _ s.loans L.loans ok.loans
  loans-within (on_grants z) e full = ok.loans
  loans-within (on_runs (start c n)) e full = ok.loans
  loans-within (on_runs (stop n)) e full = reduced-within _ s.loans L.loans ok.loans
  loans-within (write p n u x) e full = ok.loans
  loans-within (on_loans (lend o p n u r)) e full = go (any (is_loan r p u) s.loans)
      (rw (some-lent s.loans r p u full) at (lend-room L (view_of s) o p n u r g v e))
    where
      go : (t : Bool) → not t && leb L.loans (length s.loans) ≡ false
          → leb (length (cond t (map (widened r p u o) s.loans) (s.loans ++ (loan_of r p u o ∷ [])))) L.loans
          ≡ true
      go true h = mapped-within s.loans L.loans (widened r p u o) ok.loans
      go false h = one-more-within s.loans L.loans (loan_of r p u o) h
  loans-within (on_loans (withdraw o p n u)) e full = reduced-within _ s.loans L.loans ok.loans
  loans-within (query z) e full = ok.loans

  pub limits-ok : (x : Action) → answer L (view_of s) x ≡ done g v → full_loans s.loans ≡ true
      → InstancesOk L (next s x v) → LimitsOk L (next s x v)
  unfolding next
  limits-ok x e full after = record {
    apps = apps-within x e;
    components = components-within x e;
    resources = resources-within x e;
    instances = le-leb (length (next s x v).instances) L.instances (instances-fit L (next s x v) after);
    loans = loans-within x e full;
  }
