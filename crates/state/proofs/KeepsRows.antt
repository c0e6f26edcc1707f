-- Every accepted action keeps the rows valid by themselves: app numbers, and each app's grants and groups.
use Rattle.std.specs.Prelude.{ℕ, ◌≡◌, refl, Bool, false, not, ◌&&◌}
use Rattle.std.proofs.Common.{sym, ap, ◌∙◌}
use Rattle.std.proofs.Math.Bool.{true}
use Rattle.std.proofs.lemmas.Bool.{false≢true}
use mathlib.Core.List.{List, [], ◌∷◌, ◌++◌, map, Memᴰ}
use Rattle.std.proofs.Math.Option.{Option, none, some}
use Rattle.std.proofs.Math.Dec.{eqb, ltb}
use Rattle.manifest.specs.Layout.{Manifest}
use Rattle.manifest.specs.Good.{good}
use Rattle.manifest.specs.GoodLaws.{good-parts}
use Rattle.rules.specs.declared.Ground.{Ground}
use Rattle.rules.specs.Lists.{any, all, keep, find, mem, distinct, is_some}
use Rattle.rules.specs.ListsLaws.{any-map, any-cong, eqb-sym, all_append, all_map, all-mem, mem-all, all_keep, none-mem}
use Rattle.rules.specs.ListsLaws.{none_any, find-any, cond-all, distinct-keep, distinct-one, distinct-map}
use Rattle.rules.specs.Limits.{Limits}
use Rattle.rules.specs.Action.{install, uninstall, grant, revoke, grant_group, revoke_group, Action, on_apps, on_grants}
use Rattle.rules.specs.Action.{on_runs, write, on_loans, query}
use Rattle.rules.specs.View.{App, app_of}
use Rattle.rules.specs.Refusals.{is_group}
use Rattle.rules.specs.Answer.{done, answer}
use Rattle.rules.specs.DoneLaws.{install-good, install-new, grant-new, group-new, group-range}
use Rattle.state.specs.Tables.{Row, State, app_number, apps_of, app_at, granted_in, grouped_in, view_of}
use Rattle.state.specs.Effects.{grants_at, groups_at, keep_grants, added, taken, apps_after}
use Rattle.state.specs.Valid.{same_app, is_installed}
use Rattle.state.specs.Ok.{RowsOk}

-- ---- which apps are installed
pub installed-is : (rs : List Row) (b : ℕ) → is_some (app_at (apps_of rs) b) ≡ is_installed rs b
unfolding app_at is_some
installed-is rs b = go (find (λ a. eqb a.number b) (apps_of rs)) refl
    ∙ any-map (λ a. eqb a.number b) (λ r. r.app) rs
  where
    go : (o : Option App) → find (λ a. eqb a.number b) (apps_of rs) ≡ o
        → is_some o ≡ any (λ a. eqb a.number b) (apps_of rs)
    go none e = sym (none_any (λ a. eqb a.number b) (apps_of rs) e)
    go (some a) e = sym (find-any (λ a. eqb a.number b) (apps_of rs) a e)

pub installed-map : (f : Row → Row) → ((r : Row) → app_number (f r) ≡ app_number r) → (rs : List Row) (b : ℕ)
    → is_installed (map f rs) b ≡ is_installed rs b
installed-map f h rs b = any-map (λ r. eqb (app_number r) b) f rs
    ∙ any-cong (λ r. ap (λ (n : ℕ). eqb n b) (h r)) rs

-- ---- the changes of the rows
-- what all of a list pass, and what of it follows for the members
pub all-change : {A : Type 0} (f g : A → Bool) (l : List A) → ((x : A) → Memᴰ x l → f x ≡ true → g x ≡ true)
    → all f l ≡ true → all g l ≡ true
all-change f g l h a = mem-all g l (λ x m. h x m (all-mem f m a))

module _ (rs : List Row) (ok : RowsOk rs) where
  installed-rows : (i : Bool) (m : Manifest) → good m ≡ true → is_installed rs m.app ≡ false
      → RowsOk (rs ++ (record { app = app_of i m; grants = []; groups = [] } ∷ []))
  unfolding distinct
  installed-rows i m fine new = record {
    apps = distinct-one same_app rs _ new ok.apps;
    numbered = all_append (λ r. ltb 0 (app_number r)) rs _ ∙ rw (ok.numbered, (good-parts m fine).app);
    range = all_append (λ r. all is_group r.groups) rs _ ∙ rw ok.range;
    grants = all_append (λ r. distinct eqb r.grants) rs _ ∙ rw ok.grants;
    groups = all_append (λ r. distinct eqb r.groups) rs _ ∙ rw ok.groups;
  }

  left-rows : (q : Row → Bool) (f : ℕ → Bool) → RowsOk (map (keep_grants f) (keep q rs))
  unfolding keep_grants
  left-rows q f = record {
    apps = distinct-map same_app (keep_grants f) (λ x y. refl) (keep q rs) ∙ distinct-keep same_app q rs ok.apps;
    numbered = still (λ r. ltb 0 (app_number r)) (λ r e. e) ok.numbered;
    range = still (λ r. all is_group r.groups) (λ r e. e) ok.range;
    grants = still (λ r. distinct eqb r.grants) (λ r e. distinct-keep eqb f r.grants e) ok.grants;
    groups = still (λ r. distinct eqb r.groups) (λ r e. e) ok.groups;
  }
    where
      still : (t : Row → Bool) → ((r : Row) → t r ≡ true → t (keep_grants f r) ≡ true) → all t rs ≡ true
          → all t (map (keep_grants f) (keep q rs)) ≡ true
      still t h a = all_map t (keep_grants f) (keep q rs)
          ∙ all_keep t (λ r. t (keep_grants f r)) q (λ r e _. h r e) rs a

  module _ (b : ℕ) (f : List ℕ → List ℕ) where
    grants-changed : ((r : Row) → Memᴰ r rs → eqb (app_number r) b ≡ true → distinct eqb r.grants ≡ true
        → distinct eqb (f r.grants) ≡ true) → RowsOk (map (grants_at b f) rs)
    unfolding grants_at
    grants-changed h = record {
      apps = distinct-map same_app (grants_at b f) (λ x y. refl) rs ∙ ok.apps;
      numbered = all_map (λ r. ltb 0 (app_number r)) (grants_at b f) rs ∙ ok.numbered;
      range = all_map (λ r. all is_group r.groups) (grants_at b f) rs ∙ ok.range;
      grants = all_map (λ r. distinct eqb r.grants) (grants_at b f) rs
          ∙ all-change (λ r. distinct eqb r.grants) (λ r. distinct eqb (grants_at b f r).grants) rs
          (λ r m e. cond-all (distinct eqb) (eqb (app_number r) b) r.grants (f r.grants) (λ t. h r m t e) e)
          ok.grants;
      groups = all_map (λ r. distinct eqb r.groups) (grants_at b f) rs ∙ ok.groups;
    }

    groups-changed : ((r : Row) → Memᴰ r rs → eqb (app_number r) b ≡ true → distinct eqb r.groups ≡ true
        → distinct eqb (f r.groups) ≡ true)
        → ((l : List ℕ) → all is_group l ≡ true → all is_group (f l) ≡ true) → RowsOk (map (groups_at b f) rs)
    unfolding groups_at
    groups-changed h k = record {
      apps = distinct-map same_app (groups_at b f) (λ x y. refl) rs ∙ ok.apps;
      numbered = all_map (λ r. ltb 0 (app_number r)) (groups_at b f) rs ∙ ok.numbered;
      range = all_map (λ r. all is_group r.groups) (groups_at b f) rs
          ∙ all-change (λ r. all is_group r.groups) (λ r. all is_group (groups_at b f r).groups) rs
          (λ r m e. cond-all (all is_group) (eqb (app_number r) b) r.groups (f r.groups) (λ _. k r.groups e) e)
          ok.range;
      grants = all_map (λ r. distinct eqb r.grants) (groups_at b f) rs ∙ ok.grants;
      groups = all_map (λ r. distinct eqb r.groups) (groups_at b f) rs
          ∙ all-change (λ r. distinct eqb r.groups) (λ r. distinct eqb (groups_at b f r).groups) rs
          (λ r m e. cond-all (distinct eqb) (eqb (app_number r) b) r.groups (f r.groups) (λ t. h r m t e) e)
          ok.groups;
    }

-- a mark that the app has not yet makes its list no less distinct
new-mark : (rs : List Row) (get : Row → List ℕ) (b q : ℕ) → any (λ r. eqb (app_number r) b && mem q (get r)) rs ≡ false
    → (r : Row) → Memᴰ r rs → eqb (app_number r) b ≡ true → distinct eqb (get r) ≡ true
    → distinct eqb (added q (get r)) ≡ true
unfolding mem
new-mark rs get b q n r m e d = distinct-one eqb (get r) q
    (any-cong (λ x. eqb-sym x q) (get r)
    ∙ out (eqb (app_number r) b) (mem q (get r)) (none-mem (λ r. eqb (app_number r) b && mem q (get r)) m n) e) d
  where
    out : (s t : Bool) → s && t ≡ false → s ≡ true → t ≡ false
    out true t e _ = e
    out false t e z = absurd (false≢true z)

pub rows_ok : (L : Limits) (s : State) (x : Action) (g : Ground) (v : ℕ) → answer L (view_of s) x ≡ done g v
    → RowsOk s.rows → RowsOk (apps_after s.definitions s.rows x)
unfolding apps_after view_of granted_in grouped_in
rows_ok L s (on_apps (install i m)) g v e ok = installed-rows s.rows ok i m (install-good L (view_of s) g v i m e)
    (sym (installed-is s.rows m.app) ∙ (install-new L (view_of s) g v i m e).app)
rows_ok L s (on_apps (uninstall b)) g v e ok = left-rows s.rows ok _ _
rows_ok L s (on_grants (grant b p)) g v e ok = grants-changed s.rows ok b (added p)
    (new-mark s.rows (λ r. r.grants) b p (grant-new L (view_of s) g v b p e))
rows_ok L s (on_grants (revoke b p)) g v e ok = grants-changed s.rows ok b (taken p)
    (λ r _ _ d. distinct-keep eqb (λ m. not (eqb m p)) r.grants d)
rows_ok L s (on_grants (grant_group b p)) g v e ok = groups-changed s.rows ok b (added p)
    (new-mark s.rows (λ r. r.groups) b p (group-new L (view_of s) g v b p e))
    (λ l a. all_append is_group l (p ∷ []) ∙ rw (a, group-range L (view_of s) g v b p e))
rows_ok L s (on_grants (revoke_group b p)) g v e ok = groups-changed s.rows ok b (taken p)
    (λ r _ _ d. distinct-keep eqb (λ m. not (eqb m p)) r.groups d)
    (λ l a. all_keep is_group is_group (λ m. not (eqb m p)) (λ m h _. h) l a)
rows_ok L s (on_runs z) g v e ok = ok
rows_ok L s (write p n u x) g v e ok = ok
rows_ok L s (on_loans z) g v e ok = ok
rows_ok L s (query z) g v e ok = ok
