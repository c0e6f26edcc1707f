-- The log rules of grants and group grants agree with the apps' own lists, action by action.
use Rattle.std.specs.Prelude.{ℕ, ◌≡◌, refl, Bool, true, false, not, ◌&&◌, ◌||◌, cond, List, eqb}
use Rattle.std.proofs.Common.{sym, ap, ◌∙◌}
use Rattle.rules.specs.declared.Ground.{Ground}
use Rattle.rules.specs.Lists.{keep, mem, is_some}
use Rattle.rules.specs.ListsLaws.{any_append, any-map, mem-none, or-false, and-false, find-any, mark-add, mark-drop}
use Rattle.rules.specs.ListsLaws.{mark-remove, mark-thing}
use Rattle.rules.specs.Limits.{Limits}
use Rattle.rules.specs.Action.{install, uninstall, grant, revoke, grant_group, revoke_group, Action, on_apps, on_grants}
use Rattle.rules.specs.Action.{on_runs, write, on_loans, query}
use Rattle.rules.specs.Answer.{done, answer}
use Rattle.rules.specs.DoneLaws.{grant-app, group-app, is-some}
use Rattle.state.specs.Tables.{Row, State, app_number, apps_of, app_at, defined_by, defined_in, granted_in, grouped_in}
use Rattle.state.specs.Tables.{view_of}
use Rattle.state.specs.Effects.{grants_at, groups_at, keep_grants, apps_after}
use Rattle.state.specs.Valid.{is_installed}
use Rattle.state.specs.Ok.{Ok}
use Rattle.history.specs.Log.{grant_by, group_by}
use Rattle.history.proofs.AgreeApps.{definer-known}

row-there : (rs : List Row) (b : ℕ) → is_some (app_at (apps_of rs) b) ≡ true → is_installed rs b ≡ true
unfolding app_at
row-there rs b e =
    let r = is-some (app_at (apps_of rs) b) e in
    sym (any-map (λ a. eqb a.number b) (λ r. r.app) rs)
    ∙ find-any (λ a. eqb a.number b) (apps_of rs) r.0 r.1

abbrev has_grant : ℕ → ℕ → Row → Bool
has_grant a p r = eqb (app_number r) a && mem p r.grants

abbrev has_group : ℕ → ℕ → Row → Bool
has_group a p r = eqb (app_number r) a && mem p r.groups

-- the other apps, and what is left of their grants
abbrev others : State → ℕ → List Row
others s b = keep (λ r. not (eqb (app_number r) b)) s.rows

abbrev less_grants : State → ℕ → Row → Row
less_grants s b = keep_grants (λ p. not (defined_by s.definitions b p))

pub granted-step : (L : Limits) (s : State) (x : Action) (g : Ground) (v : ℕ) → answer L (view_of s) x ≡ done g v
    → Ok L s → (a p : ℕ) → granted_in (apps_after s.definitions s.rows x) a p
    ≡ grant_by (defined_in (apps_of s.rows) s.definitions p) x a p (granted_in s.rows a p)
unfolding granted_in apps_after grant_by grants_at groups_at keep_grants view_of
granted-step L s (on_apps (install i m)) g v e ok a p = simp (any_append, mem-none, and-false, or-false)
granted-step L s (on_apps (uninstall b)) g v e ok a p = any-map (has_grant a p) (less_grants s b) (others s b)
    ∙ mark-remove app_number (λ r. r.grants) s.rows (defined_by s.definitions b) b a p
    ∙ ap (λ (t : Bool). cond (eqb b a || t) false (granted_in s.rows a p))
    (definer-known s.rows s.definitions ok.tables.definers ok.tables.definitions b p)
granted-step L s (on_grants (grant b q)) g v e ok a p = any-map (has_grant a p) (grants_at b _) s.rows
    ∙ mark-add app_number (λ r. r.grants) s.rows b q a p (row-there s.rows b (grant-app L (view_of s) g v b q e))
granted-step L s (on_grants (revoke b q)) g v e ok a p = any-map (has_grant a p) (grants_at b _) s.rows
    ∙ mark-drop app_number (λ r. r.grants) s.rows b q a p
granted-step L s (on_grants (grant_group b q)) g v e ok a p = any-map (has_grant a p) (groups_at b _) s.rows
granted-step L s (on_grants (revoke_group b q)) g v e ok a p = any-map (has_grant a p) (groups_at b _) s.rows
granted-step L s (on_runs z) g v e ok a p = refl
granted-step L s (write q n u x) g v e ok a p = refl
granted-step L s (on_loans z) g v e ok a p = refl
granted-step L s (query z) g v e ok a p = refl

pub grouped-step : (L : Limits) (s : State) (x : Action) (g : Ground) (v : ℕ) → answer L (view_of s) x ≡ done g v
    → (a p : ℕ) → grouped_in (apps_after s.definitions s.rows x) a p ≡ group_by x a p (grouped_in s.rows a p)
unfolding grouped_in apps_after group_by grants_at groups_at keep_grants view_of
grouped-step L s (on_apps (install i m)) g v e a p = simp (any_append, mem-none, and-false, or-false)
grouped-step L s (on_apps (uninstall b)) g v e a p = any-map (has_group a p) (less_grants s b) (others s b)
    ∙ mark-thing app_number (λ r. r.groups) s.rows b a p
grouped-step L s (on_grants (grant b q)) g v e a p = any-map (has_group a p) (grants_at b _) s.rows
grouped-step L s (on_grants (revoke b q)) g v e a p = any-map (has_group a p) (grants_at b _) s.rows
grouped-step L s (on_grants (grant_group b q)) g v e a p = any-map (has_group a p) (groups_at b _) s.rows
    ∙ mark-add app_number (λ r. r.groups) s.rows b q a p (row-there s.rows b (group-app L (view_of s) g v b q e))
grouped-step L s (on_grants (revoke_group b q)) g v e a p = any-map (has_group a p) (groups_at b _) s.rows
    ∙ mark-drop app_number (λ r. r.groups) s.rows b q a p
grouped-step L s (on_runs z) g v e a p = refl
grouped-step L s (write q n u x) g v e a p = refl
grouped-step L s (on_loans z) g v e a p = refl
grouped-step L s (query z) g v e a p = refl
