-- The table of apps that a change of one app's grants or groups makes, and an app's removal, is that of the rows after
-- it.
use Rattle.std.specs.Prelude.{ℕ, ◌≤◌, ◌≡◌, refl, Bool, false, not, ◌||◌, cond, eqb, ltb, length, take}
use Rattle.std.proofs.Common.{sym, ap, ◌∙◌, arith, lt-ltb, length-append}
use Rattle.std.proofs.Math.Bool.{true}
use mathlib.Core.List.{List, [], ◌∷◌, map, Memᴰ}
use Rattle.rules.specs.declared.Definition.{Definition}
use Rattle.rules.specs.Lists.{keep}
use Rattle.rules.specs.ListsLaws.{length-map, mem-all}
use Rattle.rules.specs.Limits.{large}
use Rattle.rules.specs.Action.{on_grants}
use Rattle.state.specs.declared.App.{App}
use Rattle.state.specs.Listed.{Apps}
use Rattle.state.specs.Tables.{Row, State, app_number, defined_by}
use Rattle.state.specs.Effects.{grants_at, groups_at, keep_grants, added, taken, apps_after, next}
use Rattle.state.specs.Stored.{zero_app, padded, app_from}
use Rattle.state.specs.Capacity.{Fits}
use Rattle.tables.specs.declared.Change.{Change}
use Rattle.tables.specs.declared.Change.TheVariants.{AddGrant, TakeGrant, AddGroup, TakeGroup}
use Rattle.tables.specs.Finding.{is_app}
use Rattle.tables.specs.Held.{apps_in, apps_table}
use Rattle.tables.specs.HeldLaws.{held, app-less, grants-dropped, room_for_grant, room_for_group, grant-added}
use Rattle.tables.specs.HeldLaws.{grant-taken}
use Rattle.tables.specs.HeldLaws.{group-added, group-taken}
use Rattle.tables.specs.Changing.{change_app, drop_grants}
use Rattle.monitor.specs.Made.{asking}

-- a member is one of the mapped list, too
pub mem-map : {A B : Type 0} (g : A → B) {x : A} {l : List A} → Memᴰ x l → Memᴰ (g x) (map g l)
mem-map g (Memᴰ.head e) = Memᴰ.head (ap g e)
mem-map g (Memᴰ.tail m) = Memᴰ.tail (mem-map g m)

-- ---- the table of rows
abbrev pub apps_of_rows : List Row → Apps
apps_of_rows rs = record { entries = padded zero_app 16 (map app_from rs); count = length rs }

pub rows-table : (rs : List Row) → apps_table (map app_from rs) ≡ apps_of_rows rs
rows-table rs = rw (length-map app_from rs)

-- a change of the table of rows
pub rows-by : (f : Apps → Apps) (rs qs : List Row) → f (apps_table (map app_from rs)) ≡ apps_table (map app_from qs)
    → f (apps_of_rows rs) ≡ apps_of_rows qs
rows-by f rs qs e = ap f (sym (rows-table rs)) ∙ e ∙ rows-table qs

rows_in_lem : (rs : List Row) → apps_in (apps_of_rows rs) ≡ map app_from rs
rows_in_lem rs = ap (λ (k : ℕ). take k (padded zero_app 16 (map app_from rs))) (sym (length-map app_from rs))
    ∙ held zero_app 16 (map app_from rs)

-- ---- grants and groups, where the next state fits
has_room : (t : Bool) (m n : ℕ) (l : List ℕ) → length (cond t (added m l) l) ≤ n → not t || ltb (length l) n ≡ true
has_room true m n l h = let k = length-append l (m ∷ []) in lt-ltb (length l) n (omega arith)
has_room false m n l h = refl

module _ (s : State) (b m v : ℕ) where
  pub change-made : (c : Change) → Fits large (next s (on_grants (asking c b m)) v)
      → change_app (apps_of_rows s.rows) b c m
      ≡ apps_of_rows (apps_after s.definitions s.rows (on_grants (asking c b m)))
  unfolding apps_after next
  change-made AddGrant fits =
      rows-by (λ t. change_app t b AddGrant m) s.rows (map (grants_at b (added m)) s.rows)
      (grant-added s.rows b m (mem-all (room_for_grant b) s.rows room))
    where
      room : (r : Row) → Memᴰ r s.rows → room_for_grant b r ≡ true
      room r h = has_room (eqb (app_number r) b) m 32 r.grants
          (unfold grants_at in fits.grants (mem-map (grants_at b (added m)) h))
  change-made TakeGrant fits =
      rows-by (λ t. change_app t b TakeGrant m) s.rows (map (grants_at b (taken m)) s.rows)
      (grant-taken s.rows b m)
  change-made AddGroup fits =
      rows-by (λ t. change_app t b AddGroup m) s.rows (map (groups_at b (added m)) s.rows)
      (group-added s.rows b m (mem-all (room_for_group b) s.rows room))
    where
      room : (r : Row) → Memᴰ r s.rows → room_for_group b r ≡ true
      room r h = has_room (eqb (app_number r) b) m 15 r.groups
          (unfold groups_at in fits.groups (mem-map (groups_at b (added m)) h))
  change-made TakeGroup fits =
      rows-by (λ t. change_app t b TakeGroup m) s.rows (map (groups_at b (taken m)) s.rows)
      (group-taken s.rows b m)

-- ---- an uninstall: the app goes, and the grants of what it defines
pub drop-made : (ds : List Definition) (rs : List Row) (b : ℕ)
    → drop_grants (apps_table (keep (λ a. not (is_app b a)) (apps_in (apps_of_rows rs)))) ds b
    ≡ apps_of_rows (map (keep_grants (λ p. not (defined_by ds b p))) (keep (λ r. not (eqb (app_number r) b)) rs))
drop-made ds rs b =
    let left = keep (λ r. not (eqb (app_number r) b)) rs in
    ap (λ (l : List App). drop_grants (apps_table (keep (λ a. not (is_app b a)) l)) ds b) (rows_in_lem rs)
    ∙ ap (λ (l : List App). drop_grants (apps_table l) ds b) (app-less rs b)
    ∙ grants-dropped left ds b
    ∙ rows-table (map (keep_grants (λ p. not (defined_by ds b p))) left)
