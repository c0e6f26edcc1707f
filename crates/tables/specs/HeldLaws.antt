-- What the changes make of a table that holds a list, zero past its end: the table of the changed list.
use Rattle.std.specs.Prelude.{ℕ, suc, ◌+◌, ◌-◌, ◌<◌, ◌≡◌, Bool, true, not, ◌||◌, cond, length, take, set, replicate}
use Rattle.std.specs.Prelude.{eqb, ltb}
use Rattle.std.proofs.Math.Path.{refl, ap₂}
use Rattle.std.proofs.Common.{sym, arith, ltb-true, length-append}
use Rattle.std.proofs.Math.Bool.{false}
use mathlib.Core.List.{List, [], ◌∷◌, ◌++◌, map}
use Rattle.std.proofs.lemmas.Bool.{lt-leb}
use Rattle.std.proofs.lemmas.List.{length-map}
use Rattle.std.proofs.Math.Seq.{take-append_seam, drop-append_seam, set-append_seam, append_snoc}
use Rattle.manifest.specs.declared.Resource.{Resource}
use Rattle.rules.specs.declared.Definition.{Definition}
use Rattle.rules.specs.declared.Part.{Part}
use Rattle.rules.specs.declared.Instance.{Instance}
use Rattle.rules.specs.Lists.{all, keep}
use Rattle.rules.specs.ListsLaws.{and_left, and_right, keep-map}
use Rattle.state.specs.declared.App.{App}
use Rattle.state.specs.Listed.{padded, table_of, appended}
use Rattle.state.specs.Tables.{Row, app_number, defined_by}
use Rattle.state.specs.Stored.{app_from, zero_app, zero_resource, zero_instance}
use Rattle.state.specs.Effects.{put, added, taken, grants_at, groups_at, keep_grants}
use Rattle.tables.specs.declared.Change.TheVariants.{AddGrant, TakeGrant, AddGroup, TakeGroup}
use Rattle.tables.specs.Held.{apps_table, definitions_table, parts_table, resources_table, instances_table}
use Rattle.tables.specs.Held.{definitions_in, parts_in, resources_in, instances_in}
use Rattle.tables.specs.Finding.{is_app}
use Rattle.tables.specs.RunningLaws.{mask-more, mask-less}
use Rattle.tables.specs.Changing.{append_instance, remove_instance, map_first, mapped, write_value}
use Rattle.tables.specs.Changing.{changed, changed_at, change_app, undefined_grants, drop_grants}

-- ---- any list in an array
module _ {A : Type 0} (z : A) (n : ℕ) (l : List A) where
  pub held : take (length l) (padded z n l) ≡ l
  held = take-append_seam l (replicate (n - length l) z)

  length_more : (x : A) → length (l ++ (x ∷ [])) ≡ length l + 1
  length_more x = length-append l (x ∷ [])

  padded-more : (x : A) → length l < n → set (padded z n l) (length l) x ≡ padded z n (l ++ (x ∷ []))
  padded-more x h =
      let m : ℕ = n - length (l ++ (x ∷ [])) in
      let e : n - length l ≡ suc m = rw length-append (omega arith) in
      rw (e, set-append_seam, ← append_snoc l x)

  padded-map : (f : A → A) → map_first (length l) f (padded z n l) ≡ padded z n (map f l)
  padded-map f = rw (held, drop-append_seam l (replicate (n - length l) z), length-map l f)

-- ---- the list of the table of a list
pub definitions-held : (l : List Definition) → definitions_in (definitions_table l) ≡ l
definitions-held l = held _ 256 l

pub parts_held : (l : List Part) → parts_in (parts_table l) ≡ l
parts_held l = held _ 64 l

pub resources-held : (l : List Resource) → resources_in (resources_table l) ≡ l
resources-held l = held _ 128 l

pub instances-held : (l : List Instance) → instances_in (instances_table l) ≡ l
instances-held l = held _ 64 l

-- ---- one more, where there is room
module _ {A : Type 0} (z : A) (n : ℕ) (l : List A) (x : A) (h : length l < n) where
  pub entry-more : appended n (table_of z n l) x ≡ table_of z n (l ++ (x ∷ []))
  unfolding appended
  entry-more = rw (lt-leb n (length l) h) (cc (padded-more z n l x h, length_more z n l x))

pub instance-more : (l : List Instance) (x : Instance) → length l < 64
    → append_instance (instances_table l) x ≡ instances_table (l ++ (x ∷ []))
unfolding append_instance
instance-more l x h =
    rw (lt-leb 64 (length l) h) (cc (entry-more zero_instance 64 l x h, mask-more l x))

-- ---- one instance less
pub instance-less : (l : List Instance) (n : ℕ)
    → remove_instance (instances_table l) n ≡ instances_table (keep (λ i. not (eqb i.number n)) l)
unfolding remove_instance
instance-less l n = rw (instances-held l, mask-less l n)

-- ---- a value written
pub value_written : (l : List Resource) (p u x : ℕ)
    → write_value (resources_table l) p u x ≡ resources_table (map (put p u x) l)
unfolding write_value
value_written l p u x = cc (padded-map zero_resource 128 l (put p u x), length-map l (put p u x))

-- ---- apps that hold rows
module _ (g : App → App) (h : Row → Row) where
  same_rows : (f : Row → Bool) → ((r : Row) → f r ≡ true → g (app_from r) ≡ app_from (h r)) → (rs : List Row)
      → all f rs ≡ true → map g (map app_from rs) ≡ map app_from (map h rs)
  same_rows f k [] e = refl
  same_rows f k (r ∷ rs) e =
      ap₂ (λ (a : App) (l : List App). a ∷ l) (k r (and_left (f r) (all f rs) e))
      (same_rows f k rs (and_right (f r) (all f rs) e))

  apps-mapped : (rs : List Row) → map g (map app_from rs) ≡ map app_from (map h rs)
      → mapped g (apps_table (map app_from rs)) ≡ apps_table (map app_from (map h rs))
  apps-mapped rs e =
      cc (padded-map zero_app 16 (map app_from rs) g, sym (length-map (map app_from rs) g), e)

-- the table of apps of a state is that of its rows
pub rows-table : (rs : List Row)
    → apps_table (map app_from rs) ≡ record { entries = padded zero_app 16 (map app_from rs); count = length rs }
rows-table rs = cc (length-map rs app_from)

always : (rs : List Row) → all (λ r. true) rs ≡ true
always [] = refl
always (r ∷ rs) = always rs

pub app-less : (rs : List Row) (b : ℕ)
    → keep (λ a. not (is_app b a)) (map app_from rs) ≡ map app_from (keep (λ r. not (eqb (app_number r) b)) rs)
app-less rs b = keep-map (λ a. not (is_app b a)) app_from rs

pub grants-dropped : (rs : List Row) (ds : List Definition) (b : ℕ)
    → drop_grants (apps_table (map app_from rs)) ds b
    ≡ apps_table (map app_from (map (keep_grants (λ p. not (defined_by ds b p))) rs))
unfolding drop_grants
grants-dropped rs ds b =
    apps-mapped (undefined_grants ds b) (keep_grants (λ p. not (defined_by ds b p))) rs
    (same_rows (undefined_grants ds b) (keep_grants (λ p. not (defined_by ds b p))) (λ r. true) one rs (always rs))
  where
    one : (r : Row) → true ≡ true
        → undefined_grants ds b (app_from r) ≡ app_from (keep_grants (λ p. not (defined_by ds b p)) r)
    one r e = unfold undefined_grants keep_grants in rw (held 0 32 r.grants)

-- the app of the number has room for one more
abbrev pub room_for_grant : ℕ → Row → Bool
room_for_grant b r = not (eqb (app_number r) b) || ltb (length r.grants) 32

abbrev pub room_for_group : ℕ → Row → Bool
room_for_group b r = not (eqb (app_number r) b) || ltb (length r.groups) 15

row-grants : Row → List ℕ → Row
row-grants r l = record { app = r.app; grants = l; groups = r.groups }

row-groups : Row → List ℕ → Row
row-groups r l = record { app = r.app; grants = r.grants; groups = l }

grant-one : (m : ℕ) (r : Row) → length r.grants < 32
    → changed AddGrant m (app_from r) ≡ app_from (row-grants r (added m r.grants))
unfolding changed row-grants
grant-one m r h = rw (entry-more 0 32 r.grants m h)

pub grant-added : (rs : List Row) (b m : ℕ) → all (room_for_grant b) rs ≡ true
    → change_app (apps_table (map app_from rs)) b AddGrant m
    ≡ apps_table (map app_from (map (grants_at b (added m)) rs))
unfolding change_app
grant-added rs b m h =
    apps-mapped (changed_at b AddGrant m) (grants_at b (added m)) rs
    (same_rows (changed_at b AddGrant m) (grants_at b (added m)) (room_for_grant b) one rs h)
  where
    go : (r : Row) (t : Bool) → not t || ltb (length r.grants) 32 ≡ true
        → cond t (changed AddGrant m (app_from r)) (app_from r)
        ≡ app_from (row-grants r (cond t (added m r.grants) r.grants))
    go r true e = grant-one m r (ltb-true (length r.grants) 32 e)
    go r false e = unfold row-grants in refl

    one : (r : Row) → room_for_grant b r ≡ true → changed_at b AddGrant m (app_from r)
        ≡ app_from (grants_at b (added m) r)
    one r e = unfold changed_at grants_at row-grants in go r (eqb (app_number r) b) e

pub grant-taken : (rs : List Row) (b m : ℕ)
    → change_app (apps_table (map app_from rs)) b TakeGrant m
    ≡ apps_table (map app_from (map (grants_at b (taken m)) rs))
unfolding change_app
grant-taken rs b m =
    apps-mapped (changed_at b TakeGrant m) (grants_at b (taken m)) rs
    (same_rows (changed_at b TakeGrant m) (grants_at b (taken m)) (λ r. true) one rs (always rs))
  where
    go : (r : Row) (t : Bool) → cond t (changed TakeGrant m (app_from r)) (app_from r)
        ≡ app_from (row-grants r (cond t (taken m r.grants) r.grants))
    go r true = unfold changed row-grants in rw (held 0 32 r.grants)
    go r false = unfold row-grants in refl

    one : (r : Row) → true ≡ true → changed_at b TakeGrant m (app_from r) ≡ app_from (grants_at b (taken m) r)
    one r e = unfold changed_at grants_at row-grants in go r (eqb (app_number r) b)

group-one : (m : ℕ) (r : Row) → length r.groups < 15
    → changed AddGroup m (app_from r) ≡ app_from (row-groups r (added m r.groups))
unfolding changed row-groups
group-one m r h = rw (entry-more 0 15 r.groups m h)

pub group-added : (rs : List Row) (b m : ℕ) → all (room_for_group b) rs ≡ true
    → change_app (apps_table (map app_from rs)) b AddGroup m
    ≡ apps_table (map app_from (map (groups_at b (added m)) rs))
unfolding change_app
group-added rs b m h =
    apps-mapped (changed_at b AddGroup m) (groups_at b (added m)) rs
    (same_rows (changed_at b AddGroup m) (groups_at b (added m)) (room_for_group b) one rs h)
  where
    go : (r : Row) (t : Bool) → not t || ltb (length r.groups) 15 ≡ true
        → cond t (changed AddGroup m (app_from r)) (app_from r)
        ≡ app_from (row-groups r (cond t (added m r.groups) r.groups))
    go r true e = group-one m r (ltb-true (length r.groups) 15 e)
    go r false e = unfold row-groups in refl

    one : (r : Row) → room_for_group b r ≡ true → changed_at b AddGroup m (app_from r)
        ≡ app_from (groups_at b (added m) r)
    one r e = unfold changed_at groups_at row-groups in go r (eqb (app_number r) b) e

pub group-taken : (rs : List Row) (b m : ℕ)
    → change_app (apps_table (map app_from rs)) b TakeGroup m
    ≡ apps_table (map app_from (map (groups_at b (taken m)) rs))
unfolding change_app
group-taken rs b m =
    apps-mapped (changed_at b TakeGroup m) (groups_at b (taken m)) rs
    (same_rows (changed_at b TakeGroup m) (groups_at b (taken m)) (λ r. true) one rs (always rs))
  where
    go : (r : Row) (t : Bool) → cond t (changed TakeGroup m (app_from r)) (app_from r)
        ≡ app_from (row-groups r (cond t (taken m r.groups) r.groups))
    go r true = unfold changed row-groups in rw (held 0 15 r.groups)
    go r false = unfold row-groups in refl

    one : (r : Row) → true ≡ true → changed_at b TakeGroup m (app_from r) ≡ app_from (groups_at b (taken m) r)
    one r e = unfold changed_at groups_at row-groups in go r (eqb (app_number r) b)
