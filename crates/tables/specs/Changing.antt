-- What the changes of a table make of it, for every table: one entry more, a change of each entry of its list, and
-- the number of an instance put to the running numbers or taken from them.
use Rattle.std.specs.Prelude.{ℕ, not, cond, List, ◌++◌, map, take, drop, leb}
use Rattle.std.specs.Int.Bits.{bit_and, bit_or}
use Rattle.rules.specs.declared.Definition.{Definition}
use Rattle.rules.specs.declared.Instance.{Instance}
use Rattle.rules.specs.Lists.{keep}
use Rattle.state.specs.declared.App.{App}
use Rattle.state.specs.declared.Instances.{Instances}
use Rattle.state.specs.declared.Table.{Table}
use Rattle.state.specs.Listed.{Apps, Resources, list_in, table_of, appended}
use Rattle.state.specs.Stored.{zero_instance}
use Rattle.state.specs.Tables.{defined_by}
use Rattle.state.specs.Effects.{put, taken}
use Rattle.tables.specs.declared.Change.{Change}
use Rattle.tables.specs.declared.Change.TheVariants.{AddGrant, TakeGrant, AddGroup, TakeGroup}
use Rattle.tables.specs.Finding.{is_app, is_instance}
use Rattle.tables.specs.Held.{instances_in}
use Rattle.tables.specs.Running.{digit_of, without}

-- ---- one instance more, with its number; a full table stays as it is
unfoldable pub append_instance : Instances → Instance → Instances
append_instance t x =
    cond (leb 64 t.list.count) t (record {
      list = appended 64 t.list x;
      running = bit_or t.running (digit_of x.number);
    })

-- ---- one instance less, with its number
abbrev pub instances_with : List Instance → ℕ → Instances
instances_with l running = record { list = table_of zero_instance 64 l; running = running }

unfoldable pub remove_instance : Instances → ℕ → Instances
remove_instance t n =
    instances_with (keep (λ i. not (is_instance n i)) (instances_in t)) (bit_and t.running (without (digit_of n)))

-- ---- each entry of the list changed, and the places past it as they were
abbrev pub map_first : {A : Type 0} → ℕ → (A → A) → List A → List A
map_first k f l = map f (take k l) ++ drop k l

abbrev pub mapped : {A : Type 0} {n : ℕ} → (A → A) → Table A n → Table A n
mapped f t = record { entries = map_first t.count f t.entries; count = t.count }

unfoldable pub write_value : Resources → (provider uri value : ℕ) → Resources
write_value t p u x = mapped (put p u x) t

-- ---- an app's own lists: another list, and one more; a full list stays as it is
abbrev pub regrant : App → Table ℕ 32 → App
regrant a grants =
    record {
      number = a.number;
      signer = a.signer;
      image = a.image;
      uses = a.uses;
      grants = grants;
      groups = a.groups;
    }

abbrev pub regroup : App → Table ℕ 15 → App
regroup a groups =
    record {
      number = a.number;
      signer = a.signer;
      image = a.image;
      uses = a.uses;
      grants = a.grants;
      groups = groups;
    }

-- a grant action's change of the app of a number
unfoldable pub changed : Change → ℕ → App → App
changed AddGrant m a = regrant a (appended 32 a.grants m)
changed TakeGrant m a = regrant a (table_of 0 32 (taken m (list_in a.grants)))
changed AddGroup m a = regroup a (appended 15 a.groups m)
changed TakeGroup m a = regroup a (table_of 0 15 (taken m (list_in a.groups)))

unfoldable pub changed_at : ℕ → Change → ℕ → App → App
changed_at b change m a = cond (is_app b a) (changed change m a) a

unfoldable pub change_app : Apps → ℕ → Change → ℕ → Apps
change_app t b change m = mapped (changed_at b change m) t

-- an uninstall's: only the grants of permissions that the app does not define
unfoldable pub undefined_grants : List Definition → ℕ → App → App
undefined_grants ds b a =
    regrant a (table_of 0 32 (keep (λ p. not (defined_by ds b p)) (list_in a.grants)))

unfoldable pub drop_grants : Apps → List Definition → ℕ → Apps
drop_grants t ds b = mapped (undefined_grants ds b) t
