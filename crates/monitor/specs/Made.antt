-- What each accepted action makes of the device's tables, in the words of the tables' own changes.
use Rattle.std.specs.Prelude.{ℕ, not, eqb, leb, cond, Option, Some, None}
use Rattle.rules.specs.Lists.{keep}
use Rattle.rules.specs.Action.{GrantAction, grant, revoke, grant_group, revoke_group}
use Rattle.state.specs.declared.Instances.{Instances}
use Rattle.state.specs.Listed.{Apps, Resources}
use Rattle.state.specs.declared.Device.{Device}
use Rattle.state.specs.Tables.{owned_by}
use Rattle.tables.specs.declared.Change.{Change}
use Rattle.tables.specs.declared.Change.TheVariants.{AddGrant, TakeGrant, AddGroup, TakeGroup}
use Rattle.tables.specs.declared.Receiver.{Receiver}
use Rattle.tables.specs.declared.Receiver.TheVariants.{Instance, App}
use Rattle.tables.specs.Finding.{is_app}
use Rattle.tables.specs.Held.{apps_in, definitions_in, parts_in, resources_in}
use Rattle.tables.specs.Held.{apps_table, definitions_table, parts_table, resources_table}
use Rattle.tables.specs.Changing.{write_value, append_instance, remove_instance, change_app, drop_grants}

-- the receiver of a loan, where its number fits a loan's field
abbrev pub narrowed : Receiver ℕ → Option (Receiver ℕ)
narrowed (Instance n) = cond (leb n 65535) (Some (Instance n)) None
narrowed (App b) = cond (leb b 65535) (Some (App b)) None

-- ---- one table anew, the rest as it was
abbrev pub with_apps : Device → Apps → Device
with_apps d t =
    record {
      apps = t;
      definitions = d.definitions;
      parts = d.parts;
      resources = d.resources;
      instances = d.instances;
      lent = d.lent;
    }

abbrev pub with_resources : Device → Resources → Device
with_resources d t =
    record {
      apps = d.apps;
      definitions = d.definitions;
      parts = d.parts;
      resources = t;
      instances = d.instances;
      lent = d.lent;
    }

abbrev pub with_instances : Device → Instances → Device
with_instances d t =
    record {
      apps = d.apps;
      definitions = d.definitions;
      parts = d.parts;
      resources = d.resources;
      instances = t;
      lent = d.lent;
    }

abbrev pub with_lent : Device → ℕ → Device
with_lent d n =
    record {
      apps = d.apps;
      definitions = d.definitions;
      parts = d.parts;
      resources = d.resources;
      instances = d.instances;
      lent = n;
    }

-- ---- the action that asks for a change of an app's lists
abbrev pub asking : Change → (app member : ℕ) → GrantAction
asking AddGrant b m = grant b m
asking TakeGrant b m = revoke b m
asking AddGroup b m = grant_group b m
asking TakeGroup b m = revoke_group b m

-- ---- what each action makes; how many loans are left is handed to it
abbrev pub grant_made : Device → Change → (app member : ℕ) → Device
grant_made d c b m = with_apps d (change_app d.apps b c m)

abbrev pub write_made : Device → (provider uri value : ℕ) → Device
write_made d p u x = with_resources d (write_value d.resources p u x)

abbrev pub start_made : Device → (component number : ℕ) → Device
start_made d c n = with_instances d (append_instance d.instances (record { number = n; component = c }))

abbrev pub stop_made : Device → ℕ → (instance : ℕ) → Device
stop_made d loans n = with_lent (with_instances d (remove_instance d.instances n)) loans

abbrev pub uninstall_made : Device → ℕ → (app : ℕ) → Device
uninstall_made d loans b =
    record {
      apps = drop_grants (apps_table (keep (λ a. not (is_app b a)) (apps_in d.apps))) (definitions_in d.definitions) b;
      definitions = definitions_table (keep (λ e. not (eqb e.app b)) (definitions_in d.definitions));
      parts = parts_table (keep (λ k. not (eqb k.app b)) (parts_in d.parts));
      resources =
          resources_table (keep (λ r. not (owned_by (parts_in d.parts) b r.provider)) (resources_in d.resources));
      instances = d.instances;
      lent = loans;
    }
