-- No two differing results meet the contract of a public function: each contract is one equation for the whole result.
-- Document 01, "What the contracts have to say".
use Rattle.std.specs.Prelude.{ℕ, ◌≡◌, Bool, not, List, Option, [], take, eqb}
use Rattle.std.specs.Int.Count.{ones}
use Rattle.manifest.specs.Unique.{only_one}
use Rattle.manifest.specs.declared.Resource.{Resource}
use Rattle.rules.specs.declared.Definition.{Definition}
use Rattle.rules.specs.declared.Part.{Part}
use Rattle.rules.specs.declared.Instance.{Instance}
use Rattle.rules.specs.declared.Known.{Known}
use Rattle.rules.specs.declared.Hold.{Hold}
use Rattle.rules.specs.declared.Ground.{Ground}
use Rattle.state.specs.declared.App.{App}
use Rattle.state.specs.declared.Instances.{Instances}
use Rattle.state.specs.declared.Table.{Table}
use Rattle.state.specs.Listed.{Apps, Definitions, Parts, Resources, list_in}
use Rattle.tables.specs.declared.Operation.{Operation}
use Rattle.tables.specs.declared.Receiver.{Receiver}
use Rattle.tables.specs.declared.Change.{Change}
use Rattle.rules.specs.Lists.{any, keep, mem}
use Rattle.rules.specs.Action.{carries}
use Rattle.rules.specs.Permissions.{built_in, known, hold, holds, allows}
use Rattle.rules.specs.Grounds.{right_ground}
use Rattle.state.specs.Stored.{row_of}
use Rattle.state.specs.Tables.{apps_of, is_resource, owned_by, defined_by, known_from, defined_in, granted_in}
use Rattle.state.specs.Tables.{grouped_in}
use Rattle.tables.specs.Held.{apps_in, rows_in, definitions_in, parts_in, resources_in, instances_in}
use Rattle.tables.specs.Held.{apps_table, definitions_table, parts_table, resources_table}
use Rattle.tables.specs.Finding.{place_of, first_of, is_app, is_part, is_definition, is_instance}
use Rattle.tables.specs.Looking.{option_of, op_of, kind_of, number_in, view_by, running_place, runner_in}
use Rattle.tables.specs.Running.{next_of}
use Rattle.tables.specs.Changing.{append_instance, remove_instance, write_value, change_app, drop_grants}

pub is-in-only : (operation : Operation) (operations : ℕ) (r r' : Bool)
    → r ≡ carries (op_of operation) operations → r' ≡ carries (op_of operation) operations → r ≡ r'
is-in-only operation operations = only_one (carries (op_of operation) operations)

pub kind-only : {N : Type 0} (receiver : Receiver N) (r r' : ℕ)
    → r ≡ kind_of receiver → r' ≡ kind_of receiver → r ≡ r'
kind-only receiver = only_one (kind_of receiver)

pub number-only : {N : Type 0} (receiver : Receiver N) (r r' : N)
    → r ≡ number_in receiver → r' ≡ number_in receiver → r ≡ r'
number-only receiver = only_one (number_in receiver)

pub find-app-only : (apps : Apps) (number : ℕ) (r r' : Option ℕ)
    → r ≡ place_of (is_app number) (apps_in apps) → r' ≡ place_of (is_app number) (apps_in apps) → r ≡ r'
find-app-only apps number = only_one (place_of (is_app number) (apps_in apps))

pub find-part-only : (parts : Parts) (number : ℕ) (r r' : Option ℕ)
    → r ≡ place_of (is_part number) (parts_in parts) → r' ≡ place_of (is_part number) (parts_in parts) → r ≡ r'
find-part-only parts number = only_one (place_of (is_part number) (parts_in parts))

pub find-definition-only : (definitions : Definitions) (permission : ℕ) (r r' : Option ℕ)
    → r ≡ place_of (is_definition permission) (definitions_in definitions)
    → r' ≡ place_of (is_definition permission) (definitions_in definitions) → r ≡ r'
find-definition-only definitions permission =
    only_one (place_of (is_definition permission) (definitions_in definitions))

pub find-instance-only : (instances : Instances) (number : ℕ) (r r' : Option ℕ)
    → r ≡ place_of (is_instance number) (instances_in instances)
    → r' ≡ place_of (is_instance number) (instances_in instances) → r ≡ r'
find-instance-only instances number = only_one (place_of (is_instance number) (instances_in instances))

pub find-resource-only : (resources : Resources) (provider uri : ℕ) (r r' : Option ℕ)
    → r ≡ place_of (is_resource provider uri) (resources_in resources)
    → r' ≡ place_of (is_resource provider uri) (resources_in resources) → r ≡ r'
find-resource-only resources provider uri = only_one (place_of (is_resource provider uri) (resources_in resources))

pub app-of-only : (apps : Apps) (number : ℕ) (r r' : Option App)
    → r ≡ first_of (is_app number) (apps_in apps) → r' ≡ first_of (is_app number) (apps_in apps) → r ≡ r'
app-of-only apps number = only_one (first_of (is_app number) (apps_in apps))

pub part-of-only : (parts : Parts) (number : ℕ) (r r' : Option Part)
    → r ≡ first_of (is_part number) (parts_in parts) → r' ≡ first_of (is_part number) (parts_in parts) → r ≡ r'
part-of-only parts number = only_one (first_of (is_part number) (parts_in parts))

pub definition-of-only : (definitions : Definitions) (permission : ℕ) (r r' : Option Definition)
    → r ≡ first_of (is_definition permission) (definitions_in definitions)
    → r' ≡ first_of (is_definition permission) (definitions_in definitions) → r ≡ r'
definition-of-only definitions permission = only_one (first_of (is_definition permission) (definitions_in definitions))

pub instance-of-only : (instances : Instances) (number : ℕ) (r r' : Option Instance)
    → r ≡ first_of (is_instance number) (instances_in instances)
    → r' ≡ first_of (is_instance number) (instances_in instances) → r ≡ r'
instance-of-only instances number = only_one (first_of (is_instance number) (instances_in instances))

pub resource-of-only : (resources : Resources) (provider uri : ℕ) (r r' : Option Resource)
    → r ≡ first_of (is_resource provider uri) (resources_in resources)
    → r' ≡ first_of (is_resource provider uri) (resources_in resources) → r ≡ r'
resource-of-only resources provider uri = only_one (first_of (is_resource provider uri) (resources_in resources))

pub runner-only : (apps : Apps) (parts : Parts) (instances : Instances) (number : ℕ) (r r' : Option App)
    → r ≡ option_of (runner_in (apps_in apps) (parts_in parts) (instances_in instances) number)
    → r' ≡ option_of (runner_in (apps_in apps) (parts_in parts) (instances_in instances) number) → r ≡ r'
runner-only apps parts instances number =
    only_one (option_of (runner_in (apps_in apps) (parts_in parts) (instances_in instances) number))

pub has-app-only : (apps : Apps) (number : ℕ) (r r' : Bool)
    → r ≡ any (is_app number) (apps_in apps) → r' ≡ any (is_app number) (apps_in apps) → r ≡ r'
has-app-only apps number = only_one (any (is_app number) (apps_in apps))

pub has-part-only : (parts : Parts) (number : ℕ) (r r' : Bool)
    → r ≡ any (is_part number) (parts_in parts) → r' ≡ any (is_part number) (parts_in parts) → r ≡ r'
has-part-only parts number = only_one (any (is_part number) (parts_in parts))

pub has-definition-only : (definitions : Definitions) (permission : ℕ) (r r' : Bool)
    → r ≡ any (is_definition permission) (definitions_in definitions)
    → r' ≡ any (is_definition permission) (definitions_in definitions) → r ≡ r'
has-definition-only definitions permission = only_one (any (is_definition permission) (definitions_in definitions))

pub has-instance-only : (instances : Instances) (number : ℕ) (r r' : Bool)
    → r ≡ any (is_instance number) (instances_in instances)
    → r' ≡ any (is_instance number) (instances_in instances) → r ≡ r'
has-instance-only instances number = only_one (any (is_instance number) (instances_in instances))

pub has-resource-only : (resources : Resources) (provider uri : ℕ) (r r' : Bool)
    → r ≡ any (is_resource provider uri) (resources_in resources)
    → r' ≡ any (is_resource provider uri) (resources_in resources) → r ≡ r'
has-resource-only resources provider uri = only_one (any (is_resource provider uri) (resources_in resources))

pub owns-only : (parts : Parts) (app component : ℕ) (r r' : Bool)
    → r ≡ owned_by (parts_in parts) app component → r' ≡ owned_by (parts_in parts) app component → r ≡ r'
owns-only parts app component = only_one (owned_by (parts_in parts) app component)

pub defines-only : (definitions : Definitions) (app permission : ℕ) (r r' : Bool)
    → r ≡ defined_by (definitions_in definitions) app permission
    → r' ≡ defined_by (definitions_in definitions) app permission → r ≡ r'
defines-only definitions app permission = only_one (defined_by (definitions_in definitions) app permission)

pub has-byte-only : (bytes : List ℕ) (count number : ℕ) (r r' : Bool)
    → r ≡ mem number (take count (bytes)) → r' ≡ mem number (take count (bytes)) → r ≡ r'
has-byte-only bytes count number = only_one (mem number (take count (bytes)))

pub is-on-only : (room : ℕ) (list : Table ℕ room) (number : ℕ) (r r' : Bool)
    → r ≡ mem number (list_in list) → r' ≡ mem number (list_in list) → r ≡ r'
is-on-only room list number = only_one (mem number (list_in list))

pub built-in-only : (permission : ℕ) (r r' : Option Known)
    → r ≡ option_of (built_in permission) → r' ≡ option_of (built_in permission) → r ≡ r'
built-in-only permission = only_one (option_of (built_in permission))

pub known-from-only : (apps : Apps) (definition : Definition) (r r' : Option Known)
    → r ≡ option_of (known_from (apps_of (rows_in apps)) definition)
    → r' ≡ option_of (known_from (apps_of (rows_in apps)) definition) → r ≡ r'
known-from-only apps definition = only_one (option_of (known_from (apps_of (rows_in apps)) definition))

pub defined-in-only : (apps : Apps) (definitions : Definitions) (permission : ℕ) (r r' : Option Known)
    → r ≡ option_of (defined_in (apps_of (rows_in apps)) (definitions_in definitions) permission)
    → r' ≡ option_of (defined_in (apps_of (rows_in apps)) (definitions_in definitions) permission) → r ≡ r'
defined-in-only apps definitions permission =
    only_one (option_of (defined_in (apps_of (rows_in apps)) (definitions_in definitions) permission))

pub known-of-only : (apps : Apps) (definitions : Definitions) (permission : ℕ) (r r' : Option Known)
    → r ≡ option_of (known (view_by (rows_in apps) (definitions_in definitions) [] []) permission)
    → r' ≡ option_of (known (view_by (rows_in apps) (definitions_in definitions) [] []) permission) → r ≡ r'
known-of-only apps definitions permission =
    only_one (option_of (known (view_by (rows_in apps) (definitions_in definitions) [] []) permission))

pub granted-only : (apps : Apps) (app permission : ℕ) (r r' : Bool)
    → r ≡ granted_in (rows_in apps) app permission → r' ≡ granted_in (rows_in apps) app permission → r ≡ r'
granted-only apps app permission = only_one (granted_in (rows_in apps) app permission)

pub grouped-only : (apps : Apps) (app group : ℕ) (r r' : Bool)
    → r ≡ grouped_in (rows_in apps) app group → r' ≡ grouped_in (rows_in apps) app group → r ≡ r'
grouped-only apps app group = only_one (grouped_in (rows_in apps) app group)

pub hold-only : (apps : Apps) (app : App) (permission : ℕ) (known : Known) (r r' : Hold)
    → r ≡ hold (view_by (rows_in apps) [] [] []) (row_of app).app permission known
    → r' ≡ hold (view_by (rows_in apps) [] [] []) (row_of app).app permission known → r ≡ r'
hold-only apps app permission known =
    only_one (hold (view_by (rows_in apps) [] [] []) (row_of app).app permission known)

pub holds-only : (apps : Apps) (definitions : Definitions) (app : App) (permission : ℕ) (r r' : Bool)
    → r ≡ holds (view_by (rows_in apps) (definitions_in definitions) [] []) (row_of app).app permission
    → r' ≡ holds (view_by (rows_in apps) (definitions_in definitions) [] []) (row_of app).app permission → r ≡ r'
holds-only apps definitions app permission =
    only_one (holds (view_by (rows_in apps) (definitions_in definitions) [] []) (row_of app).app permission)

pub allows-only : (apps : Apps) (definitions : Definitions) (app : App) (permission : ℕ) (r r' : Bool)
    → r ≡ allows (view_by (rows_in apps) (definitions_in definitions) [] []) (row_of app).app permission
    → r' ≡ allows (view_by (rows_in apps) (definitions_in definitions) [] []) (row_of app).app permission → r ≡ r'
allows-only apps definitions app permission =
    only_one (allows (view_by (rows_in apps) (definitions_in definitions) [] []) (row_of app).app permission)

pub ground-right-only : (apps : Apps) (definitions : Definitions) (app : App) (provider : Part) (operation : Operation)
    (r r' : Ground)
    → r ≡ right_ground (view_by (rows_in apps) (definitions_in definitions) [] []) (row_of app).app provider
    (op_of operation)
    → r' ≡ right_ground (view_by (rows_in apps) (definitions_in definitions) [] []) (row_of app).app provider
    (op_of operation) → r ≡ r'
ground-right-only apps definitions app provider operation =
    only_one (right_ground (view_by (rows_in apps) (definitions_in definitions) [] []) (row_of app).app provider
    (op_of operation))

pub running-app-only : (apps : Apps) (parts : Parts) (instances : Instances) (number : ℕ) (r r' : Option ℕ)
    → r ≡ running_place (apps_in apps) (parts_in parts) (instances_in instances) number
    → r' ≡ running_place (apps_in apps) (parts_in parts) (instances_in instances) number → r ≡ r'
running-app-only apps parts instances number =
    only_one (running_place (apps_in apps) (parts_in parts) (instances_in instances) number)

pub remove-app-only : (apps : Apps) (number : ℕ) (r r' : Apps)
    → r ≡ apps_table (keep (λ a. not (is_app number a)) (apps_in apps))
    → r' ≡ apps_table (keep (λ a. not (is_app number a)) (apps_in apps)) → r ≡ r'
remove-app-only apps number = only_one (apps_table (keep (λ a. not (is_app number a)) (apps_in apps)))

pub remove-definitions-only : (definitions : Definitions) (app : ℕ) (r r' : Definitions)
    → r ≡ definitions_table (keep (λ d. not (eqb d.app app)) (definitions_in definitions))
    → r' ≡ definitions_table (keep (λ d. not (eqb d.app app)) (definitions_in definitions)) → r ≡ r'
remove-definitions-only definitions app =
    only_one (definitions_table (keep (λ d. not (eqb d.app app)) (definitions_in definitions)))

pub remove-parts-only : (parts : Parts) (app : ℕ) (r r' : Parts)
    → r ≡ parts_table (keep (λ k. not (eqb k.app app)) (parts_in parts))
    → r' ≡ parts_table (keep (λ k. not (eqb k.app app)) (parts_in parts)) → r ≡ r'
remove-parts-only parts app = only_one (parts_table (keep (λ k. not (eqb k.app app)) (parts_in parts)))

pub remove-resources-only : (resources : Resources) (parts : Parts) (app : ℕ) (r r' : Resources)
    → r ≡ resources_table (keep (λ x. not (owned_by (parts_in parts) app x.provider)) (resources_in resources))
    → r' ≡ resources_table (keep (λ x. not (owned_by (parts_in parts) app x.provider)) (resources_in resources)) → r
    ≡ r'
remove-resources-only resources parts app =
    only_one (resources_table (keep (λ x. not (owned_by (parts_in parts) app x.provider)) (resources_in resources)))

pub append-instance-only : (instances : Instances) (instance : Instance) (r r' : Instances)
    → r ≡ append_instance instances instance → r' ≡ append_instance instances instance → r ≡ r'
append-instance-only instances instance = only_one (append_instance instances instance)

pub remove-instance-only : (instances : Instances) (number : ℕ) (r r' : Instances)
    → r ≡ remove_instance instances number → r' ≡ remove_instance instances number → r ≡ r'
remove-instance-only instances number = only_one (remove_instance instances number)

pub next-number-only : (instances : Instances) (r r' : ℕ)
    → r ≡ next_of instances.running → r' ≡ next_of instances.running → r ≡ r'
next-number-only instances = only_one (next_of instances.running)

pub running-count-only : (instances : Instances) (r r' : ℕ)
    → r ≡ ones instances.running → r' ≡ ones instances.running → r ≡ r'
running-count-only instances = only_one (ones instances.running)

pub write-value-only : (resources : Resources) (provider uri value : ℕ) (r r' : Resources)
    → r ≡ write_value resources provider uri value → r' ≡ write_value resources provider uri value → r ≡ r'
write-value-only resources provider uri value = only_one (write_value resources provider uri value)

pub change-app-only : (apps : Apps) (number : ℕ) (change : Change) (member : ℕ) (r r' : Apps)
    → r ≡ change_app apps number change member → r' ≡ change_app apps number change member → r ≡ r'
change-app-only apps number change member = only_one (change_app apps number change member)

pub drop-grants-only : (apps : Apps) (definitions : Definitions) (app : ℕ) (r r' : Apps)
    → r ≡ drop_grants apps (definitions_in definitions) app
    → r' ≡ drop_grants apps (definitions_in definitions) app → r ≡ r'
drop-grants-only apps definitions app = only_one (drop_grants apps (definitions_in definitions) app)
