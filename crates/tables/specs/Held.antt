-- The lists that the tables hold, for every table: a count past the array holds the whole array.
-- And the table that holds a list, zero past its end.
use Rattle.std.specs.Prelude.{List, map}
use Rattle.manifest.specs.declared.Resource.{Resource}
use Rattle.rules.specs.declared.Definition.{Definition}
use Rattle.rules.specs.declared.Part.{Part}
use Rattle.rules.specs.declared.Instance.{Instance}
use Rattle.state.specs.declared.App.{App}
use Rattle.state.specs.declared.Instances.{Instances}
use Rattle.state.specs.Listed.{Apps, Definitions, Parts, Resources, list_in, table_of}
use Rattle.state.specs.Tables.{Row}
use Rattle.state.specs.Stored.{row_of, mask_of, zero_app, zero_definition, zero_part, zero_resource}
use Rattle.state.specs.Stored.{zero_instance}

-- ---- the lists
abbrev pub apps_in : Apps → List App
apps_in t = list_in t

abbrev pub rows_in : Apps → List Row
rows_in t = map row_of (apps_in t)

abbrev pub definitions_in : Definitions → List Definition
definitions_in t = list_in t

abbrev pub parts_in : Parts → List Part
parts_in t = list_in t

abbrev pub resources_in : Resources → List Resource
resources_in t = list_in t

abbrev pub instances_in : Instances → List Instance
instances_in t = list_in t.list

-- ---- the tables
abbrev pub apps_table : List App → Apps
apps_table l = table_of zero_app 16 l

abbrev pub definitions_table : List Definition → Definitions
definitions_table l = table_of zero_definition 256 l

abbrev pub parts_table : List Part → Parts
parts_table l = table_of zero_part 64 l

abbrev pub resources_table : List Resource → Resources
resources_table l = table_of zero_resource 128 l

abbrev pub instances_table : List Instance → Instances
instances_table l =
    record {
      list = table_of zero_instance 64 l;
      running = mask_of l;
    }
