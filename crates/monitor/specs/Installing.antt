-- What an install makes of the device's tables: the app's row, and an entry for each entry of the manifest's sections.
use Rattle.std.specs.Prelude.{ℕ, ◌≡◌, ◌+◌, ◌*◌, ◌≤◌, Bool, List, [], ◌∷◌}
use Rattle.std.specs.Fn.{FnReturns}
use denote.Param.Members.{Shared}
use Rattle.manifest.specs.declared.Sections.{Sections}
use Rattle.manifest.specs.Layout.{u8_at, define_at, component_at, resource_at, entries}
use Rattle.state.specs.declared.App.{App}
use Rattle.state.specs.declared.Device.{Device}
use Rattle.state.specs.Tables.{Row}
use Rattle.state.specs.Listed.{Definitions, Parts, Resources, appended}
use Rattle.state.specs.Stored.{app_from}

-- each entry of a list put to a table in turn
unfoldable pub append_all : {T A : Type 0} → (T → A → T) → T → List A → T
append_all append t [] = t
append_all append t (x ∷ l) = append_all append (append t x) l

-- what a closure makes of a table and the place of an entry
abbrev pub Steps : {F T : Type 0} → Shared F (T × (ℕ × Unit {0})) T → F → (T → ℕ → T) → Type 0
Steps {F} {T} g f step = (t : T) (at : ℕ) (r : T) → FnReturns g f (t, (at, tt)) r → r ≡ step t at

-- the row of an app that lists some permissions and has no grants
abbrev pub new_row : (number signer : ℕ) → Bool → List ℕ → Row
new_row n k i us =
    record {
      app =
          record {
            number = n;
            signer = k;
            image = i;
            uses = us;
          };
      grants = [];
      groups = [];
    }

-- one permission more in an app's uses; a full list stays as it is
unfoldable pub add_use : App → ℕ → App
add_use a p =
    record {
      number = a.number;
      signer = a.signer;
      image = a.image;
      uses = appended 32 a.uses p;
      grants = a.grants;
      groups = a.groups;
    }

-- the sections end within so many bytes
pub record Within (m : Sections) (n : ℕ) : Type 0 where
  pub uses : m.uses.first + 1 * m.uses.count ≤ n
  pub defines : m.defines.first + 3 * m.defines.count ≤ n
  pub components : m.components.first + 8 * m.components.count ≤ n
  pub resources : m.resources.first + 8 * m.resources.count ≤ n

-- the tables with an entry more for each entry of a section
module _ (bytes : List ℕ) (m : Sections) where
  abbrev pub definitions_made : Definitions → Definitions
  definitions_made d =
      append_all (λ t x. appended 256 t (record { app = m.app; define = x })) d
      (entries (define_at bytes) 3 m.defines.first m.defines.count)

  abbrev pub parts_made : Parts → Parts
  parts_made p =
      append_all (λ t x. appended 64 t (record { app = m.app; component = x })) p
      (entries (component_at bytes) 8 m.components.first m.components.count)

  abbrev pub resources_made : Resources → Resources
  resources_made r =
      append_all (appended 128) r (entries (resource_at bytes) 8 m.resources.first m.resources.count)

module _ (bytes : List ℕ) (image : Bool) (m : Sections) (d : Device) where
  abbrev pub app_made : App
  app_made =
      append_all add_use (app_from (new_row m.app m.signer image []))
      (entries (u8_at bytes) 1 m.uses.first m.uses.count)

  abbrev pub install_made : Device
  install_made =
      record {
        apps = appended 16 d.apps app_made;
        definitions = definitions_made bytes m d.definitions;
        parts = parts_made bytes m d.parts;
        resources = resources_made bytes m d.resources;
        instances = d.instances;
        lent = d.lent;
      }
