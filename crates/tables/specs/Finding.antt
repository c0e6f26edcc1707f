-- The first entry of a list that passes a test and where it stands, and what each search asks of an entry.
use Rattle.std.specs.Prelude.{ℕ, Bool, eqb}
pub use Rattle.std.specs.List.{position as place_of, find as first_of}
use Rattle.rules.specs.declared.Definition.{Definition}
use Rattle.rules.specs.declared.Part.{Part}
use Rattle.rules.specs.declared.Instance.{Instance}
use Rattle.state.specs.declared.App.{App}

abbrev pub is_app : ℕ → App → Bool
is_app n a = eqb a.number n

abbrev pub is_part : ℕ → Part → Bool
is_part n k = eqb k.component.number n

abbrev pub is_definition : ℕ → Definition → Bool
is_definition p d = eqb d.define.permission p

abbrev pub is_instance : ℕ → Instance → Bool
is_instance n i = eqb i.number n
