-- A list in an array of fixed room: document 01, "Each table is a list in order of arrival" and "Places past the end
-- are zero". Said for every table: a count past the array holds the whole array.
use Rattle.std.specs.Prelude.{ℕ, ◌+◌, ◌-◌, cond, List, ◌++◌, length, take, set, replicate, leb}
use Rattle.manifest.specs.declared.Resource.{Resource}
use Rattle.rules.specs.declared.Definition.{Definition}
use Rattle.rules.specs.declared.Part.{Part}
use Rattle.state.specs.declared.App.{App}
use Rattle.state.specs.declared.Table.{Table}

-- ---- the rooms of the device's tables
abbrev pub Apps : Type 0
Apps = Table App 16

abbrev pub Definitions : Type 0
Definitions = Table Definition 256

abbrev pub Parts : Type 0
Parts = Table Part 64

abbrev pub Resources : Type 0
Resources = Table Resource 128

module _ {A : Type 0} where
  -- a list in n places, the ones past its end zero
  abbrev pub padded : A → ℕ → List A → List A
  padded z n l = l ++ replicate (n - length l) z

  -- the table that holds a list
  abbrev pub table_of : A → (n : ℕ) → List A → Table A n
  table_of z n l = record { entries = padded z n l; count = length l }

  -- the list that a table holds
  abbrev pub list_in : {n : ℕ} → Table A n → List A
  list_in t = take t.count t.entries

  -- one entry more; a full table stays as it is
  unfoldable pub appended : (n : ℕ) → Table A n → A → Table A n
  appended n t x = cond (leb n t.count) t (record { entries = set t.entries t.count x; count = t.count + 1 })
