-- Which entries of a table would make a good section of a manifest: of those that are one app's there are no more than
-- so many, each is good, and their keys rise strictly.
use Rattle.std.specs.Prelude.{ℕ, Bool, ◌&&◌, List}
use Rattle.manifest.specs.Good.{rising, at_most}
use Rattle.rules.specs.Lists.{keep}

abbrev pub few_rising : {A : Type 0} → (A → Bool) → (A → ℕ) → (A → Bool) → (room low : ℕ) → List A → Bool
few_rising mine key ok room low l = at_most room (keep mine l) && rising key ok low (keep mine l)
