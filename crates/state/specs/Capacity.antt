-- A state that fits the arrays which store it: the tables within the limits, 16 definitions an app, and in each app's
-- row 32 uses, 32 grants and 15 groups.
use Rattle.std.specs.Prelude.{◌*◌, ◌≤◌, length}
use mathlib.Core.List.{Memᴰ}
use Rattle.rules.specs.Limits.{Limits}
use Rattle.state.specs.Tables.{Row, State}

pub record Fits (L : Limits) (s : State) : Type 0 where
  pub apps : length s.rows ≤ L.apps
  pub definitions : length s.definitions ≤ 16 * L.apps
  pub components : length s.parts ≤ L.components
  pub resources : length s.resources ≤ L.resources
  pub instances : length s.instances ≤ L.instances
  pub loans : length s.loans ≤ L.loans
  pub uses : {r : Row} → Memᴰ r s.rows → length r.app.uses ≤ 32
  pub grants : {r : Row} → Memᴰ r s.rows → length r.grants ≤ 32
  pub groups : {r : Row} → Memᴰ r s.rows → length r.groups ≤ 15
