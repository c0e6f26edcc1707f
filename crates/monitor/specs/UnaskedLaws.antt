-- Answers that ask of no loan: they are the same whatever loan table is lent.
use Rattle.std.specs.Prelude.{ℕ, zero, suc, ◌≡◌, List, []}
use Rattle.std.proofs.Math.Path.{refl}
use Rattle.rules.specs.declared.Loan.{Loan}
use Rattle.rules.specs.Action.{AppAction, GrantAction, RunAction, install, uninstall, grant, revoke}
use Rattle.rules.specs.Action.{grant_group, revoke_group}
use Rattle.rules.specs.Action.{start, stop, withdraw, ask, on_apps, on_grants, on_runs, on_loans, query}
use Rattle.rules.specs.Permissions.{known, hold, holds, allows}
use Rattle.rules.specs.Grounds.{right_ground, running_app, provider, startable, right_of}
use Rattle.rules.specs.Refusals.{refusals, clash, crowded, is_running, groupable, app_may_start, barred, free_number}
use Rattle.rules.specs.Answer.{ground_for, value_for, answer}
use Rattle.state.specs.declared.Device.{Device}
use Rattle.state.specs.Tables.{view_of}
use Rattle.state.specs.Stored.{model_of}
use Rattle.monitor.specs.Stepped.{answer_to}

module _ (d : Device) (lent : List Loan) where
  pub apps-unasked : (z : AppAction) → answer_to (model_of d []) (on_apps z) ≡ answer_to (model_of d lent) (on_apps z)
  unfolding answer refusals ground_for value_for view_of model_of known clash crowded is_running
  apps-unasked (install i m) = refl
  apps-unasked (uninstall b) = refl

  pub grants-unasked : (z : GrantAction) → answer_to (model_of d []) (on_grants z)
      ≡ answer_to (model_of d lent) (on_grants z)
  unfolding answer refusals ground_for value_for view_of model_of known groupable
  grants-unasked (grant b p) = refl
  grants-unasked (revoke b p) = refl
  grants-unasked (grant_group b g) = refl
  grants-unasked (revoke_group b g) = refl

  pub runs-unasked : (z : RunAction) → answer_to (model_of d []) (on_runs z) ≡ answer_to (model_of d lent) (on_runs z)
  unfolding answer refusals ground_for value_for view_of model_of startable running_app barred free_number
  runs-unasked (start c zero) = refl
  runs-unasked (start c (suc n)) = unfold app_may_start allows holds known hold in refl
  runs-unasked (stop n) = refl

  pub withdraw-unasked : (o p n u : ℕ)
      → answer_to (model_of d []) (on_loans (withdraw o p n u))
      ≡ answer_to (model_of d lent) (on_loans (withdraw o p n u))
  unfolding answer refusals ground_for value_for view_of model_of provider running_app right_of right_ground
  withdraw-unasked o p n u = unfold allows holds known hold in refl

  pub ask-unasked : (b p : ℕ) → answer_to (model_of d []) (query (ask b p))
      ≡ answer_to (model_of d lent) (query (ask b p))
  unfolding answer refusals ground_for value_for view_of model_of known holds hold
  ask-unasked b p = refl
