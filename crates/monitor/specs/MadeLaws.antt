-- The tables that an accepted action makes from the tables of a valid state are those of the next state.
use Rattle.std.specs.Prelude.{ℕ, ◌≤◌, ◌<◌, ◌≡◌, true, [], ◌∷◌, ◌++◌, length}
use Rattle.std.proofs.Math.Path.{refl, ap}
use Rattle.std.proofs.Common.{arith, length-append}
use Rattle.rules.specs.declared.Instance.{Instance}
use Rattle.rules.specs.declared.Ground.{Ground}
use Rattle.rules.specs.Answer.{done}
use Rattle.rules.specs.Limits.{large}
use Rattle.rules.specs.Action.{Action, on_apps, uninstall, on_grants, on_runs, start, stop, write, on_loans, LoanAction}
use Rattle.state.specs.Tables.{State}
use Rattle.state.specs.Effects.{apps_after, definitions_after, parts_after, resources_after, instances_after}
use Rattle.state.specs.Effects.{loans_after}
use Rattle.state.specs.Effects.{next}
use Rattle.state.specs.Stored.{device_of}
use Rattle.state.specs.Valid.{valid}
use Rattle.state.specs.Capacity.{Fits}
use Rattle.state.proofs.CapacityLaws.{valid-fits}
use Rattle.state.proofs.Keeps.{keeps}
use Rattle.tables.specs.declared.Change.{Change}
use Rattle.tables.specs.HeldLaws.{definitions-held, parts_held, resources-held, instance-more, instance-less}
use Rattle.tables.specs.HeldLaws.{value_written}
use Rattle.monitor.specs.Stepped.{answer_to}
use Rattle.monitor.specs.Made.{with_apps, with_resources, with_instances, with_lent, asking, grant_made, write_made}
use Rattle.monitor.specs.Made.{start_made, stop_made, uninstall_made}
use Rattle.monitor.specs.GrantLaws.{change-made, drop-made}

-- the next state fits its arrays
pub next_fits : (s : State) (x : Action) (g : Ground) (v : ℕ) → valid large s ≡ true → answer_to s x ≡ done g v
    → Fits large (next s x v)
next_fits s x g v h e = valid-fits large (next s x v) (keeps large s x g v h e)

module _ (s : State) (v : ℕ) where
  -- ---- grants
  pub grant-made : (c : Change) (b m : ℕ) → Fits large (next s (on_grants (asking c b m)) v)
      → grant_made (device_of s) c b m ≡ device_of (next s (on_grants (asking c b m)) v)
  unfolding device_of next definitions_after parts_after resources_after instances_after loans_after
  grant-made c b m fits = ap (with_apps (device_of s)) (change-made s b m v c fits)

  -- ---- a written value
  pub write-made : (p n u x : ℕ) → write_made (device_of s) p u x ≡ device_of (next s (write p n u x) v)
  unfolding device_of next apps_after definitions_after parts_after resources_after instances_after loans_after
  write-made p n u x = ap (with_resources (device_of s)) (value_written s.resources p u x)

  -- ---- a started instance
  pub start-made : (c n : ℕ) → Fits large (next s (on_runs (start c n)) v)
      → start_made (device_of s) c v ≡ device_of (next s (on_runs (start c n)) v)
  unfolding device_of next apps_after definitions_after parts_after resources_after instances_after loans_after
  start-made c n fits = ap (with_instances (device_of s)) (instance-more s.instances i room)
    where
      i : Instance
      i = record { number = v; component = c }

      room : length s.instances < 64
      room =
          let f : length (s.instances ++ (i ∷ [])) ≤ 64 = fits.instances in
          let l = length-append s.instances (i ∷ []) in
          omega arith

  -- ---- a stopped instance
  pub stop-made : (n : ℕ)
      → stop_made (device_of s) (length (loans_after s.parts s.loans (on_runs (stop n)))) n
      ≡ device_of (next s (on_runs (stop n)) v)
  unfolding device_of next apps_after definitions_after parts_after resources_after instances_after
  stop-made n = rw (instance-less s.instances n)

  -- ---- loans lent and withdrawn
  pub loans-made : (z : LoanAction)
      → with_lent (device_of s) (length (loans_after s.parts s.loans (on_loans z))) ≡ device_of (next s (on_loans z) v)
  unfolding device_of next apps_after definitions_after parts_after resources_after instances_after
  loans-made z = refl

  -- ---- an app taken off
  pub uninstall-made : (b : ℕ)
      → uninstall_made (device_of s) (length (loans_after s.parts s.loans (on_apps (uninstall b)))) b
      ≡ device_of (next s (on_apps (uninstall b)) v)
  unfolding device_of next apps_after definitions_after parts_after resources_after instances_after
  uninstall-made b = rw (
    definitions-held s.definitions,
    drop-made s.definitions s.rows b,
    parts_held s.parts,
    resources-held s.resources,
  )
