-- The marked situations P1 to P9, computed from whole action records and manifests, for the device and for the log.
-- Document 01, "Marked situations".
use Rattle.std.specs.Prelude.{ℕ, ◌+◌, ◌≡◌, refl, List, [], ◌∷◌, ◌++◌, map, reverse}
use Rattle.std.proofs.Math.Option.{none, some}
use Rattle.manifest.specs.Layout.{Manifest, manifest_of}
use Rattle.manifest.specs.Image.{image, le16, le32}
use Rattle.manifest.specs.declared.Component.{Component}
use Rattle.rules.specs.Lists.{find, distinct, mem, upto, is_some, missing, test, bind, map_option, or_else}
use Rattle.rules.specs.Lists.{or_find}
use Rattle.rules.specs.Limits.{large}
use Rattle.rules.specs.Action.{carries, operations_of, is_operations, receiver_kind, receiver_number, same_receiver}
use Rattle.rules.specs.Action.{Action}
use Rattle.rules.specs.Record.{fits, fields_of, forms, fitting, form_of, asked, action_of}
use Rattle.rules.specs.Permissions.{built_ins, built_in, known, hold, holds, allows}
use Rattle.rules.specs.Grounds.{permission_for, is_ground, right_ground, loan_ground, ground, running_app, provider}
use Rattle.rules.specs.Grounds.{startable, right_of, ground_of}
use Rattle.rules.specs.Refusals.{clash, crowded, is_running, grantable, is_group, groupable, app_may_start, barred}
use Rattle.rules.specs.Refusals.{free_number, lacking, no_receiving_app, no_receiving_instance, lent_any, refusals}
use Rattle.rules.specs.Answer.{ground_for, value_for, decide, answer, Line, line_of}
use Rattle.state.specs.Tables.{fresh, app_at, part_at, owned_by, defined_by, known_from, defined_in, granted_in}
use Rattle.state.specs.Tables.{grouped_in}
use Rattle.state.specs.Tables.{run_in, is_resource, value_in, is_to, is_on, is_loan, lent_in, view_of}
use Rattle.state.specs.Effects.{grants_at, groups_at, keep_grants, apps_after, definitions_after, parts_after, put}
use Rattle.state.specs.Effects.{resources_after, instances_after, loan_of, with_operations, kept, carries_any, reduce}
use Rattle.state.specs.Effects.{widened, ends_with, loans_after, next, after, device}
use Rattle.history.specs.Log.{counted, history, unless, app_by, log_app, part_by, log_part, known_in, define_by}
use Rattle.history.specs.Log.{log_defined, run_by, log_runs, grant_by, log_granted, group_by, log_grouped, lent_by}
use Rattle.history.specs.Log.{log_lent, first_value, value_by, log_value, total, uninstalls, installed, log_count}
use Rattle.history.specs.Log.{stops, started, log_running, same_pair, lends, lent_still, lasting, log_loans}
use Rattle.history.specs.Log.{view_of_log, log, log_alone}

-- ---- manifests
-- an exported activity
abbrev activity : ℕ → Component
activity n =
    record {
      number = n;
      kind = 1;
      exported = 1;
      shares = 0;
      start = 0;
      read = 0;
      write = 0;
    }

-- a provider that shares, exported or not, with one permission for reading and writing
abbrev store : (number exported permission : ℕ) → Component
store n e p =
    record {
      number = n;
      kind = 4;
      exported = e;
      shares = 1;
      start = 0;
      read = p;
      write = p;
    }

-- app 10 owns the provider 101, which others cannot use without a loan
abbrev owner : Manifest
owner =
    record {
      app = 10;
      signer = 5;
      uses = [];
      defines = [];
      components = activity 100 ∷ store 101 0 0 ∷ [];
      resources = record { provider = 101; uri = 1; value = 0 } ∷ [];
    }

-- app 11 borrows; it lists 4, 5 and 20
abbrev borrower : Manifest
borrower =
    record {
      app = 11;
      signer = 6;
      uses = 4 ∷ 5 ∷ 20 ∷ [];
      defines = [];
      components = activity 110 ∷ [];
      resources = [];
    }

-- app 12 defines the dangerous permission 20 of group 0
abbrev definer : Manifest
definer =
    record {
      app = 12;
      signer = 7;
      uses = [];
      defines = record { permission = 20; level = 1; group = 0 } ∷ [];
      components = [];
      resources = [];
    }

-- app 13 lets others use its provider 130 with permission 4; app 14 lists 4, and lends on
abbrev keeper : Manifest
keeper =
    record {
      app = 13;
      signer = 8;
      uses = [];
      defines = [];
      components = store 130 1 4 ∷ [];
      resources = record { provider = 130; uri = 7; value = 42 } ∷ [];
    }

abbrev giver : Manifest
giver =
    record {
      app = 14;
      signer = 9;
      uses = 4 ∷ [];
      defines = [];
      components = activity 140 ∷ [];
      resources = [];
    }

-- one of many apps
abbrev numbered : ℕ → Manifest
numbered n =
    record {
      app = n;
      signer = 5;
      uses = [];
      defines = [];
      components = activity (100 + n) ∷ store (200 + n) 0 0 ∷ [];
      resources = record { provider = 200 + n; uri = 1; value = 0 } ∷ [];
    }

-- ---- action records: code, a, b, c, d, e
abbrev record_of : ℕ → ℕ → ℕ → ℕ → ℕ → ℕ → List ℕ
record_of code a b c d e = code ∷ a ∷ (le16 b ++ (le16 c ++ (le16 d ++ le32 e)))

abbrev installs : Manifest → Action
installs m = action_of (record_of 1 0 0 0 0 0) (image m)

abbrev asks : ℕ → ℕ → ℕ → ℕ → ℕ → ℕ → Action
asks code a b c d e = action_of (record_of code a b c d e) []

-- ---- lines of a sheet: done, with a value, with a ground and a value; refused
abbrev done : Line
done = record { number = 0; ground = some 0; value = some 0 }

abbrev gives : ℕ → Line
gives v = record { number = 0; ground = some 0; value = some v }

abbrev rests : ℕ → ℕ → Line
rests g v = record { number = 0; ground = some g; value = some v }

abbrev no : ℕ → Line
no n = record { number = n; ground = none; value = none }

-- ---- the table
pub record Situation : Type 0 where
  pub actions : List Action
  pub lines : List Line

pub situations : List Situation
situations =
    -- P1, P2: a read by the owner; no such resource
    record {
      actions = installs owner ∷ asks 7 0 100 0 0 0 ∷ asks 9 0 101 1 1 0 ∷ asks 9 0 101 1 2 0 ∷ [];
      lines = done ∷ gives 1 ∷ rests 1 0 ∷ no 8 ∷ [];
    } ∷
    -- P3: stop 1, start again gives 1; the old loan is gone, read 11
    record {
      actions =
          installs owner ∷ installs borrower ∷ asks 7 0 110 0 0 0 ∷ asks 7 0 100 0 0 0 ∷ asks 11 1 101 2 1 1 ∷
          asks 9 0 101 1 1 0 ∷ asks 8 0 0 1 0 0 ∷ asks 7 0 110 0 0 0 ∷ asks 9 0 101 1 1 0 ∷ [];
      lines = done ∷ done ∷ gives 1 ∷ gives 2 ∷ done ∷ rests 3 0 ∷ done ∷ gives 1 ∷ no 11 ∷ [];
    } ∷
    -- P4: permission revoked from the giver after lending; the borrower reads on ground 3
    record {
      actions =
          installs keeper ∷ installs giver ∷ installs borrower ∷ asks 3 0 14 4 0 0 ∷ asks 7 0 140 0 0 0 ∷
          asks 7 0 110 0 0 0 ∷ asks 9 0 130 1 7 0 ∷ asks 9 0 130 2 7 0 ∷ asks 11 1 130 1 7 2 ∷
          asks 4 0 14 4 0 0 ∷ asks 9 0 130 1 7 0 ∷ asks 9 0 130 2 7 0 ∷ [];
      lines =
          done ∷ done ∷ done ∷ done ∷ gives 1 ∷ gives 2 ∷ rests 2 42 ∷ no 11 ∷ done ∷ done ∷ no 11
          ∷ rests 3 42 ∷ [];
    } ∷
    -- P5: withdraw write from a loan of both; read done, write 11
    record {
      actions =
          installs owner ∷ installs borrower ∷ asks 7 0 110 0 0 0 ∷ asks 7 0 100 0 0 0 ∷ asks 12 3 101 2 1 11 ∷
          asks 10 0 101 1 1 9 ∷ asks 13 2 101 2 1 0 ∷ asks 9 0 101 1 1 0 ∷ asks 10 0 101 1 1 8 ∷ [];
      lines = done ∷ done ∷ gives 1 ∷ gives 2 ∷ done ∷ rests 4 9 ∷ done ∷ rests 4 9 ∷ no 11 ∷ [];
    } ∷
    -- P6: 16th app done, 17th 15
    record {
      actions = map (λ n. installs (numbered n)) (upto 17);
      lines = map (λ n. done) (upto 16) ++ (no 15 ∷ []);
    } ∷
    -- P7: uninstall while running, 13
    record {
      actions = installs owner ∷ asks 7 0 100 0 0 0 ∷ asks 2 0 10 0 0 0 ∷ [];
      lines = done ∷ gives 1 ∷ no 13 ∷ [];
    } ∷
    -- P8: definer uninstalled and put back; ask for the dangerous permission of group 0 granted before gives 0
    record {
      actions =
          installs borrower ∷ installs definer ∷ asks 3 0 11 20 0 0 ∷ asks 14 0 11 20 0 0 ∷ asks 2 0 12 0 0 0 ∷
          installs definer ∷ asks 14 0 11 20 0 0 ∷ [];
      lines = done ∷ done ∷ done ∷ gives 1 ∷ done ∷ done ∷ gives 0 ∷ [];
    } ∷
    -- P9: group 2 granted, 5 listed; ask gives 1, revoke 5 gives 12
    record {
      actions = installs borrower ∷ asks 5 0 11 2 0 0 ∷ asks 14 0 11 5 0 0 ∷ asks 4 0 11 5 0 0 ∷ [];
      lines = done ∷ done ∷ gives 1 ∷ no 12 ∷ [];
    } ∷ []

-- the lines of the device; what its line opens is open wherever it is
unfoldable pub device_lines : List Action → List Line
unfolding find distinct mem upto is_some missing test bind map_option or_else or_find manifest_of carries
    operations_of is_operations receiver_kind receiver_number same_receiver fits fields_of forms fitting form_of asked
    action_of built_ins built_in known hold holds allows permission_for is_ground right_ground loan_ground ground
    running_app provider startable right_of ground_of clash crowded is_running grantable is_group groupable
    app_may_start barred free_number lacking no_receiving_app no_receiving_instance lent_any refusals ground_for
    value_for decide answer line_of fresh app_at part_at owned_by defined_by known_from defined_in granted_in grouped_in
    run_in is_resource value_in is_to is_on is_loan lent_in view_of grants_at groups_at keep_grants apps_after
    definitions_after parts_after put resources_after instances_after loan_of with_operations kept carries_any reduce
    widened ends_with loans_after next after device log
device_lines xs = map (λ e. line_of e.answer) (reverse (log large (reverse xs)))

-- the lines of the log alone
unfoldable pub log_lines : List Action → List Line
unfolding device_lines counted history unless app_by log_app part_by log_part known_in define_by log_defined run_by
    log_runs grant_by log_granted group_by log_grouped lent_by log_lent first_value value_by log_value total uninstalls
    installed log_count stops started log_running same_pair lends lent_still lasting log_loans view_of_log log_alone
log_lines xs = map (λ e. line_of e.answer) (reverse (log_alone large (reverse xs)))

pub record Marked : Type 0 where
  pub device : map (λ s. device_lines s.actions) situations ≡ map (λ s. s.lines) situations
  pub log : map (λ s. log_lines s.actions) situations ≡ map (λ s. s.lines) situations

pub marked : Marked
unfolding device_lines log_lines situations
marked = record { device = refl; log = refl }
