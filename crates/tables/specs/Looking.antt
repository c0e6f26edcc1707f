-- What the code's types say: an option, an operation, a receiver, and the place of the app of a running
-- instance. And the view of a device of which only some tables are looked at.
use Rattle.std.specs.Prelude.{ℕ, ◌&&◌, ◌||◌, cond, List, [], eqb}
use Rattle.std.specs.Prelude.{Option, Some, None}
use Rattle.std.proofs.Math.Option.{Option as Rules, none, some}
use Rattle.rules.specs.declared.Definition.{Definition}
use Rattle.rules.specs.declared.Part.{Part}
use Rattle.rules.specs.declared.Instance.{Instance}
use Rattle.rules.specs.declared.Known.{Known}
use Rattle.rules.specs.declared.Hold.{Hold}
use Rattle.rules.specs.declared.Hold.TheVariants.{Granted, ByGroup, NotGranted, BySigner, ByImage, SignerDiffers}
use Rattle.rules.specs.Lists.{find, bind, map_option, or_else}
use Rattle.rules.specs.Action.{Op, reading, writing, Receiver as RulesReceiver, an_instance, an_app}
use Rattle.rules.specs.View.{View, App as RulesApp}
use Rattle.rules.specs.Permissions.{signature, signature_or_system}
use Rattle.state.specs.declared.App.{App}
use Rattle.state.specs.Tables.{Row, part_at, run_in, granted_in, grouped_in, view_of}
use Rattle.tables.specs.declared.Operation.{Operation}
use Rattle.tables.specs.declared.Operation.TheVariants.{Read, Write}
use Rattle.tables.specs.declared.Receiver.{Receiver}
use Rattle.tables.specs.declared.Receiver.TheVariants.{Instance as ToInstance, App as ToApp}
use Rattle.tables.specs.Finding.{place_of, is_app}

-- the code's option, for that of the rules
abbrev pub option_of : {A : Type 0} → Rules A → Option A
option_of none = None
option_of (some x) = Some x

abbrev pub op_of : Operation → Op
op_of Read = reading
op_of Write = writing

abbrev pub receiver_of : Receiver ℕ → RulesReceiver
receiver_of (ToInstance n) = an_instance n
receiver_of (ToApp b) = an_app b

-- a receiver's kind and number, for numbers of every type
abbrev pub kind_of : {N : Type 0} → Receiver N → ℕ
kind_of (ToInstance n) = 1
kind_of (ToApp b) = 2

abbrev pub number_in : {N : Type 0} → Receiver N → N
number_in (ToInstance n) = n
number_in (ToApp b) = b

-- no resources, no loans
unfoldable pub view_by : List Row → List Definition → List Part → List Instance → View
view_by rows definitions parts instances =
    view_of (record {
      rows = rows;
      definitions = definitions;
      parts = parts;
      resources = [];
      instances = instances;
      loans = [];
    })

-- the app of a running instance, and its place
unfoldable pub runner_in : List App → List Part → List Instance → ℕ → Rules App
runner_in apps parts instances n =
    bind (run_in instances n) (λ c. bind (part_at parts c) (λ k. find (is_app k.app) apps))

unfoldable pub owner_place : List App → List Part → ℕ → Option ℕ
owner_place apps parts c = or_else None (map_option (λ k. place_of (is_app k.app) apps) (part_at parts c))

unfoldable pub running_place : List App → List Part → List Instance → ℕ → Option ℕ
running_place apps parts instances n = or_else None (map_option (owner_place apps parts) (run_in instances n))

-- ---- the two halves of the hold rule, for an app that lists the permission
unfoldable pub hold_dangerous : List Row → (app permission group : ℕ) → Hold
hold_dangerous rows b p g = cond (granted_in rows b p) Granted (cond (grouped_in rows b g) ByGroup NotGranted)

unfoldable pub hold_signature : RulesApp → Known → Hold
hold_signature a k =
    cond ((signature k || signature_or_system k) && eqb a.signer k.signer) BySigner
    (cond (signature_or_system k && a.image) ByImage SignerDiffers)
