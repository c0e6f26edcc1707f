-- Each action's refusals, in rising order: document 01, "Conditions and effects" and "Numbers that come back".
use Rattle.std.specs.Prelude.{ℕ, zero, suc, ◌+◌, Bool, true, false, not, ◌&&◌, ◌||◌, List, [], ◌∷◌, length, eqb, leb}
use Rattle.std.specs.Prelude.{ltb}
use Rattle.std.proofs.Math.Option.{Option}
use Rattle.manifest.specs.Layout.{Manifest}
use Rattle.manifest.specs.Good.{good}
use Rattle.rules.specs.declared.Known.{Known}
use Rattle.rules.specs.declared.Part.{Part}
use Rattle.rules.specs.declared.Ground.{Ground}
use Rattle.rules.specs.declared.Reason.{Reason}
use Rattle.rules.specs.declared.Reason.TheVariants.{MalformedAction, MalformedManifest, AlreadyThere, NoSuchApp}
use Rattle.rules.specs.declared.Reason.TheVariants.{NoSuchComponent, NoSuchInstance, NoSuchResource, Undefined}
use Rattle.rules.specs.declared.Reason.TheVariants.{CannotBeGranted, NotPermitted, NothingToTakeBack, InUse}
use Rattle.rules.specs.declared.Reason.TheVariants.{PartOfTheImage, NoRoom}
use Rattle.rules.specs.Lists.{any, find, mem, upto, is_some, missing, test}
use Rattle.rules.specs.Limits.{Limits}
use Rattle.rules.specs.Action.{Op, reading, writing, carries, is_operations, Receiver, an_instance, an_app, install}
use Rattle.rules.specs.Action.{uninstall, grant, revoke, grant_group, revoke_group, start, stop, lend, withdraw}
use Rattle.rules.specs.Action.{read, ask, malformed, Action, on_apps, on_grants, on_runs, write, on_loans, query}
use Rattle.rules.specs.View.{App, View}
use Rattle.rules.specs.Permissions.{known, dangerous, allows}
use Rattle.rules.specs.Grounds.{is_exported, is_sharing, is_ground, running_app, provider, startable, right_of}
use Rattle.rules.specs.Grounds.{ground_of}

-- ---- install
-- its app number, a component number or a defined permission is not new
unfoldable pub clash : View → Manifest → Bool
clash v m =
    is_some (v.app m.app)
    || (any (λ c. is_some (v.part c.number)) m.components
    || any (λ d. is_some (known v d.permission)) m.defines)

-- a limit would be passed
unfoldable pub crowded : Limits → View → Manifest → Bool
crowded L v m =
    leb L.apps v.apps
    || (ltb L.components (v.components + length m.components)
    || ltb L.resources (v.resources + length m.resources))

-- ---- uninstall: an instance of the app runs
unfoldable pub is_running : Limits → View → ℕ → Bool
is_running L v b =
    any (λ n. test (v.runs n) (λ c. test (v.part c) (λ k. eqb k.app b))) (upto L.instances)

-- ---- grants
-- the app lists the permission p, and it is dangerous
unfoldable pub grantable : App → ℕ → Known → Bool
grantable a p k = mem p a.uses && dangerous k

unfoldable pub is_group : ℕ → Bool
is_group g = leb 1 g && leb g 15

-- the app lists a defined dangerous permission of the group
unfoldable pub groupable : View → App → ℕ → Bool
groupable v a g = any (λ p. test (known v p) (λ k. dangerous k && eqb k.group g)) a.uses

-- ---- start
-- the person may start exported activities of any start permission
abbrev pub person_may_start : Part → Bool
person_may_start k = is_exported k.component && eqb k.component.kind 1

-- an instance may start a component of its own app, and an exported one whose start permission is 0 or held by its app
unfoldable pub app_may_start : View → App → Part → Bool
app_may_start v a k =
    eqb a.number k.app || (is_exported k.component && allows v a k.component.start)

-- the caller, 0 the person, may not start the component
unfoldable pub barred : View → Part → ℕ → Bool
barred v k zero = not (person_may_start k)
barred v k (suc n) = test (running_app v (suc n)) (λ a. not (app_may_start v a k))

-- the lowest number that no running instance has
unfoldable pub free_number : Limits → View → Option ℕ
free_number L v = find (λ n. missing (v.runs n)) (upto L.instances)

-- ---- lend and withdraw
-- an operation asked for has no ground of those given
unfoldable pub lacking : ℕ → (Op → Option Ground) → Bool
lacking o grounds = lacks reading || lacks writing
  where
    lacks : Op → Bool
    lacks op = carries op o && test (grounds op) (λ g. not (is_ground g))

unfoldable pub no_receiving_app : View → Receiver → Bool
no_receiving_app v (an_instance n) = false
no_receiving_app v (an_app b) = missing (v.app b)

unfoldable pub no_receiving_instance : View → Receiver → Bool
no_receiving_instance v (an_instance n) = missing (running_app v n)
no_receiving_instance v (an_app b) = false

-- there is a loan to the receiver on the resource
unfoldable pub lent_any : View → Receiver → (provider uri : ℕ) → Bool
lent_any v r p u = v.lent r p u reading || v.lent r p u writing

-- a refusal and whether it applies
pub record Refusal : Type 0 where
  pub reason : Reason
  pub applies : Bool

infix 68 ◌when◌
abbrev pub ◌when◌ : Reason → Bool → Refusal
n when b = record { reason = n; applies = b }

-- read and write
abbrev pub access : View → (provider instance uri : ℕ) → Op → List Refusal
access v p n u op =
    NoSuchComponent when missing (provider v p) ∷
    NoSuchInstance when missing (running_app v n) ∷
    NoSuchResource when missing (v.value p u) ∷
    NotPermitted when test (ground_of v p n u op) (λ g. not (is_ground g)) ∷ []

-- ---- each action's refusals after 1
unfoldable pub refusals : Limits → View → Action → List Refusal
refusals L v (on_apps (install i m)) =
    MalformedManifest when not (good m) ∷
    AlreadyThere when clash v m ∷
    NoRoom when crowded L v m ∷ []
refusals L v (on_apps (uninstall b)) =
    NoSuchApp when missing (v.app b) ∷
    InUse when is_running L v b ∷
    PartOfTheImage when test (v.app b) (λ a. a.image) ∷ []
refusals L v (on_grants (grant b p)) =
    AlreadyThere when v.granted b p ∷
    NoSuchApp when missing (v.app b) ∷
    Undefined when missing (known v p) ∷
    CannotBeGranted when test (v.app b) (λ a. test (known v p) (λ k. not (grantable a p k))) ∷ []
refusals L v (on_grants (revoke b p)) =
    NoSuchApp when missing (v.app b) ∷
    Undefined when missing (known v p) ∷
    NothingToTakeBack when not (v.granted b p) ∷ []
refusals L v (on_grants (grant_group b g)) =
    AlreadyThere when v.grouped b g ∷
    NoSuchApp when missing (v.app b) ∷
    Undefined when not (is_group g) ∷
    CannotBeGranted when test (v.app b) (λ a. not (groupable v a g)) ∷ []
refusals L v (on_grants (revoke_group b g)) =
    NoSuchApp when missing (v.app b) ∷
    Undefined when not (is_group g) ∷
    NothingToTakeBack when not (v.grouped b g) ∷ []
refusals L v (on_runs (start c n)) =
    NoSuchComponent when missing (startable v c) ∷
    NoSuchInstance when (not (eqb n 0) && missing (running_app v n)) ∷
    NotPermitted when test (startable v c) (λ k. barred v k n) ∷
    NoRoom when missing (free_number L v) ∷ []
refusals L v (on_runs (stop n)) =
    NoSuchInstance when missing (v.runs n) ∷ []
refusals L v (write p n u x) = access v p n u writing
refusals L v (on_loans (lend o p n u r)) =
    MalformedAction when not (is_operations o) ∷
    NoSuchApp when no_receiving_app v r ∷
    NoSuchComponent when missing (provider v p) ∷
    NoSuchInstance when (missing (running_app v n) || no_receiving_instance v r) ∷
    NoSuchResource when missing (v.value p u) ∷
    NotPermitted when (test (provider v p) (λ k. not (is_sharing k.component)) || lacking o (ground_of v p n u)) ∷
    NoRoom when (not (lent_any v r p u) && leb L.loans v.loans) ∷ []
refusals L v (on_loans (withdraw o p n u)) =
    MalformedAction when not (is_operations o) ∷
    NoSuchComponent when missing (provider v p) ∷
    NoSuchInstance when missing (running_app v n) ∷
    NoSuchResource when missing (v.value p u) ∷
    NotPermitted when lacking o (right_of v p n) ∷ []
refusals L v (query (read p n u)) = access v p n u reading
refusals L v (query (ask b p)) =
    NoSuchApp when missing (v.app b) ∷
    Undefined when missing (known v p) ∷ []
refusals L v (query malformed) =
    MalformedAction when true ∷ []
