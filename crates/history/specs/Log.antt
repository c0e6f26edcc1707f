-- The log rule: what the rules ask, answered by walking back through the done actions, newest first. Each question ends
-- at the action that decides it; no apps, components, grants or loans are collected. Document 01, "The log rule".
use Rattle.std.specs.Prelude.{ℕ, ◌+◌, Bool, true, false, not, ◌&&◌, ◌||◌, cond, List, [], ◌∷◌, length, eqb, Ok, Err}
use Rattle.std.proofs.Math.Option.{Option, none, some}
use Rattle.manifest.specs.Layout.{Manifest}
use Rattle.rules.specs.declared.Part.{Part}
use Rattle.rules.specs.declared.Known.{Known}
use Rattle.rules.specs.Lists.{any, find, bind, test, or_find, map_option}
use Rattle.rules.specs.Limits.{Limits}
use Rattle.rules.specs.Action.{Receiver, an_instance, an_app, same_receiver, Op, reading, writing, carries, install}
use Rattle.rules.specs.Action.{uninstall, grant, revoke, grant_group, revoke_group, start, stop, lend, withdraw, Action}
use Rattle.rules.specs.Action.{on_apps, on_grants, on_runs, write, on_loans, query}
use Rattle.rules.specs.View.{App, View, app_of, part_of}
use Rattle.rules.specs.Permissions.{known_by}
use Rattle.rules.specs.Answer.{Answer, answer}
use Rattle.state.specs.Tables.{view_of}
use Rattle.state.specs.Effects.{device}

-- an action and its answer
pub record Entry : Type 0 where
  pub action : Action
  pub answer : Answer

-- a done action and the value of its answer
pub record Past : Type 0 where
  pub action : Action
  pub value : ℕ

-- only done actions count
unfoldable pub counted : Action → Answer → List Past → List Past
counted x (Err n) h = h
counted x (Ok d) h = record { action = x; value = d.value } ∷ h

unfoldable pub history : List Entry → List Past
history [] = []
history (e ∷ l) = counted e.action e.answer (history l)

-- what was, unless it is to go
unfoldable pub unless : {A : Type 0} → (A → Bool) → Option A → Option A
unless gone was = bind was (λ x. cond (gone x) none (some x))

-- belongs to app b; is defined by app b
abbrev pub is_of : ℕ → Part → Bool
is_of b k = eqb k.app b

abbrev pub is_by : ℕ → Known → Bool
is_by b k = eqb k.definer b

-- ---- an app is there from its install until its uninstall, with the uses of that install's manifest
unfoldable pub app_by : Action → ℕ → Option App → Option App
app_by (on_apps (install i m)) n was = cond (eqb m.app n) (some (app_of i m)) was
app_by (on_apps (uninstall b)) n was = cond (eqb b n) none was
app_by (on_grants z) n was = was
app_by (on_runs z) n was = was
app_by (write p k u x) n was = was
app_by (on_loans z) n was = was
app_by (query z) n was = was

unfoldable pub log_app : List Past → ℕ → Option App
log_app [] n = none
log_app (e ∷ h) n = app_by e.action n (log_app h n)

-- ---- with its components
unfoldable pub part_by : Action → ℕ → Option Part → Option Part
part_by (on_apps (install i m)) c was =
    or_find (map_option (part_of m) (find (λ k. eqb k.number c) m.components)) was
part_by (on_apps (uninstall b)) c was = unless (is_of b) was
part_by (on_grants z) c was = was
part_by (on_runs z) c was = was
part_by (write p k u x) c was = was
part_by (on_loans z) c was = was
part_by (query z) c was = was

unfoldable pub log_part : List Past → ℕ → Option Part
log_part [] c = none
log_part (e ∷ h) c = part_by e.action c (log_part h c)

-- ---- with its definitions
unfoldable pub known_in : Manifest → ℕ → Option Known
known_in m p = map_option (known_by m.app m.signer) (find (λ d. eqb d.permission p) m.defines)

unfoldable pub define_by : Action → ℕ → Option Known → Option Known
define_by (on_apps (install i m)) p was = or_find (known_in m p) was
define_by (on_apps (uninstall b)) p was = unless (is_by b) was
define_by (on_grants z) p was = was
define_by (on_runs z) p was = was
define_by (write q k u x) p was = was
define_by (on_loans z) p was = was
define_by (query z) p was = was

unfoldable pub log_defined : List Past → ℕ → Option Known
log_defined [] p = none
log_defined (e ∷ h) p = define_by e.action p (log_defined h p)

-- ---- instance n runs, of the component started, from the start whose value is n until a stop of n
unfoldable pub run_by : Action → ℕ → ℕ → Option ℕ → Option ℕ
run_by (on_apps z) v n was = was
run_by (on_grants z) v n was = was
run_by (on_runs (start c k)) v n was = cond (eqb v n) (some c) was
run_by (on_runs (stop k)) v n was = cond (eqb k n) none was
run_by (write p k u x) v n was = was
run_by (on_loans z) v n was = was
run_by (query z) v n was = was

unfoldable pub log_runs : List Past → ℕ → Option ℕ
log_runs [] n = none
log_runs (e ∷ h) n = run_by e.action e.value n (log_runs h n)

-- ---- an individual grant lasts from the grant until its revoke, the uninstall of its app, or the uninstall of the
-- permission's definer (defined: the permission's definition before the action)
unfoldable pub grant_by : Option Known → Action → (app permission : ℕ) → Bool → Bool
grant_by defined (on_apps (install i m)) a p was = was
grant_by defined (on_apps (uninstall b)) a p was = cond (eqb b a || test defined (is_by b)) false was
grant_by defined (on_grants (grant b q)) a p was = cond (eqb b a && eqb q p) true was
grant_by defined (on_grants (revoke b q)) a p was = cond (eqb b a && eqb q p) false was
grant_by defined (on_grants (grant_group b g)) a p was = was
grant_by defined (on_grants (revoke_group b g)) a p was = was
grant_by defined (on_runs z) a p was = was
grant_by defined (write q n u x) a p was = was
grant_by defined (on_loans z) a p was = was
grant_by defined (query z) a p was = was

unfoldable pub log_granted : List Past → (app permission : ℕ) → Bool
log_granted [] a p = false
log_granted (e ∷ h) a p = grant_by (log_defined h p) e.action a p (log_granted h a p)

-- ---- a group grant lasts until its revoke or the uninstall of its app
unfoldable pub group_by : Action → (app group : ℕ) → Bool → Bool
group_by (on_apps (install i m)) a g was = was
group_by (on_apps (uninstall b)) a g was = cond (eqb b a) false was
group_by (on_grants (grant b q)) a g was = was
group_by (on_grants (revoke b q)) a g was = was
group_by (on_grants (grant_group b q)) a g was = cond (eqb b a && eqb q g) true was
group_by (on_grants (revoke_group b q)) a g was = cond (eqb b a && eqb q g) false was
group_by (on_runs z) a g was = was
group_by (write q n u x) a g was = was
group_by (on_loans z) a g was = was
group_by (query z) a g was = was

unfoldable pub log_grouped : List Past → (app group : ℕ) → Bool
log_grouped [] a g = false
log_grouped (e ∷ h) a g = group_by e.action a g (log_grouped h a g)

-- ---- an operation lent lasts until a withdraw of that operation on that resource, the uninstall of the provider's
-- app, or the receiver's end: the instance's stop, the app's uninstall (provider: the component before the action)
unfoldable pub lent_by : Option Part → Action → Receiver → (provider uri : ℕ) → Op → Bool → Bool
lent_by provider (on_apps (install i m)) r p u op was = was
lent_by provider (on_apps (uninstall b)) r p u op was =
    cond (test provider (is_of b) || same_receiver r (an_app b)) false was
lent_by provider (on_grants z) r p u op was = was
lent_by provider (on_runs (start c n)) r p u op was = was
lent_by provider (on_runs (stop n)) r p u op was = cond (same_receiver r (an_instance n)) false was
lent_by provider (write q n y x) r p u op was = was
lent_by provider (on_loans (lend o q n y j)) r p u op was =
    cond ((same_receiver j r && (eqb q p && eqb y u)) && carries op o) true was
lent_by provider (on_loans (withdraw o q n y)) r p u op was =
    cond ((eqb q p && eqb y u) && carries op o) false was
lent_by provider (query z) r p u op was = was

unfoldable pub log_lent : List Past → Receiver → (provider uri : ℕ) → Op → Bool
log_lent [] r p u op = false
log_lent (e ∷ h) r p u op = lent_by (log_part h p) e.action r p u op (log_lent h r p u op)

-- ---- a resource's value is that of the latest write since its app's install, otherwise the first value
unfoldable pub first_value : Manifest → (provider uri : ℕ) → Option ℕ
first_value m p u = map_option (λ r. r.value) (find (λ r. eqb r.provider p && eqb r.uri u) m.resources)

unfoldable pub value_by : Option Part → Action → (provider uri : ℕ) → Option ℕ → Option ℕ
value_by provider (on_apps (install i m)) p u was = or_find (first_value m p u) was
value_by provider (on_apps (uninstall b)) p u was = cond (test provider (is_of b)) none was
value_by provider (on_grants z) p u was = was
value_by provider (on_runs z) p u was = was
value_by provider (write q n y x) p u was = cond (eqb q p && eqb y u) (some x) was
value_by provider (on_loans z) p u was = was
value_by provider (query z) p u was = was

unfoldable pub log_value : List Past → (provider uri : ℕ) → Option ℕ
log_value [] p u = none
log_value (e ∷ h) p u = value_by (log_part h p) e.action p u (log_value h p u)

-- ---- counts: what each done action adds, knowing the later ones
unfoldable pub total : (List Past → Past → ℕ) → List Past → List Past → ℕ
total adds newer [] = 0
total adds newer (e ∷ h) = adds newer e + total adds (e ∷ newer) h

unfoldable pub uninstalls : ℕ → Action → Bool
uninstalls n (on_apps (install i m)) = false
uninstalls n (on_apps (uninstall b)) = eqb b n
uninstalls n (on_grants z) = false
uninstalls n (on_runs z) = false
uninstalls n (write p k u x) = false
uninstalls n (on_loans z) = false
uninstalls n (query z) = false

-- an install counts, as much as its manifest brings, unless its app is uninstalled later
unfoldable pub installed : (Manifest → ℕ) → List Past → Action → ℕ
installed brings newer (on_apps (install i m)) =
    cond (any (λ e. uninstalls m.app e.action) newer) 0 (brings m)
installed brings newer (on_apps (uninstall b)) = 0
installed brings newer (on_grants z) = 0
installed brings newer (on_runs z) = 0
installed brings newer (write p k u x) = 0
installed brings newer (on_loans z) = 0
installed brings newer (query z) = 0

unfoldable pub log_count : (Manifest → ℕ) → List Past → ℕ
log_count brings h = total (λ newer e. installed brings newer e.action) [] h

unfoldable pub stops : ℕ → Action → Bool
stops n (on_apps z) = false
stops n (on_grants z) = false
stops n (on_runs (start c k)) = false
stops n (on_runs (stop k)) = eqb k n
stops n (write p k u x) = false
stops n (on_loans z) = false
stops n (query z) = false

-- a start counts unless its instance is stopped later
unfoldable pub started : List Past → Action → ℕ → ℕ
started newer (on_apps z) v = 0
started newer (on_grants z) v = 0
started newer (on_runs (start c k)) v = cond (any (λ e. stops v e.action) newer) 0 1
started newer (on_runs (stop k)) v = 0
started newer (write p k u x) v = 0
started newer (on_loans z) v = 0
started newer (query z) v = 0

unfoldable pub log_running : List Past → ℕ
log_running h = total (λ newer e. started newer e.action e.value) [] h

-- a receiver and resource pair
pub record Pair : Type 0 where
  pub receiver : Receiver
  pub provider : ℕ
  pub uri : ℕ

unfoldable pub same_pair : Pair → Pair → Bool
same_pair j k =
    same_receiver j.receiver k.receiver && (eqb j.provider k.provider && eqb j.uri k.uri)

unfoldable pub lends : Pair → Action → Bool
lends k (on_apps z) = false
lends k (on_grants z) = false
lends k (on_runs z) = false
lends k (write p n u x) = false
lends k (on_loans (lend o p n u r)) = same_pair (record { receiver = r; provider = p; uri = u }) k
lends k (on_loans (withdraw o p n u)) = false
lends k (query z) = false

-- an operation is lent and not ended since
unfoldable pub lent_still : List Past → Pair → Bool
lent_still h k =
    log_lent h k.receiver k.provider k.uri reading
    || log_lent h k.receiver k.provider k.uri writing

-- a lend counts if its pair is still lent, and the pair is not lent again later
unfoldable pub lasting : (Pair → Bool) → List Past → Action → ℕ
lasting still newer (on_apps z) = 0
lasting still newer (on_grants z) = 0
lasting still newer (on_runs z) = 0
lasting still newer (write p n u x) = 0
lasting still newer (on_loans (lend o p n u r)) =
    let pair : Pair = record { receiver = r; provider = p; uri = u } in
    cond (still pair && not (any (λ e. lends pair e.action) newer)) 1 0
lasting still newer (on_loans (withdraw o p n u)) = 0
lasting still newer (query z) = 0

unfoldable pub log_loans : List Past → ℕ
log_loans h = total (λ newer e. lasting (lent_still h) newer e.action) [] h

-- ---- holding, grounds, conditions and the order of refusals are then those of the rules
unfoldable pub view_of_log : List Past → View
view_of_log h =
    record {
      app = log_app h;
      part = log_part h;
      defined = log_defined h;
      runs = log_runs h;
      granted = log_granted h;
      grouped = log_grouped h;
      lent = log_lent h;
      value = log_value h;
      apps = log_count (λ m. 1) h;
      components = log_count (λ m. length m.components) h;
      resources = log_count (λ m. length m.resources) h;
      running = log_running h;
      loans = log_loans h;
    }

-- ---- the log of a sequence of actions, newest first: as the device answers
unfoldable pub log : Limits → List Action → List Entry
log L [] = []
log L (x ∷ xs) = record { action = x; answer = answer L (view_of (device L xs)) x } ∷ log L xs

-- and worked out from the log alone, with no device
unfoldable pub log_alone : Limits → List Action → List Entry
log_alone L [] = []
log_alone L (x ∷ xs) =
    record { action = x; answer = answer L (view_of_log (history (log_alone L xs))) x } ∷ log_alone L xs
