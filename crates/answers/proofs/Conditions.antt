-- What a lookup tells of the view, where a condition is passed and where it is not.
use Rattle.std.proofs.Common.{ℕ, ◌≡◌, Bool, true, false, not, cond, List, [], map, refl, sym, ap, ◌∙◌, arith}
use Rattle.std.specs.Prelude.{Option, Some, None, Result, Ok, Err}
use Rattle.std.specs.Bool.{then_some}
use Rattle.std.specs.Option.{ok_or, MatchOption, is_some as option_is_some}
use Rattle.std.specs.Result.{result_ok, IsErrAnd}
use Rattle.std.proofs.lemmas.Result.{err_from_is_err_and}
use Rattle.std.proofs.Math.Option.{Option as Rules, none, some}
use Rattle.rules.specs.declared.Known.{Known}
use Rattle.rules.specs.declared.Loan.{Loan}
use Rattle.rules.specs.declared.Part.{Part}
use Rattle.rules.specs.declared.Instance.{Instance}
use Rattle.manifest.specs.declared.Resource.{Resource}
use Rattle.rules.specs.Lists.{find, bind, map_option, is_some, missing}
use Rattle.rules.specs.Action.{Receiver, an_instance, an_app}
use Rattle.rules.specs.Grounds.{provider, startable, running_app}
use Rattle.rules.specs.Refusals.{no_receiving_app, no_receiving_instance}
use Rattle.rules.specs.Permissions.{known}
use Rattle.state.specs.declared.App.{App}
use Rattle.state.specs.declared.Device.{Device}
use Rattle.state.specs.Stored.{row_of, model_of}
use Rattle.state.specs.Tables.{apps_of, app_at, part_at, run_in, value_in, is_resource, view_of}
use Rattle.tables.specs.Finding.{is_app, is_instance, first_of}
use Rattle.tables.specs.FindingLaws.{first-some, first_none}
use Rattle.tables.specs.Held.{apps_in, rows_in, definitions_in, parts_in, resources_in, instances_in}
use Rattle.tables.specs.Looking.{option_of, view_by, runner_in}
use Rattle.tables.specs.LookingLaws.{app-found, app-missing}
use Rattle.tables.specs.OptionLaws.{option-some, option_none}
use Rattle.answers.specs.Answering.{view_in}

-- what is looked for is there, or not
module _ {A E : Type 0} {q : Option A} {r : Result A E} (answer : q ≡ result_ok r) where
  pub got : {x : A} → r ≡ Ok x → q ≡ Some x
  got e = answer ∙ ap result_ok e

  pub missed : {m : E} → r ≡ Err m → q ≡ None
  missed e = answer ∙ ap result_ok e

-- the reason is handed on
pub handed : {E T : Type 0} {m : E} {result : Result T E} → IsErrAnd result (λ e. e ≡ m) → result ≡ Err m
handed {result = result} i = let t = err_from_is_err_and result i in t.1 ∙ ap Err t.2

pub refuses : {A E T : Type 0} (n : E) (q : Option A) {r : Result A E} {m : E} {result : Result T E} → r ≡ ok_or q n
    → r ≡ Err m → IsErrAnd result (λ e. e ≡ m) → result ≡ Err n
refuses {A} {E} n q {r} {m} a e i = handed i ∙ ap Err (go q (sym a ∙ e))
  where
    go : (q : Option A) → ok_or q n ≡ Err m → m ≡ n
    go None e = cc
    go (Some x) e = absurd (let z : ◌≡◌ {A = ℕ} 0 1 = cc in omega arith)

-- the library's filter
module _ {A : Type 0} where
  pub filtered : (test : A → Bool) (Q : A → Bool → Type 0) → ((x : A) (b : Bool) → Q x b → b ≡ test x)
      → (o : Rules A) {q r : Option A} → q ≡ option_of o
      → MatchOption q (r ≡ None) (λ x. (b : Bool) × Q x b × (r ≡ then_some b x))
      → r ≡ option_of (bind o (λ x. cond (test x) (some x) none))
  unfolding bind
  filtered test Q tells o {q} {r} e m = go o (rw e at m)
    where
      go : (o : Rules A) → MatchOption (option_of o) (r ≡ None) (λ x. (b : Bool) × Q x b × (r ≡ then_some b x))
          → r ≡ option_of (bind o (λ x. cond (test x) (some x) none))
      go none m = m
      go (some x) m = m.2 ∙ ap (λ b. then_some b x) (tells x m.0 m.1) ∙ pick (test x)
        where
          pick : (t : Bool) → then_some t x ≡ option_of (cond t (some x) none)
          pick true = refl
          pick false = refl

  pub unless : (test : A → Bool) (o : Rules A)
      → option_of (bind o (λ x. cond (not (test x)) (some x) none))
      ≡ option_of (bind o (λ x. cond (test x) none (some x)))
  unfolding bind
  unless test none = refl
  unless test (some x) = go (test x)
    where
      go : (t : Bool) → option_of (cond (not t) (some x) none) ≡ option_of (cond t none (some x))
      go true = refl
      go false = refl

-- ---- the app of a running instance
app-row : (l : List App) (b : ℕ) → app_at (apps_of (map row_of l)) b
    ≡ map_option (λ a. (row_of a).app) (find (is_app b) l)
app-row l b = go (find (is_app b) l) refl
  where
    go : (o : Rules App) → find (is_app b) l ≡ o
        → app_at (apps_of (map row_of l)) b ≡ map_option (λ a. (row_of a).app) o
    go none e = unfold map_option in app-missing l b e
    go (some x) e = unfold map_option in app-found l b x e

pub runner-app : (apps : List App) (parts : List Part) (instances : List Instance) (n : ℕ)
    → bind (run_in instances n) (λ c. bind (part_at parts c) (λ k. app_at (apps_of (map row_of apps)) k.app))
    ≡ map_option (λ a. (row_of a).app) (runner_in apps parts instances n)
unfolding runner_in bind
runner-app apps parts instances n = go (run_in instances n)
  where
    of-part : (o : Rules Part) → bind o (λ k. app_at (apps_of (map row_of apps)) k.app)
        ≡ map_option (λ a. (row_of a).app) (bind o (λ k. find (is_app k.app) apps))
    of-part none = unfold bind map_option in refl
    of-part (some k) = unfold bind in app-row apps k.app

    go : (o : Rules ℕ) → bind o (λ c. bind (part_at parts c) (λ k. app_at (apps_of (map row_of apps)) k.app))
        ≡ map_option (λ a. (row_of a).app) (bind o (λ c. bind (part_at parts c) (λ k. find (is_app k.app) apps)))
    go none = unfold bind map_option in refl
    go (some c) = unfold bind in of-part (part_at parts c)

-- ---- a definition in force
pub known-asked : (d : Device) (lent : List Loan) {p p' : ℕ} {q : Option Known} → p' ≡ p
    → q ≡ option_of (known (view_by (rows_in d.apps) (definitions_in d.definitions) [] []) p')
    → q ≡ option_of (known (view_in d lent) p)
unfolding known view_by view_of model_of
known-asked d lent e h = h ∙ rw e

-- ---- what each lookup tells of the view
module _ (d : Device) (lent : List Loan) where
  module _ (b : ℕ) {q : Option App} (asked : q ≡ first_of (is_app b) (apps_in d.apps)) where
    pub app-is : {x : App} → q ≡ Some x → (view_in d lent).app b ≡ some (row_of x).app
    unfolding view_of model_of
    app-is {x} e = app-found (apps_in d.apps) b x (first-some (is_app b) (apps_in d.apps) x (sym asked ∙ e))

    pub app-none : q ≡ None → (view_in d lent).app b ≡ none
    unfolding view_of model_of
    app-none e = app-missing (apps_in d.apps) b (first_none (is_app b) (apps_in d.apps) (sym asked ∙ e))

  module _ (p : ℕ) {q : Option Known}
      (asked : q ≡ option_of (known (view_by (rows_in d.apps) (definitions_in d.definitions) [] []) p)) where
    pub known-is : {x : Known} → q ≡ Some x → known (view_in d lent) p ≡ some x
    known-is {x} e = option-some (known (view_in d lent) p) x (sym (known-asked d lent refl asked) ∙ e)

    pub known-none : q ≡ None → known (view_in d lent) p ≡ none
    known-none e = option_none (known (view_in d lent) p) (sym (known-asked d lent refl asked) ∙ e)

  module _ (p : ℕ) {q : Option Part} (asked : q ≡ option_of (provider (view_by [] [] (parts_in d.parts) []) p)) where
    pub provider-is : {x : Part} → q ≡ Some x → provider (view_in d lent) p ≡ some x
    unfolding provider view_by view_of model_of
    provider-is {x} e = option-some (provider (view_in d lent) p) x (sym asked ∙ e)

    pub provider-none : q ≡ None → provider (view_in d lent) p ≡ none
    unfolding provider view_by view_of model_of
    provider-none e = option_none (provider (view_in d lent) p) (sym asked ∙ e)

  module _ (p : ℕ) {q : Option Part} (asked : q ≡ option_of (startable (view_by [] [] (parts_in d.parts) []) p)) where
    pub startable-is : {x : Part} → q ≡ Some x → startable (view_in d lent) p ≡ some x
    unfolding startable view_by view_of model_of
    startable-is {x} e = option-some (startable (view_in d lent) p) x (sym asked ∙ e)

    pub startable-none : q ≡ None → startable (view_in d lent) p ≡ none
    unfolding startable view_by view_of model_of
    startable-none e = option_none (startable (view_in d lent) p) (sym asked ∙ e)

  module _ (n : ℕ) {q : Option App}
      (asked : q ≡ option_of (runner_in (apps_in d.apps) (parts_in d.parts) (instances_in d.instances) n)) where
    abbrev running : Rules App
    running = runner_in (apps_in d.apps) (parts_in d.parts) (instances_in d.instances) n

    pub runner-is : {x : App} → q ≡ Some x → running_app (view_in d lent) n ≡ some (row_of x).app
    unfolding running_app view_of model_of map_option
    runner-is {x} e = runner-app _ _ _ n ∙ rw (option-some running x (sym asked ∙ e))

    pub runner-none : q ≡ None → running_app (view_in d lent) n ≡ none
    unfolding running_app view_of model_of map_option
    runner-none e = runner-app _ _ _ n ∙ rw (option_none running (sym asked ∙ e))

    pub runner-missing : {t : Bool} → option_is_some q ≡ not t → t ≡ missing (running_app (view_in d lent) n)
    unfolding running_app view_of model_of missing
    runner-missing {t} e =
        twice t ∙ ap not (sym e ∙ ap option_is_some asked ∙ go running) ∙ sym (ap missing (runner-app _ _ _ n))
      where
        twice : (t : Bool) → t ≡ not (not t)
        twice true = refl
        twice false = refl

        go : (o : Rules App) → option_is_some (option_of o) ≡ is_some (map_option (λ a. (row_of a).app) o)
        go none = unfold is_some map_option in refl
        go (some a) = unfold is_some map_option in refl

  module _ (p u : ℕ) {q : Option Resource} (asked : q ≡ first_of (is_resource p u) (resources_in d.resources)) where
    pub value-is : {x : Resource} → q ≡ Some x → (view_in d lent).value p u ≡ some x.value
    unfolding view_of model_of value_in map_option
    value-is {x} e = rw (first-some (is_resource p u) (resources_in d.resources) x (sym asked ∙ e))

    pub value-none : q ≡ None → (view_in d lent).value p u ≡ none
    unfolding view_of model_of value_in map_option
    value-none e = rw (first_none (is_resource p u) (resources_in d.resources) (sym asked ∙ e))

  module _ (n : ℕ) {q : Option Instance} (asked : q ≡ first_of (is_instance n) (instances_in d.instances)) where
    pub instance-is : {x : Instance} → q ≡ Some x → (view_in d lent).runs n ≡ some x.component
    unfolding view_of model_of run_in map_option
    instance-is {x} e = rw (first-some (is_instance n) (instances_in d.instances) x (sym asked ∙ e))

    pub instance-none : q ≡ None → (view_in d lent).runs n ≡ none
    unfolding view_of model_of run_in map_option
    instance-none e = rw (first_none (is_instance n) (instances_in d.instances) (sym asked ∙ e))

  -- a receiver is looked for without the loans
  pub receiving-app : (r : Receiver) → no_receiving_app (view_in d []) r ≡ no_receiving_app (view_in d lent) r
  unfolding no_receiving_app view_of model_of
  receiving-app (an_instance n) = refl
  receiving-app (an_app b) = refl

  pub receiving-instance : (r : Receiver)
      → no_receiving_instance (view_in d []) r ≡ no_receiving_instance (view_in d lent) r
  unfolding no_receiving_instance running_app view_of model_of
  receiving-instance (an_instance n) = refl
  receiving-instance (an_app b) = refl
