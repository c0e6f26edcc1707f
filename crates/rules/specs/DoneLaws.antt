-- What a done answer tells: none of the action's refusals applies, and its ground and value are those of the rules.
use Rattle.std.specs.Prelude.{ℕ, ◌≡◌, Bool, ◌&&◌, ◌||◌, List, [], ◌∷◌, eqb, leb, ltb, Ok, Err}
use Rattle.std.proofs.Math.Path.{refl, ap}
use Rattle.std.proofs.Common.{sym}
use Rattle.std.proofs.Math.Bool.{true, false, not, cond}
use Rattle.std.proofs.lemmas.Bool.{false≢true}
use Rattle.std.proofs.Math.Option.{Option, none, some}
use borrow.Author.Tests.{not-true, not-false}
use Rattle.manifest.specs.Layout.{Manifest}
use Rattle.manifest.specs.Good.{good, is_provider, is_provider_of, good_resource, resource_key, at_most}
use Rattle.manifest.specs.GoodLaws.{good-parts, all-rising}
use Rattle.rules.specs.Lists.{any, all, upto, missing, is_some, test, bind, or_else}
use Rattle.rules.specs.ListsLaws.{and_right, find-holds, all_found, all-mono}
use Rattle.rules.specs.UptoLaws.{within, upto-within}
use Rattle.rules.specs.declared.Known.{Known}
use Rattle.rules.specs.declared.Part.{Part}
use Rattle.rules.specs.declared.Ground.{Ground}
use Rattle.rules.specs.declared.Reason.{Reason}
use Rattle.rules.specs.declared.Reason.TheVariants.{MalformedAction, MalformedManifest, AlreadyThere, NoSuchApp}
use Rattle.rules.specs.declared.Reason.TheVariants.{NoSuchComponent, NoSuchInstance, NoSuchResource, Undefined}
use Rattle.rules.specs.declared.Reason.TheVariants.{CannotBeGranted, NotPermitted, InUse, NoRoom}
use Rattle.rules.specs.declared.Ground.TheVariants.{Nothing}
use Rattle.rules.specs.Limits.{Limits}
use Rattle.rules.specs.Action.{is_operations, Receiver, an_instance, an_app, install, uninstall, grant, grant_group}
use Rattle.rules.specs.Action.{start, lend, withdraw, Action, on_apps, on_grants, on_runs, write, on_loans, query}
use Rattle.rules.specs.View.{App, View}
use Rattle.rules.specs.Permissions.{known}
use Rattle.rules.specs.Grounds.{is_sharing, running_app, provider, startable}
use Rattle.rules.specs.Refusals.{Refusal, clash, crowded, is_running, grantable, is_group, free_number}
use Rattle.rules.specs.Refusals.{no_receiving_app, no_receiving_instance, lent_any, refusals}
use Rattle.rules.specs.Answer.{Answer, done, refused, decide, answer, ground_for, value_for, number_of}

-- ---- every action
-- the condition under which a list of refusals refuses for a reason
unfoldable pub condition : Reason → List Refusal → Bool
condition n [] = false
condition n (r ∷ rs) = cond (eqb (number_of r.reason) (number_of n)) r.applies (condition n rs)

decided : (rs : List Refusal) (d : Answer) (g : Ground) (v : ℕ) → decide rs d ≡ done g v
    → ((n : Reason) → condition n rs ≡ false) × (d ≡ done g v)
unfolding decide condition
decided [] d g v e = (λ n. refl, e)
decided (r ∷ rs) d g v e = go r.applies refl e (decided rs d g v)
  where
    pick : (t : Bool) (n : Reason) → r.applies ≡ false → condition n rs ≡ false
        → cond t r.applies (condition n rs) ≡ false
    pick true n a b = a
    pick false n a b = b

    go : (t : Bool) → r.applies ≡ t → cond t (refused r.reason) (decide rs d) ≡ done g v
        → (decide rs d ≡ done g v → ((n : Reason) → condition n rs ≡ false) × (d ≡ done g v))
        → ((n : Reason) → condition n (r ∷ rs) ≡ false) × (d ≡ done g v)
    go true a e more = absurd (false≢true cc)
    go false a e more =
        let m = more e in (λ n. pick (eqb (number_of r.reason) (number_of n)) n a (m.0 n), m.1)

-- what is done has one ground and one value
pub done-injective : {g h : Ground} {v w : ℕ} → done g v ≡ done h w → (g ≡ h) × (v ≡ w)
done-injective {g} {h} {v} {w} e = (ap ground_in e, ap value_in e)
  where
    ground_in : Answer → Ground
    ground_in (Ok d) = d.ground
    ground_in (Err n) = Nothing

    value_in : Answer → ℕ
    value_in (Ok d) = d.value
    value_in (Err n) = 0

module _ (L : Limits) (w : View) where
  pub clear : (x : Action) (g : Ground) (v : ℕ) → answer L w x ≡ done g v → (n : Reason)
      → condition n (refusals L w x) ≡ false
  unfolding answer
  clear x g v e = (decided (refusals L w x) _ g v e).0

  -- its ground and its value are those of the rules
  same : (x : Action) (g : Ground) (v : ℕ) → answer L w x ≡ done g v
      → done (ground_for w x) (value_for L w x) ≡ done g v
  unfolding answer
  same x g v e = let d = (decided (refusals L w x) _ g v e).1 in cc

  pub its-value : (x : Action) (g : Ground) (v : ℕ) → answer L w x ≡ done g v → value_for L w x ≡ v
  its-value x g v e = (done-injective (same x g v e)).1

  pub its-ground : (x : Action) (g : Ground) (v : ℕ) → answer L w x ≡ done g v → ground_for w x ≡ g
  its-ground x g v e = (done-injective (same x g v e)).0

-- ---- what may be missing
module _ {A : Type 0} (o : Option A) where
  pub here : missing o ≡ false → is_some o ≡ true
  unfolding missing
  here e = not-false (is_some o) e

  pub is-some : is_some o ≡ true → (x : A) × (o ≡ some x)
  unfolding is_some
  is-some e = go o e
    where
      go : (o : Option A) → is_some o ≡ true → (x : A) × (o ≡ some x)
      go none e = absurd (false≢true e)
      go (some x) e = (x, refl)

  pub the : missing o ≡ false → (x : A) × (o ≡ some x)
  the e = is-some (here e)

pub nothing : {A : Type 0} (o : Option A) → is_some o ≡ false → o ≡ none
unfolding is_some
nothing none e = refl
nothing (some x) e = absurd (false≢true (sym e))

-- ---- one of several
pub or-false_l : (a b : Bool) → a || b ≡ false → a ≡ false
or-false_l true b e = e
or-false_l false b e = refl

pub or-false_r : (a b : Bool) → a || b ≡ false → b ≡ false
or-false_r true b e = absurd (false≢true (sym e))
or-false_r false b e = e

-- ---- install
-- each resource of a good manifest names a provider among its components
pub provided : (m : Manifest) → good m ≡ true
    → all (λ r. any (is_provider_of r.provider) m.components) m.resources ≡ true
provided m e = all-mono (good_resource m.components) (λ r. any (is_provider_of r.provider) m.components)
    (λ r h. and_right (ltb 0 r.uri) (any (is_provider_of r.provider) m.components) h) m.resources
    (all-rising resource_key (good_resource m.components) 0 m.resources
    (and_right (at_most 32 m.resources) _ (good-parts m e).resources))

-- what has to be new
pub record New (w : View) (m : Manifest) : Type 0 where
  pub app : is_some (w.app m.app) ≡ false
  pub components : any (λ c. is_some (w.part c.number)) m.components ≡ false
  pub defines : any (λ d. is_some (known w d.permission)) m.defines ≡ false

module _ (L : Limits) (w : View) (g : Ground) (v : ℕ) where
  pub install-good : (i : Bool) (m : Manifest) → answer L w (on_apps (install i m)) ≡ done g v → good m ≡ true
  unfolding refusals condition
  install-good i m e = not-false (good m) (clear L w (on_apps (install i m)) g v e MalformedManifest)

  pub install-new : (i : Bool) (m : Manifest) → answer L w (on_apps (install i m)) ≡ done g v → New w m
  unfolding refusals condition clash
  install-new i m e =
      let c = clear L w (on_apps (install i m)) g v e AlreadyThere in
      let rest = or-false_r (is_some (w.app m.app)) _ c in
      let components = any (λ c. is_some (w.part c.number)) m.components in
      record {
        app = or-false_l (is_some (w.app m.app)) _ c;
        components = or-false_l components _ rest;
        defines = or-false_r components _ rest;
      }

  pub install-room : (i : Bool) (m : Manifest) → answer L w (on_apps (install i m)) ≡ done g v → crowded L w m ≡ false
  unfolding refusals condition
  install-room i m e = clear L w (on_apps (install i m)) g v e NoRoom

  -- ---- uninstall
  pub uninstall-idle : (b : ℕ) → answer L w (on_apps (uninstall b)) ≡ done g v → is_running L w b ≡ false
  unfolding refusals condition
  uninstall-idle b e = clear L w (on_apps (uninstall b)) g v e InUse

  -- ---- grants
  pub grant-app : (b p : ℕ) → answer L w (on_grants (grant b p)) ≡ done g v → is_some (w.app b) ≡ true
  unfolding refusals condition
  grant-app b p e = here (w.app b) (clear L w (on_grants (grant b p)) g v e NoSuchApp)

  pub grant-new : (b p : ℕ) → answer L w (on_grants (grant b p)) ≡ done g v → w.granted b p ≡ false
  unfolding refusals condition
  grant-new b p e = clear L w (on_grants (grant b p)) g v e AlreadyThere

  -- the app lists the permission, which is defined and dangerous
  pub grant-grantable : (b p : ℕ) → answer L w (on_grants (grant b p)) ≡ done g v
      → (a : App) × (w.app b ≡ some a) × (test (known w p) (grantable a p) ≡ true)
  unfolding refusals condition test
  grant-grantable b p e =
      let c = clear L w (on_grants (grant b p)) g v e in
      let a = the (w.app b) (c NoSuchApp) in
      let k = the (known w p) (c Undefined) in
      (a.0, a.1, go (w.app b) (known w p) a.0 k.0 a.1 k.1 (c CannotBeGranted))
    where
      go : (o : Option App) (q : Option Known) (a : App) (k : Known) → o ≡ some a → q ≡ some k
          → test o (λ a. test q (λ k. not (grantable a p k))) ≡ false → test q (grantable a p) ≡ true
      go o q a k r s e =
          let z : test (some a) (λ a. test (some k) (λ k. not (grantable a p k))) ≡ false = rw (r, s) at e in
          rw s (not-false (grantable a p k) z)

  pub group-app : (b p : ℕ) → answer L w (on_grants (grant_group b p)) ≡ done g v → is_some (w.app b) ≡ true
  unfolding refusals condition
  group-app b p e = here (w.app b) (clear L w (on_grants (grant_group b p)) g v e NoSuchApp)

  pub group-new : (b p : ℕ) → answer L w (on_grants (grant_group b p)) ≡ done g v → w.grouped b p ≡ false
  unfolding refusals condition
  group-new b p e = clear L w (on_grants (grant_group b p)) g v e AlreadyThere

  pub group-range : (b p : ℕ) → answer L w (on_grants (grant_group b p)) ≡ done g v → is_group p ≡ true
  unfolding refusals condition
  group-range b p e = not-false (is_group p) (clear L w (on_grants (grant_group b p)) g v e Undefined)

  -- ---- start: its value is a free number
  start-found : (c n : ℕ) → answer L w (on_runs (start c n)) ≡ done g v → free_number L w ≡ some v
  unfolding refusals condition value_for
  start-found c n e = go (free_number L w) (the (free_number L w) (clear L w (on_runs (start c n)) g v e NoRoom))
      (its-value L w (on_runs (start c n)) g v e)
    where
      go : (o : Option ℕ) → (x : ℕ) × (o ≡ some x) → or_else 0 o ≡ v → o ≡ some v
      go none t q = absurd (false≢true (let z = t.1 in cc))
      go (some y) t q = unfold or_else in ap some q

  pub start-free : (c n : ℕ) → answer L w (on_runs (start c n)) ≡ done g v → w.runs v ≡ none
  unfolding free_number missing
  start-free c n e = nothing (w.runs v) (not-true (is_some (w.runs v))
      (find-holds (λ n. not (is_some (w.runs n))) (upto L.instances) v (start-found c n e)))

  pub start-range : (c n : ℕ) → answer L w (on_runs (start c n)) ≡ done g v → leb 1 v && leb v L.instances ≡ true
  unfolding free_number
  start-range c n e = all_found (λ n. missing (w.runs n)) (within L.instances) (upto L.instances) v
      (start-found c n e) (upto-within L.instances)

  pub start-part : (c n : ℕ) → answer L w (on_runs (start c n)) ≡ done g v
      → test (w.part c) (λ k. not (is_provider k.component)) ≡ true
  unfolding refusals condition startable
  start-part c n e =
      let k = the (startable w c) (clear L w (on_runs (start c n)) g v e NoSuchComponent) in go (w.part c) k.0 k.1
    where
      go : (o : Option Part) (k : Part) → bind o (λ k. cond (is_provider k.component) none (some k)) ≡ some k
          → test o (λ k. not (is_provider k.component)) ≡ true
      go none k e = absurd (false≢true (unfold bind in cc))
      go (some j) k e = unfold test bind in pick (is_provider j.component) (unfold bind in e)
        where
          pick : (t : Bool) → cond t none (some j) ≡ some k → not t ≡ true
          pick true e = cc
          pick false e = refl

  -- ---- write
  pub write-there : (p n u x : ℕ) → answer L w (write p n u x) ≡ done g v → is_some (w.value p u) ≡ true
  unfolding refusals condition
  write-there p n u x e = here (w.value p u) (clear L w (write p n u x) g v e NoSuchResource)

-- ---- lend
unfoldable pub receiver_there : View → Receiver → Bool
receiver_there v (an_instance n) = is_some (running_app v n)
receiver_there v (an_app b) = is_some (v.app b)

-- what a done lend tells of its loan
pub record Lent (w : View) (o p u : ℕ) (r : Receiver) : Type 0 where
  pub operations : is_operations o ≡ true
  pub resource : is_some (w.value p u) ≡ true
  pub sharing : test (w.part p) (λ k. is_provider k.component && is_sharing k.component) ≡ true
  pub receiver : receiver_there w r ≡ true

provider-shares : (w : View) (p : ℕ) → missing (provider w p) ≡ false
    → test (provider w p) (λ k. not (is_sharing k.component)) ≡ false
    → test (w.part p) (λ k. is_provider k.component && is_sharing k.component) ≡ true
unfolding provider test bind missing is_some
provider-shares w p e h = go (w.part p) e h
  where
    go : (o : Option Part) → missing (bind o (λ k. cond (is_provider k.component) (some k) none)) ≡ false
        → test (bind o (λ k. cond (is_provider k.component) (some k) none)) (λ k. not (is_sharing k.component))
        ≡ false → test o (λ k. is_provider k.component && is_sharing k.component) ≡ true
    go none e h = absurd (false≢true (sym e))
    go (some j) e h = pick (is_provider j.component) e h
      where
        pick : (t : Bool) → missing (cond t (some j) none) ≡ false
            → test (cond t (some j) none) (λ k. not (is_sharing k.component)) ≡ false
            → t && is_sharing j.component ≡ true
        pick true e h = not-false (is_sharing j.component) h
        pick false e h = absurd (false≢true (sym e))

module _ (L : Limits) (w : View) (o p n u : ℕ) (r : Receiver) (g : Ground) (v : ℕ)
    (e : answer L w (on_loans (lend o p n u r)) ≡ done g v) where
  pub lend-facts : Lent w o p u r
  unfolding refusals condition
  lend-facts =
      let c = clear L w (on_loans (lend o p n u r)) g v e in
      record {
        operations = not-false (is_operations o) (c MalformedAction);
        resource = here (w.value p u) (c NoSuchResource);
        sharing = provider-shares w p (c NoSuchComponent)
            (or-false_l (test (provider w p) (λ k. not (is_sharing k.component))) _ (c NotPermitted));
        receiver = there r (c NoSuchApp)
            (or-false_r (missing (running_app w n)) (no_receiving_instance w r) (c NoSuchInstance));
      }
    where
      there : (r : Receiver) → no_receiving_app w r ≡ false → no_receiving_instance w r ≡ false → receiver_there w r
          ≡ true
      there (an_instance m) a i = unfold receiver_there in here (running_app w m) (unfold no_receiving_instance in i)
      there (an_app b) a i = unfold receiver_there in here (w.app b) (unfold no_receiving_app in a)

  pub lend-room : not (lent_any w r p u) && leb L.loans w.loans ≡ false
  unfolding refusals condition
  lend-room = clear L w (on_loans (lend o p n u r)) g v e NoRoom

-- what is lent is an operation
unfoldable pub lends_some : Action → Bool
lends_some (on_apps z) = true
lends_some (on_grants z) = true
lends_some (on_runs z) = true
lends_some (write p n u x) = true
lends_some (on_loans (lend o p n u r)) = is_operations o
lends_some (on_loans (withdraw o p n u)) = true
lends_some (query z) = true

pub lends_some_lem : (L : Limits) (w : View) (x : Action) (g : Ground) (v : ℕ) → answer L w x ≡ done g v
    → lends_some x ≡ true
unfolding lends_some
lends_some_lem L w (on_apps z) g v e = refl
lends_some_lem L w (on_grants z) g v e = refl
lends_some_lem L w (on_runs z) g v e = refl
lends_some_lem L w (write p n u x) g v e = refl
lends_some_lem L w (on_loans (lend o p n u r)) g v e = (lend-facts L w o p n u r g v e).operations
lends_some_lem L w (on_loans (withdraw o p n u)) g v e = refl
lends_some_lem L w (query z) g v e = refl
