-- What a done answer tells of the numbers in the action: they fit the bytes that the tables have for them.
use Rattle.std.specs.Prelude.{ℕ, ◌≤◌, ◌≡◌, ◌&&◌, List, map, take, drop}
use Rattle.std.proofs.Math.Path.{refl}
use Rattle.std.proofs.Common.{sym, ap, ◌∙◌, take-append-drop}
use Rattle.std.proofs.Math.Bool.{true}
use Rattle.std.proofs.lemmas.Bool.{false≢true}
use Rattle.std.proofs.Math.Option.{Option, none, some}
use native.Mathlib.Omega.{arith}
use borrow.Author.Tests.{eqb-true, leb-true, not-false}
use Rattle.std.proofs.Math.Dec.{eqb, leb}
use Rattle.manifest.specs.Good.{good, good_use, uses_rise, at_most}
use Rattle.manifest.specs.GoodLaws.{and_parts, good-parts, all-rising}
use Rattle.rules.specs.declared.Ground.{Ground}
use Rattle.rules.specs.declared.Known.{Known}
use Rattle.rules.specs.declared.Instance.{Instance}
use Rattle.rules.specs.declared.Loan.{Loan}
use Rattle.rules.specs.Answer.{done}
use Rattle.rules.specs.declared.Reason.TheVariants.{NothingToTakeBack, Undefined}
use Rattle.rules.specs.Lists.{any, all, mem, find, is_some, test, bind, map_option}
use Rattle.rules.specs.ListsLaws.{and_left, and_right, both, all-mem, mem-all, all_any, all_found, all_map}
use Rattle.rules.specs.ListsLaws.{all_append, find-holds}
use Rattle.rules.specs.Limits.{large}
use Rattle.rules.specs.Action.{on_grants, on_runs, start, on_loans, lend, Receiver, an_instance, an_app}
use Rattle.rules.specs.Action.{receiver_number}
use Rattle.rules.specs.View.{App}
use Rattle.rules.specs.Permissions.{known, dangerous}
use Rattle.rules.specs.Grounds.{running_app}
use Rattle.rules.specs.Refusals.{grantable, is_group, refusals}
use Rattle.rules.specs.DoneLaws.{condition, clear, grant-grantable, group-range, start-range}
use Rattle.rules.specs.DoneLaws.{is-some, receiver_there, lend-facts}
use Rattle.state.specs.Tables.{State, apps_of, app_number, app_at, granted_in, run_in, view_of}
use Rattle.state.specs.declared.Device.{Device}
use Rattle.state.specs.Stored.{row_of, model_of}
use Rattle.state.specs.Valid.{manifest_from, good_grant, valid}
use Rattle.state.specs.Ok.{Ok, valid→ok}
use Rattle.tables.specs.declared.Change.{Change}
use Rattle.tables.specs.declared.Change.TheVariants.{AddGrant, TakeGrant, AddGroup, TakeGroup}
use Rattle.device.specs.GrantLaws.{listed-low}
use Rattle.monitor.specs.Stepped.{answer_to}
use Rattle.monitor.specs.Made.{asking}

-- ---- what can be granted is at most 63
grantable-low : (s : State) (a : App) (p : ℕ) → all good_use a.uses ≡ true
    → test (known (view_of s) p) (λ k. grantable a p k) ≡ true → p ≤ 63
grantable-low s a p u e = go (known (view_of s) p) e
  where
    go : (o : Option Known) → test o (λ k. grantable a p k) ≡ true → p ≤ 63
    go none e = absurd (false≢true (unfold test in e))
    go (some k) e = listed-low p a.uses u (and_left (mem p a.uses) (dangerous k) (unfold test grantable in e))

module _ (s : State) (ok : Ok large s) where
  uses-low : all (λ r. all good_use r.app.uses) s.rows ≡ true
  unfolding manifest_from
  uses-low = mem-all (λ r. all good_use r.app.uses) s.rows λ r m.
      all-rising (λ p. p) good_use 0 r.app.uses (and_parts (at_most 32 r.app.uses) (uses_rise 0 r.app.uses)
      (good-parts (manifest_from s r.app)
      (all-mem (λ r. good (manifest_from s r.app)) m ok.tables.good)).uses).1

  found-low : (b : ℕ) (a : App) → app_at (apps_of s.rows) b ≡ some a → all good_use a.uses ≡ true
  unfolding app_at
  found-low b a e = all_found (λ a. eqb a.number b) (λ a. all good_use a.uses) (apps_of s.rows) a e
      (all_map (λ a. all good_use a.uses) (λ r. r.app) s.rows ∙ uses-low)

  granted-low : (b p : ℕ) → granted_in s.rows b p ≡ true → p ≤ 63
  unfolding granted_in mem good_grant
  granted-low b p e =
      let both_of : all (λ r. all good_use r.app.uses && all (good_grant s r.app) r.grants) s.rows ≡ true =
      mem-all _ s.rows (λ r m. both (all-mem (λ r. all good_use r.app.uses) m uses-low)
      (all-mem (λ r. all (good_grant s r.app) r.grants) m ok.tables.granted)) in
      let w = all_any (λ r. all good_use r.app.uses && all (good_grant s r.app) r.grants)
      (λ r. eqb (app_number r) b && any (eqb p) r.grants) s.rows both_of e in
      let r = w.0 in
      let low = and_left (all good_use r.app.uses) _ w.1 in
      let x = all_any (good_grant s r.app) (eqb p) r.grants (and_right (all good_use r.app.uses) _ w.1)
      (and_right (eqb (app_number r) b) _ w.2) in
      let same = eqb-true p x.0 x.2 in
      let most = grantable-low s r.app x.0 low x.1 in
      omega arith

-- ---- grants and groups
pub member-low : (s : State) (c : Change) (b m : ℕ) (g : Ground) (v : ℕ) → valid large s ≡ true
    → answer_to s (on_grants (asking c b m)) ≡ done g v → m ≤ 63
member-low s AddGrant b m g v h e =
    let t = grant-grantable large (view_of s) g v b m e in
    grantable-low s t.0 m (found-low s (valid→ok large s h) b t.0 (unfold view_of in t.1)) t.2
member-low s TakeGrant b m g v h e =
    granted-low s (valid→ok large s h) b m (not-false (granted_in s.rows b m)
    (unfold refusals condition view_of in
    clear large (view_of s) (on_grants (asking TakeGrant b m)) g v e NothingToTakeBack))
member-low s AddGroup b m g v h e = group-low m (group-range large (view_of s) g v b m e)
  where
    group-low : (m : ℕ) → is_group m ≡ true → m ≤ 63
    group-low m e = let l = leb-true m 15 (and_right (leb 1 m) _ (unfold is_group in e)) in omega arith
member-low s TakeGroup b m g v h e =
    group-low m (not-false (is_group m)
    (unfold refusals condition in clear large (view_of s) (on_grants (asking TakeGroup b m)) g v e Undefined))
  where
    group-low : (m : ℕ) → is_group m ≡ true → m ≤ 63
    group-low m e = let l = leb-true m 15 (and_right (leb 1 m) _ (unfold is_group in e)) in omega arith

-- ---- a new instance's number
pub number-low : (s : State) (c n : ℕ) (g : Ground) (v : ℕ) → answer_to s (on_runs (start c n)) ≡ done g v → v ≤ 64
number-low s c n g v e = leb-true v 64 (and_right (leb 1 v) _ (start-range large (view_of s) g v c n e))

-- ---- a receiver: an instance's number is at most 64, and an app's is one of the table's
module _ (s : State) (ok : Ok large s) (narrow : all (λ a. leb a.number 65535) (apps_of s.rows) ≡ true) where
  app-low : (b : ℕ) → is_some (app_at (apps_of s.rows) b) ≡ true → b ≤ 65535
  unfolding app_at
  app-low b e =
      let f = is-some (app_at (apps_of s.rows) b) e in
      let same = eqb-true f.0.number b (find-holds (λ a. eqb a.number b) (apps_of s.rows) f.0 f.1) in
      let low = leb-true f.0.number 65535
      (all_found (λ a. eqb a.number b) (λ a. leb a.number 65535) (apps_of s.rows) f.0 f.1 narrow) in
      omega arith

  instance-low : (n : ℕ) → is_some (running_app (view_of s) n) ≡ true → n ≤ 65535
  unfolding running_app view_of run_in
  instance-low n e = go (find (λ i. eqb i.number n) s.instances) refl e
    where
      go : (o : Option Instance) → find (λ i. eqb i.number n) s.instances ≡ o
          → is_some (bind (map_option (λ i. i.component) o) λ c. bind ((view_of s).part c) λ k. (view_of s).app k.app)
          ≡ true
          → n ≤ 65535
      go none f e = absurd (false≢true (unfold is_some bind map_option in e))
      go (some i) f e =
          let same = eqb-true i.number n (find-holds (λ i. eqb i.number n) s.instances i f) in
          let low = leb-true i.number 64 (and_right (leb 1 i.number) _
          (all_found (λ i. eqb i.number n) (λ i. leb 1 i.number && leb i.number 64) s.instances i f
          ok.instances.range)) in
          omega arith

  pub receiver-low : (o p n u : ℕ) (q : Receiver) (g : Ground) (v : ℕ)
      → answer_to s (on_loans (lend o p n u q)) ≡ done g v → receiver_number q ≤ 65535
  receiver-low o p n u q g v e = go q (lend-facts large (view_of s) o p n u q g v e).receiver
    where
      go : (q : Receiver) → receiver_there (view_of s) q ≡ true → receiver_number q ≤ 65535
      go (an_instance m) h = unfold receiver_number in instance-low m (unfold receiver_there in h)
      go (an_app b) h = unfold receiver_number in app-low b (unfold receiver_there view_of in h)

-- the apps of a device whose numbers are narrow
pub apps-narrow : (d : Device) (lent : List Loan) → all (λ a. leb a.number 65535) d.apps.entries ≡ true
    → all (λ a. leb a.number 65535) (apps_of (model_of d lent).rows) ≡ true
unfolding model_of
apps-narrow d lent e =
    let es = d.apps.entries in
    let c = d.apps.count in
    let two = sym (all_append (λ a. leb a.number 65535) (take c es) (drop c es))
    ∙ ap (all (λ a. leb a.number 65535)) (take-append-drop c es) ∙ e in
    all_map (λ a. leb a.number 65535) (λ r. r.app) (map row_of (take c es))
    ∙ all_map (λ r. leb r.app.number 65535) row_of (take c es)
    ∙ and_left (all (λ a. leb a.number 65535) (take c es)) _ two
