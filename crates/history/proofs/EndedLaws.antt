-- A loan or a grant ended since then is no ground: after the action that ends it, it is there only if it was given
-- anew. And what is there was given by a done action and not ended since.
use Rattle.std.specs.Prelude.{ℕ, ◌≡◌, Bool, true, not, ◌&&◌, ◌||◌, cond, eqb}
use Rattle.std.proofs.Math.Path.{refl, ap}
use Rattle.std.proofs.Common.{sym, ◌∙◌, true≢false, eqb-true}
use Rattle.std.proofs.Math.Bool.{false}
use Rattle.std.proofs.lemmas.Bool.{false≢true}
use mathlib.Core.List.{List, [], ◌∷◌, ◌++◌}
use Rattle.std.proofs.Math.Option.{Option, none, some}
use Rattle.manifest.specs.Good.{is_provider}
use Rattle.rules.specs.declared.Known.{Known}
use Rattle.rules.specs.declared.Part.{Part}
use Rattle.rules.specs.declared.Ground.{Ground}
use Rattle.rules.specs.declared.Ground.TheVariants.{Nothing, Permission, LoanToInstance, LoanToApp}
use Rattle.rules.specs.Lists.{any, find, mem, test, bind, map_option, or_else}
use Rattle.rules.specs.ListsLaws.{and-false, cond-false, cond-true, clashing, find-holds}
use Rattle.rules.specs.Limits.{Limits}
use Rattle.rules.specs.Action.{Receiver, an_instance, an_app, same_receiver, Op, carries, install, uninstall, grant}
use Rattle.rules.specs.Action.{revoke, grant_group, revoke_group, start, stop, lend, withdraw, Action, on_apps}
use Rattle.rules.specs.Action.{on_grants}
use Rattle.rules.specs.Action.{on_runs, write, on_loans, read, query, reading, writing}
use Rattle.rules.specs.View.{App, View}
use Rattle.rules.specs.Permissions.{allows}
use Rattle.rules.specs.Grounds.{is_ground, ground, running_app, provider, ground_of}
use Rattle.rules.proofs.PermissionsLaws.{holds-dangerous}
use Rattle.rules.specs.GroundsLaws.{by-permission, by-loan-to-instance, by-loan-to-app}
use Rattle.rules.specs.Answer.{done, answer, ground_for}
use Rattle.rules.specs.DoneLaws.{its-ground}
use Rattle.state.specs.Tables.{State, part_at, view_of}
use Rattle.state.specs.Effects.{device}
use Rattle.history.specs.Log.{Past, is_of, is_by, log_part, log_defined, grant_by, log_granted, group_by, log_grouped}
use Rattle.history.specs.Log.{lent_by, log_lent, history, log}
use Rattle.history.proofs.Agree.{agrees}
use Rattle.history.specs.Ended.{gives_loan, ends_loan, gives_grant, ends_grant, gives_group, ends_group, ended_in}
use Rattle.history.specs.Ended.{Lasting, EndedSince, Accesses, reads, writes, Guarded}

-- ---- whatever each action ends or gives
module _ (gives : Action → Bool) (ends : List Past → Action → Bool) (lasts : List Past → Bool)
    (step : (e : Past) (h : List Past) → lasts (e ∷ h)
    ≡ not (ends h e.action) && (gives e.action || lasts h)) where
  -- once ended, it is not there until given anew
  gone : (h : List Past) → EndedSince gives ends h → lasts h ≡ false
  gone h e = ap lasts e.split ∙ go e.newer e.not_anew
    where
      after : List Past → List Past
      after newer = newer ++ (e.ending ∷ e.older)

      go : (newer : List Past) → any (λ f. gives f.action) newer ≡ false → lasts (after newer) ≡ false
      go [] nay = step e.ending e.older ∙ rw e.ended
      go (f ∷ newer) nay = step f (after newer) ∙ later (gives f.action) nay (go newer)
        where
          later : (t : Bool) → t || any (λ f. gives f.action) newer ≡ false
              → (any (λ f. gives f.action) newer ≡ false → lasts (after newer) ≡ false)
              → not (ends (after newer) f.action) && (t || lasts (after newer)) ≡ false
          later true nay more = absurd (true≢false nay)
          later false nay more = rw (more nay) (and-false (not (ends (after newer) f.action)))

  -- what is there was given, and not ended since
  lasting : lasts [] ≡ false → (h : List Past) → lasts h ≡ true → Lasting gives ends h
  lasting bare [] there = absurd (clashing there bare)
  lasting bare (e ∷ h) there =
      go (ends h e.action) (gives e.action) refl refl (sym (step e h) ∙ there) (lasting bare h)
    where
      go : (s t : Bool) → ends h e.action ≡ s → gives e.action ≡ t → not s && (t || lasts h) ≡ true
          → (lasts h ≡ true → Lasting gives ends h) → Lasting gives ends (e ∷ h)
      go true t q g there more = absurd (false≢true there)
      go false true q g there more =
          record {
            newer = [];
            given = e;
            older = h;
            split = refl;
            gave = g;
            unended = unfold ended_in in refl;
          }
      go false false q g there more =
          let l = more there in
          record {
            newer = e ∷ l.newer;
            given = l.given;
            older = l.older;
            split = ap (λ (k : List Past). e ∷ k) l.split;
            gave = l.gave;
            unended = unfold ended_in in rw (← l.split, q) l.unended;
          }

-- ---- the log answers by these words
loan-step : (r : Receiver) (p u : ℕ) (op : Op) (e : Past) (h : List Past)
    → log_lent (e ∷ h) r p u op
    ≡ not (ends_loan r p u op h e.action) && (gives_loan r p u op e.action || log_lent h r p u op)
unfolding log_lent lent_by ends_loan gives_loan
loan-step r p u op e h = go e.action (log_lent h r p u op)
  where
    go : (x : Action) (was : Bool)
        → lent_by (log_part h p) x r p u op was ≡ not (ends_loan r p u op h x) && (gives_loan r p u op x || was)
    go (on_apps (install i m)) was = refl
    go (on_apps (uninstall b)) was = cond-false (test (log_part h p) (is_of b) || same_receiver r (an_app b)) was
    go (on_grants z) was = refl
    go (on_runs (start c n)) was = refl
    go (on_runs (stop n)) was = cond-false (same_receiver r (an_instance n)) was
    go (write q n y x) was = refl
    go (on_loans (lend o q n y j)) was =
        cond-true ((same_receiver j r && (eqb q p && eqb y u)) && carries op o) was
    go (on_loans (withdraw o q n y)) was = cond-false ((eqb q p && eqb y u) && carries op o) was
    go (query z) was = refl

grant-step : (a p : ℕ) (e : Past) (h : List Past)
    → log_granted (e ∷ h) a p ≡ not (ends_grant a p h e.action) && (gives_grant a p e.action || log_granted h a p)
unfolding log_granted grant_by ends_grant gives_grant
grant-step a p e h = go e.action (log_granted h a p)
  where
    go : (x : Action) (was : Bool)
        → grant_by (log_defined h p) x a p was ≡ not (ends_grant a p h x) && (gives_grant a p x || was)
    go (on_apps (install i m)) was = refl
    go (on_apps (uninstall b)) was = cond-false (eqb b a || test (log_defined h p) (is_by b)) was
    go (on_grants (grant b q)) was = cond-true (eqb b a && eqb q p) was
    go (on_grants (revoke b q)) was = cond-false (eqb b a && eqb q p) was
    go (on_grants (grant_group b g)) was = refl
    go (on_grants (revoke_group b g)) was = refl
    go (on_runs z) was = refl
    go (write q n u x) was = refl
    go (on_loans z) was = refl
    go (query z) was = refl

group-step : (a g : ℕ) (e : Past) (h : List Past)
    → log_grouped (e ∷ h) a g ≡ not (ends_group a g h e.action) && (gives_group a g e.action || log_grouped h a g)
unfolding log_grouped group_by ends_group gives_group
group-step a g e h = go e.action (log_grouped h a g)
  where
    go : (x : Action) (was : Bool) → group_by x a g was ≡ not (ends_group a g h x) && (gives_group a g x || was)
    go (on_apps (install i m)) was = refl
    go (on_apps (uninstall b)) was = cond-false (eqb b a) was
    go (on_grants (grant b p)) was = refl
    go (on_grants (revoke b p)) was = refl
    go (on_grants (grant_group b f)) was = cond-true (eqb b a && eqb f g) was
    go (on_grants (revoke_group b f)) was = cond-false (eqb b a && eqb f g) was
    go (on_runs z) was = refl
    go (write p n u x) was = refl
    go (on_loans z) was = refl
    go (query z) was = refl

-- ---- what is lent or granted was given and not ended since
pub lent-since : (h : List Past) (r : Receiver) (p u : ℕ) (op : Op) → log_lent h r p u op ≡ true
    → Lasting (gives_loan r p u op) (ends_loan r p u op) h
unfolding log_lent
lent-since h r p u op there = lasting (gives_loan r p u op) (ends_loan r p u op) (λ h. log_lent h r p u op)
    (loan-step r p u op) refl h there

pub granted-since : (h : List Past) (a p : ℕ) → log_granted h a p ≡ true → Lasting (gives_grant a p) (ends_grant a p) h
unfolding log_granted
granted-since h a p there =
    lasting (gives_grant a p) (ends_grant a p) (λ h. log_granted h a p) (grant-step a p) refl h there

pub grouped-since : (h : List Past) (a g : ℕ) → log_grouped h a g ≡ true → Lasting (gives_group a g) (ends_group a g) h
unfolding log_grouped
grouped-since h a g there =
    lasting (gives_group a g) (ends_group a g) (λ h. log_grouped h a g) (group-step a g) refl h there

-- ---- what ended and was not given anew is not there
pub loan-ended : (h : List Past) (r : Receiver) (p u : ℕ) (op : Op)
    → EndedSince (gives_loan r p u op) (ends_loan r p u op) h → log_lent h r p u op ≡ false
loan-ended h r p u op =
    gone (gives_loan r p u op) (ends_loan r p u op) (λ h. log_lent h r p u op) (loan-step r p u op) h

pub grant-ended : (h : List Past) (a p : ℕ) → EndedSince (gives_grant a p) (ends_grant a p) h → log_granted h a p
    ≡ false
grant-ended h a p = gone (gives_grant a p) (ends_grant a p) (λ h. log_granted h a p) (grant-step a p) h

pub group-ended : (h : List Past) (a g : ℕ) → EndedSince (gives_group a g) (ends_group a g) h → log_grouped h a g
    ≡ false
group-ended h a g = gone (gives_group a g) (ends_group a g) (λ h. log_grouped h a g) (group-step a g) h

-- ---- and so no access rests on it
-- what a done access rests on
record Rests (v : View) (p n u : ℕ) (op : Op) (g : Ground) : Type 0 where
  part : Part
  app : App
  provided : provider v p ≡ some part
  running : running_app v n ≡ some app
  ground : ground v n app part u op ≡ g

named : (v : View) (p n u : ℕ) (op : Op) (g : Ground) → or_else Nothing (ground_of v p n u op) ≡ g → is_ground g ≡ true
    → Rests v p n u op g
unfolding ground_of bind map_option or_else is_ground
named v p n u op g e is = go (provider v p) (running_app v n) refl refl e
  where
    go : (o : Option Part) (q : Option App) → provider v p ≡ o → running_app v n ≡ q
        → or_else Nothing (bind o λ k. map_option (λ a. ground v n a k u op) q) ≡ g → Rests v p n u op g
    go none q i j e = absurd (clashing is (ap is_ground (sym e)))
    go (some k) none i j e = absurd (clashing is (ap is_ground (sym e)))
    go (some k) (some a) i j e = record { part = k; app = a; provided = i; running = j; ground = e }

rests : (L : Limits) (v : View) (p n u : ℕ) (op : Op) (x : Action) → Accesses p n u op x → (g : Ground) (w : ℕ)
    → answer L v x ≡ done g w → is_ground g ≡ true → Rests v p n u op g
unfolding ground_for
rests L v p n u reading x reads g w e is =
    named v p n u reading g (its-ground L v (query (read p n u)) g w e) is
rests L v p n u writing x (writes {x = y}) g w e is =
    named v p n u writing g (its-ground L v (write p n u y) g w e) is

-- a provider is found by its number
numbered : (s : State) (p : ℕ) (k : Part) → provider (view_of s) p ≡ some k → k.component.number ≡ p
unfolding provider view_of bind part_at
numbered s p k e = go (part_at s.parts p) refl e
  where
    is_here : Part → Bool
    is_here j = eqb j.component.number p

    pick : (j : Part) (t : Bool) → find is_here s.parts ≡ some j → cond t (some j) none ≡ some k
        → k.component.number ≡ p
    pick j true q e = let z : j ≡ k = cc in
        rw (← z) (eqb-true j.component.number p (find-holds is_here s.parts j q))
    pick j false q e = absurd (false≢true cc)

    go : (o : Option Part) → part_at s.parts p ≡ o
        → bind o (λ j. cond (is_provider j.component) (some j) none) ≡ some k → k.component.number ≡ p
    go none q e = absurd (false≢true cc)
    go (some j) q e = pick j (is_provider j.component) q e

-- after the actions xs, the access x by instance n on resource u of provider p
module _ (L : Limits) (xs : List Action) (p n u : ℕ) (op : Op) (x : Action) (is : Accesses p n u op x) (w : ℕ) where
  abbrev now : View
  now = view_of (device L xs)

  not-lent : (r : Receiver) (k : Part) → provider now p ≡ some k
      → EndedSince (gives_loan r p u op) (ends_loan r p u op) (history (log L xs))
      → now.lent r k.component.number u op ≡ false
  unfolding view_of
  not-lent r k e since = rw (numbered (device L xs) p k e)
      ((agrees L xs).lent r p u op ∙ loan-ended (history (log L xs)) r p u op since)

  pub no-access-by-loan-to-instance :
      EndedSince (gives_loan (an_instance n) p u op) (ends_loan (an_instance n) p u op) (history (log L xs))
      → answer L now x ≡ done LoanToInstance w → ⊥
  unfolding is_ground
  no-access-by-loan-to-instance since e =
      let r = rests L now p n u op x is LoanToInstance w e refl in
      clashing (by-loan-to-instance now n r.app r.part u op r.ground)
      (not-lent (an_instance n) r.part r.provided since)

  -- a is the app of the instance
  pub no-access-by-loan-to-app : (a : App) → running_app now n ≡ some a
      → EndedSince (gives_loan (an_app a.number) p u op) (ends_loan (an_app a.number) p u op) (history (log L xs))
      → answer L now x ≡ done LoanToApp w → ⊥
  unfolding is_ground
  no-access-by-loan-to-app a there since e =
      let r = rests L now p n u op x is LoanToApp w e refl in
      let running = r.running in
      let same : r.app ≡ a = cc in
      clashing (rw same at (by-loan-to-app now n r.app r.part u op r.ground))
      (not-lent (an_app a.number) r.part r.provided since)

  -- k is the provider, and d defines its permission q
  module _ (a : App) (k : Part) (q : ℕ) (d : Known) (there : running_app now n ≡ some a)
      (provided : provider now p ≡ some k) (guard : Guarded now k op q d) where
    not-allowed : now.granted a.number q ≡ false → now.grouped a.number d.group ≡ false
        → answer L now x ≡ done Permission w → ⊥
    unfolding is_ground allows
    not-allowed i g e =
        let r = rests L now p n u op x is Permission w e refl in
        let running = r.running in
        let found = r.provided in
        let same : r.app ≡ a = cc in
        let alike : r.part ≡ k = cc in
        clashing (by-permission now n a k u op (rw (same, alike) at r.ground))
        (rw (guard.permission, guard.needed, holds-dangerous now a q d guard.defined guard.level, i, g)
        (and-false (mem q a.uses)))

    -- an individual grant ended, where the group is not granted
    pub no-access-by-grant : EndedSince (gives_grant a.number q) (ends_grant a.number q) (history (log L xs))
        → now.grouped a.number d.group ≡ false → answer L now x ≡ done Permission w → ⊥
    unfolding view_of
    no-access-by-grant since = not-allowed
        ((agrees L xs).granted a.number q ∙ grant-ended (history (log L xs)) a.number q since)

    -- a group grant ended, where the permission is not granted by itself
    pub no-access-by-group :
        EndedSince (gives_group a.number d.group) (ends_group a.number d.group) (history (log L xs))
        → now.granted a.number q ≡ false → answer L now x ≡ done Permission w → ⊥
    unfolding view_of
    no-access-by-group since i = not-allowed i
        ((agrees L xs).grouped a.number d.group ∙ group-ended (history (log L xs)) a.number d.group since)
