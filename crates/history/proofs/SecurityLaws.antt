-- The properties of Security hold: each comes down to what the log, the grounds, the refusals or the tables say.
use Rattle.std.specs.Prelude.{ℕ, ◌≡◌, Bool, not, ◌&&◌, cond, List, ◌∷◌, ◌++◌, eqb, Ok, Err}
use Rattle.std.proofs.Math.Path.{refl}
use Rattle.std.proofs.Common.{sym, ap, subst, ◌∙◌, true≢false, eqb-true}
use Rattle.std.proofs.Math.Bool.{true, false}
use Rattle.std.proofs.lemmas.Bool.{false≢true, not-false}
use Rattle.std.proofs.Math.Option.{Option, none, some}
use Rattle.rules.specs.declared.Known.{Known}
use Rattle.rules.specs.declared.Part.{Part}
use Rattle.rules.specs.declared.Ground.{Ground}
use Rattle.rules.specs.declared.Reason.TheVariants.{NoSuchComponent, NoSuchInstance, NotPermitted}
use Rattle.rules.specs.Lists.{all, mem, is_some, missing, test, bind, map_option}
use Rattle.rules.specs.ListsLaws.{and_left, and_right, and-false, or-false, flat, eqb_same, or-true, all_any}
use Rattle.rules.specs.Limits.{Limits}
use Rattle.rules.specs.Action.{Receiver, Op, reading, writing, carries, GrantAction, grant, revoke}
use Rattle.rules.specs.Action.{grant_group, revoke_group, lend, withdraw, read, Action, on_apps, on_grants, on_runs}
use Rattle.rules.specs.Action.{write}
use Rattle.rules.specs.Action.{on_loans, query}
use Rattle.rules.specs.View.{App, View}
use Rattle.rules.specs.Permissions.{holds}
use Rattle.rules.specs.Grounds.{is_exported, is_sharing, is_ground, right_ground, ground, running_app, provider}
use Rattle.rules.specs.Grounds.{right_of}
use Rattle.rules.specs.Grounds.{ground_of}
use Rattle.rules.proofs.PermissionsLaws.{holds-dangerous}
use Rattle.rules.specs.GroundsLaws.{right-exactly, ground-exactly}
use Rattle.rules.specs.Refusals.{is_group, access, lacking, refusals}
use Rattle.rules.specs.Answer.{Answer, done, refused, decide, answer}
use Rattle.rules.specs.DoneLaws.{condition, clear, or-false_l, or-false_r}
use Rattle.state.specs.Tables.{Row, State, app_number, granted_in, grouped_in, is_on, lent_in, view_of}
use Rattle.state.specs.Effects.{parts_after, resources_after, instances_after, loans_after, next, after, device}
use Rattle.state.specs.Valid.{valid}
use Rattle.state.specs.Ok.{valid→ok}
use Rattle.state.proofs.LookupLaws.{installed_after, apps-after}
use Rattle.state.proofs.Keeps.{reached-valid}
use Rattle.history.specs.Log.{Past, history, log_granted, log}
use Rattle.history.proofs.AgreeLoans.{lent-reduced}
use Rattle.history.proofs.Agree.{agrees}
use Rattle.history.specs.Ended.{gives_grant, ends_grant, ended_in}
use Rattle.history.proofs.EndedLaws.{granted-since, grant-ended}
use Rattle.history.specs.Security.{is_done, Ungrouped, GrantedSince, There, is_lent, Secure}

-- ---- a dangerous permission of group 0 is held exactly if it is listed and granted, where group 0 is not granted
held-ungrouped : (v : View) (a : App) (p : ℕ) (d : Known) → Ungrouped v p d → v.grouped a.number 0 ≡ false
    → holds v a p ≡ mem p a.uses && v.granted a.number p
held-ungrouped v a p d un nay = holds-dangerous v a p d un.defined un.level
    ∙ rw (un.group, nay, or-false)

-- group 0 is never granted: the groups of a valid state are 1 to 15
rows-no-0 : (rs : List Row) (b : ℕ) → all (λ r. all is_group r.groups) rs ≡ true → grouped_in rs b 0 ≡ false
unfolding grouped_in mem is_group
rows-no-0 rs b range = flat (grouped_in rs b 0) (λ t.
    let r = all_any (λ r. all is_group r.groups) (λ r. eqb (app_number r) b && mem 0 r.groups) rs range t in
    let f = all_any is_group (eqb 0) r.0.groups r.1 (and_right (eqb (app_number r.0) b) _ r.2) in
    let zero : 0 ≡ f.0 = eqb-true 0 f.0 f.2 in
    let in-range : is_group 0 ≡ true = rw (← zero) at f.1 in
    false≢true in-range)

-- ---- what gives a grant is a grant
is-grant : (a p : ℕ) (x : Action) → gives_grant a p x ≡ true → x ≡ on_grants (grant a p)
unfolding gives_grant
is-grant a p (on_apps z) e = absurd (false≢true e)
is-grant a p (on_grants (grant b q)) e =
    let same-app : b ≡ a = eqb-true b a (and_left _ (eqb q p) e) in
    let same : q ≡ p = eqb-true q p (and_right (eqb b a) _ e) in
    cc
is-grant a p (on_grants (revoke b q)) e = absurd (false≢true e)
is-grant a p (on_grants (grant_group b q)) e = absurd (false≢true e)
is-grant a p (on_grants (revoke_group b q)) e = absurd (false≢true e)
is-grant a p (on_runs z) e = absurd (false≢true e)
is-grant a p (write q n u x) e = absurd (false≢true e)
is-grant a p (on_loans z) e = absurd (false≢true e)
is-grant a p (query z) e = absurd (false≢true e)

since-grant : (h : List Past) (a p : ℕ) → log_granted h a p ≡ true → GrantedSince h a p
since-grant h a p there =
    let l = granted-since h a p there in
    let same : l.given.action ≡ on_grants (grant a p) = is-grant a p l.given.action l.gave in
    record {
      newer = l.newer;
      value = l.given.value;
      older = l.older;
      split = l.split
          ∙ ap (λ (x : Action). l.newer ++ (record { action = x; value = l.given.value } ∷ l.older)) same;
      unended = subst
          (λ (x : Action). ended_in (ends_grant a p) l.newer
          (record { action = x; value = l.given.value } ∷ l.older) ≡ false)
          same l.unended;
    }

-- ---- holding, in a valid state and on a device
held-state : (L : Limits) (s : State) (a : App) (p : ℕ) (d : Known) → valid L s ≡ true → Ungrouped (view_of s) p d
    → holds (view_of s) a p ≡ mem p a.uses && granted_in s.rows a.number p
unfolding view_of
held-state L s a p d ok un =
    held-ungrouped (view_of s) a p d un (rows-no-0 s.rows a.number (valid→ok L s ok).rows.range)

held-device : (L : Limits) (xs : List Action) (a : App) (p : ℕ) (d : Known) → Ungrouped (view_of (device L xs)) p d
    → holds (view_of (device L xs)) a p ≡ mem p a.uses && log_granted (history (log L xs)) a.number p
held-device L xs a p d un = held-state L (device L xs) a p d (reached-valid L xs) un
    ∙ ap (λ (t : Bool). mem p a.uses && t) ((agrees L xs).granted a.number p)

-- ---- reads and writes
module _ (v : View) (p n u : ℕ) (a : App) (k : Part) (there : There v p n u a k) where
  access-done : (op : Op) (g : Ground) (w : ℕ)
      → is_done (decide (access v p n u op) (done g w)) ≡ is_ground (ground v n a k u op)
  unfolding decide ground_of missing is_some test bind map_option is_done
  access-done op g w = rw (there.provided, there.running, there.resource) (go (is_ground (ground v n a k u op)))
    where
      go : (t : Bool) → is_done (cond (not t) (refused NotPermitted) (done g w)) ≡ t
      go true = refl
      go false = refl

  read_done : (L : Limits) → is_done (answer L v (query (read p n u))) ≡ is_ground (ground v n a k u reading)
  unfolding answer refusals
  read_done L = access-done reading _ _

  write_done : (L : Limits) (x : ℕ) → is_done (answer L v (write p n u x)) ≡ is_ground (ground v n a k u writing)
  unfolding answer refusals
  write_done L x = access-done writing _ _

-- from outside, a provider that is not exported has only loans for grounds
outside : (v : View) (n : ℕ) (a : App) (k : Part) (u : ℕ) (op : Op) → is_exported k.component ≡ false
    → eqb a.number k.app ≡ false → is_ground (ground v n a k u op) ≡ is_lent v n a k u op
outside v n a k u op hidden other = ground-exactly v n a k u op
    ∙ rw (right-exactly v n a k u op, hidden, other)

-- what is lent is a ground
lent-ground : (v : View) (n : ℕ) (a : App) (k : Part) (u : ℕ) (op : Op) → is_lent v n a k u op ≡ true
    → is_ground (ground v n a k u op) ≡ true
lent-ground v n a k u op lent = ground-exactly v n a k u op ∙ rw lent (or-true (is_ground (right_ground v a k op)))

-- ---- a withdraw
withdraw-lent : (s : State) (o p n u : ℕ) (g : Ground) (w : ℕ) (r : Receiver) (q y : ℕ) (op : Op)
    → lent_in (after s (on_loans (withdraw o p n u)) (done g w)).loans r q y op
    ≡ not ((eqb q p && eqb y u) && carries op o) && lent_in s.loans r q y op
unfolding after next loans_after is_on
withdraw-lent s o p n u g w r q y op =
    lent-reduced (λ x op. not (is_on p u x && carries op o)) s.loans r q y op
    (not ((eqb q p && eqb y u) && carries op o)) (λ x a. rw (a.provider, a.uri))

-- ---- after an action on grants
module _ (s : State) (z : GrantAction) where
  same-loans : (b : Answer) → (after s (on_grants z) b).loans ≡ s.loans
  unfolding after next loans_after
  same-loans (Err n) = refl
  same-loans (Ok d) = refl

  same-lent : (b : Answer) (n : ℕ) (a : App) (k : Part) (u : ℕ) (op : Op)
      → is_lent (view_of (after s (on_grants z) b)) n a k u op ≡ is_lent (view_of s) n a k u op
  unfolding view_of
  same-lent b n a k u op = rw (same-loans b)

  still-there : (b : Answer) (p n u : ℕ) (a : App) (k : Part) → There (view_of s) p n u a k
      → There (view_of (after s (on_grants z) b)) p n u a k
  unfolding after next view_of provider running_app parts_after instances_after resources_after installed_after
  still-there (Err m) p n u a k there = there
  still-there (Ok d) p n u a k there = record {
    provided = there.provided;
    running = rw (apps-after s.definitions s.rows (on_grants z)) there.running;
    resource = there.resource;
  }

-- ---- lend and withdraw: no operation asked for lacks its ground
not-lacking : (o : ℕ) (grounds : Op → Option Ground) (op : Op) → lacking o grounds ≡ false → carries op o ≡ true
    → is_some (grounds op) ≡ true → test (grounds op) is_ground ≡ true
unfolding lacking is_some test
not-lacking o grounds op fine asked there = go (grounds op) there (unless op asked)
  where
    lacks : Op → Bool
    lacks op = carries op o && test (grounds op) (λ g. not (is_ground g))

    unless : (op : Op) → carries op o ≡ true → test (grounds op) (λ g. not (is_ground g)) ≡ false
    unless reading asked = rw asked at (or-false_l (lacks reading) (lacks writing) fine)
    unless writing asked = rw asked at (or-false_r (lacks reading) (lacks writing) fine)

    go : (o : Option Ground) → is_some o ≡ true → test o (λ g. not (is_ground g)) ≡ false → test o is_ground ≡ true
    go none there fine = there
    go (some g) there fine = not-false (is_ground g) fine

both-there : {A B C : Type 0} (f : A → B → C) (o : Option A) (q : Option B) → missing o ≡ false → missing q ≡ false
    → is_some (bind o λ x. map_option (f x) q) ≡ true
unfolding missing is_some bind map_option
both-there f none q e h = absurd (true≢false e)
both-there f (some x) none e h = absurd (true≢false h)
both-there f (some x) (some y) e h = refl

lend-ground : (L : Limits) (v : View) (o p n u : ℕ) (r : Receiver) (g : Ground) (w : ℕ)
    → answer L v (on_loans (lend o p n u r)) ≡ done g w → (op : Op) → carries op o ≡ true
    → test (ground_of v p n u op) is_ground ≡ true
unfolding refusals condition ground_of
lend-ground L v o p n u r g w e op asked =
    let c = clear L v (on_loans (lend o p n u r)) g w e in
    not-lacking o (ground_of v p n u) op
    (or-false_r (test (provider v p) (λ k. not (is_sharing k.component))) _ (c NotPermitted)) asked
    (both-there (λ k a. ground v n a k u op) (provider v p) (running_app v n) (c NoSuchComponent)
    (or-false_l (missing (running_app v n)) _ (c NoSuchInstance)))

withdraw-right : (L : Limits) (v : View) (o p n u : ℕ) (g : Ground) (w : ℕ)
    → answer L v (on_loans (withdraw o p n u)) ≡ done g w → (op : Op) → carries op o ≡ true
    → test (right_of v p n op) is_ground ≡ true
unfolding refusals condition right_of
withdraw-right L v o p n u g w e op asked =
    let c = clear L v (on_loans (withdraw o p n u)) g w e in
    not-lacking o (right_of v p n) op (c NotPermitted) asked
    (both-there (λ k a. right_ground v a k op) (provider v p) (running_app v n) (c NoSuchComponent) (c NoSuchInstance))

-- ---- all of them
pub secure : (L : Limits) → Secure L
secure L = record {
  only_granted = λ xs a p d un held. since-grant (history (log L xs)) a.number p
      (and_right (mem p a.uses) _ (sym (held-device L xs a p d un) ∙ held));
  only_by_grant = λ s a p d ok un held. and_right (mem p a.uses) _ (sym (held-state L s a p d ok un) ∙ held);
  only_anew = λ xs a p d un since. held-device L xs a p d un
      ∙ rw (grant-ended (history (log L xs)) a.number p since) (and-false (mem p a.uses));
  read_lent = λ v p n u a k there hidden other.
      read_done v p n u a k there L ∙ outside v n a k u reading hidden other;
  written_lent = λ v p n u x a k there hidden other.
      write_done v p n u a k there L x ∙ outside v n a k u writing hidden other;
  withdrawn = λ s o p n u g w r op asked.
      withdraw-lent s o p n u g w r p u op ∙ rw (eqb_same p, eqb_same u, asked);
  not_withdrawn = λ s o p n u g w r q y op rest. withdraw-lent s o p n u g w r q y op ∙ rw rest;
  not_revoked = same-loans;
  served_read = λ s z b p n u a k there lent.
      read_done (view_of (after s (on_grants z) b)) p n u a k (still-there s z b p n u a k there) L
      ∙ lent-ground (view_of (after s (on_grants z) b)) n a k u reading (same-lent s z b n a k u reading ∙ lent);
  served_write = λ s z b p n u x a k there lent.
      write_done (view_of (after s (on_grants z) b)) p n u a k (still-there s z b p n u a k there) L x
      ∙ lent-ground (view_of (after s (on_grants z) b)) n a k u writing (same-lent s z b n a k u writing ∙ lent);
  lent_own = lend-ground L;
  withdrawn_own = withdraw-right L;
}
