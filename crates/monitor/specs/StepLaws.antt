-- A step from what the code has: a refusal and a question leave all as it was, and a done action leaves the tables of
-- the next state.
use Rattle.std.specs.Prelude.{ℕ, ◌≤◌, ◌≡◌, Bool, true, false, cond, eqb, leb, ltb, Ok, Err}
use Rattle.std.proofs.Math.Path.{refl, ap}
use Rattle.std.proofs.Common.{sym, ◌∙◌, arith, eqb-true, le-leb, lt-ltb}
use Rattle.std.proofs.lemmas.Bool.{false≢true}
use mathlib.Core.List.{List, [], ◌∷◌, ◌++◌, map}
use Rattle.std.proofs.Math.ListN.{length, length-append}
use Rattle.manifest.specs.Layout.{manifest_of}
use Rattle.manifest.specs.Good.{good}
use Rattle.manifest.specs.Verdict.{sections_of}
use Rattle.rules.specs.declared.Loan.{Loan}
use Rattle.rules.specs.declared.Ground.{Ground}
use Rattle.rules.specs.declared.Reason.{Reason}
use Rattle.rules.specs.declared.Reason.TheVariants.{StateNotValid}
use Rattle.rules.specs.Record.{action_of}
use Rattle.rules.specs.Answer.{Answer, done, refused}
use Rattle.rules.specs.Lists.{any, all}
use Rattle.rules.specs.ListsLaws.{and_left, and_right}
use Rattle.rules.specs.Limits.{large}
use Rattle.rules.specs.Action.{Action, on_apps, install, uninstall, on_grants, on_runs, start, stop, write, on_loans}
use Rattle.rules.specs.Action.{LoanAction, lend, Receiver, receiver_number}
use Rattle.rules.specs.Action.{query, Query}
use Rattle.rules.specs.DoneLaws.{install-good}
use Rattle.state.specs.declared.Device.{Device}
use Rattle.state.specs.Tables.{view_of, is_loan}
use Rattle.state.specs.Effects.{apps_after, definitions_after, parts_after, resources_after, instances_after}
use Rattle.state.specs.Effects.{loans_after}
use Rattle.state.specs.Effects.{next, after, loan_of, widened}
use Rattle.state.specs.Stored.{mask_of, model_of, device_of, lent_of, formed, valid_stored}
use Rattle.state.specs.Step.{inner_answer, inner_state, step_answer, step_device, step_lent}
use Rattle.state.specs.Capacity.{Fits}
use Rattle.state.specs.FormedLaws.{Sized, same-device, same-lent}
use Rattle.state.specs.Valid.{valid}
use Rattle.state.specs.Ok.{valid→ok}
use Rattle.tables.specs.declared.Change.{Change}
use Rattle.tables.specs.Held.{instances_in}
use Rattle.loans.specs.Held.{Loans}
use Rattle.loans.specs.Held.{loans_table, appended, lend_in}
use Rattle.monitor.specs.Stepped.{answer_to, stepped_to, stepped_by, stepped}
use Rattle.monitor.specs.Made.{asking, with_lent, grant_made, write_made, start_made, stop_made, uninstall_made}
use Rattle.monitor.specs.Installing.{install_made}
use Rattle.monitor.specs.MadeLaws.{next_fits, grant-made, write-made, start-made, stop-made, loans-made}
use Rattle.monitor.specs.MadeLaws.{uninstall-made}
use Rattle.monitor.specs.InstallLaws.{install-made}
use Rattle.monitor.specs.RangeLaws.{receiver-low, apps-narrow}

-- ---- what a valid device is
pub record Kept (d : Device) (lent : List Loan) : Type 0 where
  pub device : device_of (model_of d lent) ≡ d
  pub loans : lent_of 128 (model_of d lent) ≡ lent
  pub valid : valid large (model_of d lent) ≡ true

pub stored-kept : (d : Device) (lent : List Loan) → Sized d → valid_stored d lent ≡ true → Kept d lent
unfolding valid_stored
stored-kept d lent s v =
    let size = eqb-true (length lent) 128 (and_left (eqb (length lent) 128) _ v) in
    let rest = and_right (eqb (length lent) 128) _ v in
    let stored = and_left (formed d lent) _ rest in
    record {
      device = same-device d lent s stored;
      loans = ap (λ (k : ℕ). lent_of k (model_of d lent)) (sym size) ∙ same-lent d lent stored;
      valid = and_right (formed d lent) _ rest;
    }

-- the running numbers are those of the list
pub running-kept : (d : Device) (lent : List Loan) → Kept d lent
    → d.instances.running ≡ mask_of (instances_in d.instances)
unfolding device_of model_of
running-kept d lent k = sym (ap (λ (e : Device). e.instances.running) k.device)

module _ (d : Device) (lent : List Loan) where
  -- all as it was
  stays : (x : Action) (a : Answer) → Kept d lent → answer_to (model_of d lent) x ≡ a
      → after (model_of d lent) x a ≡ model_of d lent
      → record { device = d; lent = lent; answer = a } ≡ stepped_by d lent x
  unfolding stepped_by stepped_to
  stays x a k e same = rw (e, same, k.device, k.loans)

  pub refused-stays : (x : Action) (a : Answer) (n : Reason) → Kept d lent → a ≡ answer_to (model_of d lent) x
      → a ≡ refused n
      → record { device = d; lent = lent; answer = a } ≡ stepped_by d lent x
  unfolding after
  refused-stays x a n k e r = rw r (stays x (refused n) k (sym e ∙ r) refl)

  pub query-stays : (z : Query) (a : Answer) → Kept d lent → a ≡ answer_to (model_of d lent) (query z)
      → record { device = d; lent = lent; answer = a } ≡ stepped_by d lent (query z)
  unfolding after next apps_after definitions_after parts_after resources_after instances_after loans_after
  query-stays z a k e = stays (query z) a k (sym e) (same a)
    where
      same : (a : Answer) → after (model_of d lent) (query z) a ≡ model_of d lent
      same (Err n) = refl
      same (Ok d) = refl

  -- a receiver of a wider number than a table's is not there
  pub lend-stays : (o p n u : ℕ) (q : Receiver) (a : Answer) → Kept d lent
      → all (λ b. leb b.number 65535) d.apps.entries ≡ true
      → a ≡ answer_to (model_of d lent) (on_loans (lend o p n u q)) → leb (receiver_number q) 65535 ≡ false
      → record { device = d; lent = lent; answer = a } ≡ stepped_by d lent (on_loans (lend o p n u q))
  lend-stays o p n u q a k narrow f wide = go a refl
    where
      go : (r : Answer) → a ≡ r
          → record { device = d; lent = lent; answer = a } ≡ stepped_by d lent (on_loans (lend o p n u q))
      go (Err w) e = refused-stays (on_loans (lend o p n u q)) a w k f e
      go (Ok z) e =
          let low = receiver-low (model_of d lent) (valid→ok large (model_of d lent) k.valid)
          (apps-narrow d lent narrow)
          o p n u q z.ground z.value (sym f ∙ e) in
          absurd (false≢true (sym wide ∙ le-leb (receiver_number q) 65535 low))

  -- the tables of the next state
  done-steps : (x : Action) (a : Answer) (g : Ground) (v : ℕ) (e : Device) (l : List Loan)
      → a ≡ answer_to (model_of d lent) x → a ≡ done g v
      → e ≡ device_of (next (model_of d lent) x v) → l ≡ lent_of 128 (next (model_of d lent) x v)
      → record { device = e; lent = l; answer = a } ≡ stepped_by d lent x
  unfolding stepped_by stepped_to after
  done-steps x a g v e l f r p q = rw (sym f ∙ r, r, p, q)

-- ---- done actions, each with what the code makes of the tables
module _ (d : Device) (lent : List Loan) (k : Kept d lent) (a : Answer) (g : Ground) (v : ℕ) (r : a ≡ done g v) where
  fitting : (x : Action) → a ≡ answer_to (model_of d lent) x → Fits large (next (model_of d lent) x v)
  fitting x f = next_fits (model_of d lent) x g v k.valid (sym f ∙ r)

  pub grant-steps : (c : Change) (b m : ℕ) → a ≡ answer_to (model_of d lent) (on_grants (asking c b m))
      → (e : Device) → e ≡ grant_made d c b m
      → record { device = e; lent = lent; answer = a } ≡ stepped_by d lent (on_grants (asking c b m))
  unfolding next loans_after
  grant-steps c b m f e made = done-steps d lent (on_grants (asking c b m)) a g v e lent f r
      (made ∙ ap (λ (n : Device). grant_made n c b m) (sym k.device)
      ∙ grant-made (model_of d lent) v c b m (fitting (on_grants (asking c b m)) f)) (sym k.loans)

  pub write-steps : (p n u x : ℕ) → a ≡ answer_to (model_of d lent) (write p n u x) → (e : Device) → e
      ≡ write_made d p u x
      → record { device = e; lent = lent; answer = a } ≡ stepped_by d lent (write p n u x)
  unfolding next loans_after
  write-steps p n u x f e made = done-steps d lent (write p n u x) a g v e lent f r
      (made ∙ ap (λ (n : Device). write_made n p u x) (sym k.device) ∙ write-made (model_of d lent) v p n u x)
      (sym k.loans)

  pub start-steps : (c n : ℕ) → a ≡ answer_to (model_of d lent) (on_runs (start c n)) → (e : Device) → e
      ≡ start_made d c v
      → record { device = e; lent = lent; answer = a } ≡ stepped_by d lent (on_runs (start c n))
  unfolding next loans_after
  start-steps c n f e made = done-steps d lent (on_runs (start c n)) a g v e lent f r
      (made ∙ ap (λ (n : Device). start_made n c v) (sym k.device)
      ∙ start-made (model_of d lent) v c n (fitting (on_runs (start c n)) f)) (sym k.loans)

  pub installs-good : (i : Bool) (z : List ℕ) → a ≡ answer_to (model_of d lent) (on_apps (install i (manifest_of z)))
      → good (manifest_of z) ≡ true
  installs-good i z f = install-good large (view_of (model_of d lent)) g v i (manifest_of z) (sym f ∙ r)

  pub install-steps : (i : Bool) (z : List ℕ) → a ≡ answer_to (model_of d lent) (on_apps (install i (manifest_of z)))
      → (e : Device) → e ≡ install_made z i (sections_of z) d
      → record { device = e; lent = lent; answer = a } ≡ stepped_by d lent (on_apps (install i (manifest_of z)))
  unfolding next loans_after
  install-steps i z f e made =
      let x = on_apps (install i (manifest_of z)) in
      done-steps d lent x a g v e lent f r
      (made ∙ ap (install_made z i (sections_of z)) (sym k.device)
      ∙ install-made (model_of d lent) i z v (installs-good i z f) (fitting x f)) (sym k.loans)

  -- the loans that are left, in their table
  abbrev pub left : Action → Loans
  left x = loans_table (loans_after (model_of d lent).parts (model_of d lent).loans x)

  pub stop-steps : (n : ℕ) → a ≡ answer_to (model_of d lent) (on_runs (stop n)) → (t : Loans) → t
      ≡ left (on_runs (stop n))
      → (e : Device) → e ≡ stop_made d t.count n
      → record { device = e; lent = t.entries; answer = a } ≡ stepped_by d lent (on_runs (stop n))
  unfolding next
  stop-steps n f t o e made = done-steps d lent (on_runs (stop n)) a g v e t.entries f r
      (made ∙ ap (λ (u : Loans). stop_made d u.count n) o
      ∙ ap (λ (b : Device). stop_made b (left (on_runs (stop n))).count n) (sym k.device)
      ∙ stop-made (model_of d lent) v n) (ap (λ (u : Loans). u.entries) o)

  pub loans-steps : (z : LoanAction) → a ≡ answer_to (model_of d lent) (on_loans z) → (t : Loans) → t
      ≡ left (on_loans z)
      → (e : Device) → e ≡ with_lent d t.count
      → record { device = e; lent = t.entries; answer = a } ≡ stepped_by d lent (on_loans z)
  unfolding next
  loans-steps z f t o e made = done-steps d lent (on_loans z) a g v e t.entries f r
      (made ∙ ap (λ (u : Loans). with_lent d u.count) o
      ∙ ap (λ (b : Device). with_lent b (left (on_loans z)).count) (sym k.device) ∙ loans-made (model_of d lent) v z)
      (ap (λ (u : Loans). u.entries) o)

  pub uninstall-steps : (b : ℕ) → a ≡ answer_to (model_of d lent) (on_apps (uninstall b))
      → (t : Loans) → t ≡ left (on_apps (uninstall b)) → (e : Device) → e ≡ uninstall_made d t.count b
      → record { device = e; lent = t.entries; answer = a } ≡ stepped_by d lent (on_apps (uninstall b))
  unfolding next
  uninstall-steps b f t o e made = done-steps d lent (on_apps (uninstall b)) a g v e t.entries f r
      (made ∙ ap (λ (u : Loans). uninstall_made d u.count b) o
      ∙ ap (λ (n : Device). uninstall_made n (left (on_apps (uninstall b))).count b) (sym k.device)
      ∙ uninstall-made (model_of d lent) v b) (ap (λ (u : Loans). u.entries) o)

  -- a done lend has room for a new loan
  pub lend-left : (o p n u : ℕ) (q : Receiver) → a ≡ answer_to (model_of d lent) (on_loans (lend o p n u q))
      → loans_table (lend_in q p u o (model_of d lent).loans) ≡ left (on_loans (lend o p n u q))
  unfolding lend_in appended loans_after
  lend-left o p n u q f = go (any (is_loan q p u) ls) refl
    where
      ls : List Loan
      ls = (model_of d lent).loans

      one : Loan
      one = loan_of q p u o

      go : (t : Bool) → any (is_loan q p u) ls ≡ t
          → loans_table (cond t (map (widened q p u o) ls) (cond (ltb (length ls) 128) (ls ++ (one ∷ [])) ls))
          ≡ loans_table (cond t (map (widened q p u o) ls) (ls ++ (one ∷ [])))
      go true e = refl
      go false e =
          let next-loans : (next (model_of d lent) (on_loans (lend o p n u q)) v).loans ≡ ls ++ (one ∷ []) =
          unfold next loans_after in rw e in
          let fits : length (ls ++ (one ∷ [])) ≤ 128 = rw next-loans at (fitting (on_loans (lend o p n u q)) f).loans in
          let l = length-append ls (one ∷ []) in
          rw (lt-ltb (length ls) 128 (omega arith))

-- ---- the whole step
module _ (d : Device) (lent : List Loan) (action manifest : List ℕ) where
  pub stepped-valid : valid_stored d lent ≡ true
      → stepped_by d lent (action_of action manifest) ≡ stepped d lent action manifest
  unfolding stepped stepped_by stepped_to step_device step_lent step_answer inner_state inner_answer
  stepped-valid e = rw e

  pub stepped-not : valid_stored d lent ≡ false
      → record { device = d; lent = lent; answer = refused StateNotValid } ≡ stepped d lent action manifest
  unfolding stepped step_device step_lent step_answer
  stepped-not e = rw e
