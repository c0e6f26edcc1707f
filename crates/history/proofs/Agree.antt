-- A state and the done actions that led to it agree: question by question, and in every count whatever comes later.
-- The fresh device agrees with no actions, every done action keeps it, and so the two views of every run are one.
use Rattle.std.specs.Prelude.{ℕ, ◌+◌, ◌≡◌, refl, Bool, ◌&&◌, ◌||◌, List, [], ◌∷◌, map, eqb, Result}
use Rattle.std.proofs.Common.{sym, ◌∙◌}
use Rattle.std.proofs.Math.Path.{ap, fun_ext}
use Rattle.std.proofs.Math.Bool.{true, false, not}
use Rattle.std.proofs.lemmas.Bool.{false≢true}
use Rattle.std.proofs.Math.ListN.{length}
use Rattle.rules.specs.declared.Loan.{Loan}
use Rattle.rules.specs.declared.Ground.{Ground}
use Rattle.rules.specs.Lists.{any, keep, find, bind, map_option}
use Rattle.rules.specs.ListsLaws.{keep-mem, length-map, all-mono, and_left, and-true, or-true}
use Rattle.rules.specs.Limits.{Limits}
use Rattle.rules.specs.Action.{Receiver, Op, reading, writing, Action}
use Rattle.rules.specs.Answer.{Answer, done, answer}
use Rattle.rules.specs.DoneLaws.{lends_some_lem}
use Rattle.state.specs.Tables.{State, fresh, apps_of, app_at, part_at, defined_in, granted_in, grouped_in, run_in}
use Rattle.state.specs.Tables.{value_in}
use Rattle.state.specs.Tables.{lent_in, view_of}
use Rattle.state.specs.Effects.{loans_after, next, after, device}
use Rattle.state.proofs.LookupLaws.{apps-after}
use Rattle.state.specs.Valid.{is_installed, is_live}
use Rattle.state.specs.Ok.{Ok, valid→ok}
use Rattle.state.proofs.Keeps.{reached-valid}
use Rattle.history.specs.Log.{Past, counted, history, log_app, log_part, log_defined, log_runs, log_granted}
use Rattle.history.specs.Log.{log_grouped, lent_by, log_lent, log_value, total, uninstalls, installed, log_count}
use Rattle.history.specs.Log.{stops, started, log_running, Pair, lends, lent_still, lasting, log_loans, view_of_log}
use Rattle.history.specs.Log.{log}
use Rattle.history.proofs.AgreeRuns.{runs-step}
use Rattle.history.proofs.AgreeApps.{app-step, part_step, defined-step}
use Rattle.history.proofs.AgreeGrants.{granted-step, grouped-step}
use Rattle.history.proofs.AgreeValues.{value-step}
use Rattle.history.proofs.AgreeLoans.{lent-step}
use Rattle.history.proofs.AgreePairs.{of_kind, pair_of, some_in, Fine, pairs-stay}
use Rattle.history.proofs.AgreeCounts.{left, left-whole, left_resources, resources-whole, past, apps-count}
use Rattle.history.proofs.AgreeCounts.{components-count, running-count, resources-count}
use Rattle.history.proofs.AgreeLent.{later, left_pairs, loans-count, lent-before}

pub record Agrees (s : State) (h : List Past) : Type 0 where
  pub app : (n : ℕ) → app_at (apps_of s.rows) n ≡ log_app h n
  pub part : (c : ℕ) → part_at s.parts c ≡ log_part h c
  pub defined : (p : ℕ) → defined_in (apps_of s.rows) s.definitions p ≡ log_defined h p
  pub runs : (n : ℕ) → run_in s.instances n ≡ log_runs h n
  pub granted : (a p : ℕ) → granted_in s.rows a p ≡ log_granted h a p
  pub grouped : (a g : ℕ) → grouped_in s.rows a g ≡ log_grouped h a g
  pub lent : (r : Receiver) (p u : ℕ) (op : Op) → lent_in s.loans r p u op ≡ log_lent h r p u op
  pub value : (p u : ℕ) → value_in s.resources p u ≡ log_value h p u
  pub apps : (newer : List Past) → left uninstalls (λ a. a.number) newer (apps_of s.rows)
      ≡ total (λ l e. installed (λ m. 1) l e.action) newer h
  pub components : (newer : List Past) → left uninstalls (λ k. k.app) newer s.parts
      ≡ total (λ l e. installed (λ m. length m.components) l e.action) newer h
  pub resources : (newer : List Past) → left_resources s.parts newer s.resources
      ≡ total (λ l e. installed (λ m. length m.resources) l e.action) newer h
  pub running : (newer : List Past) → left stops (λ i. i.number) newer s.instances
      ≡ total (λ l e. started l e.action e.value) newer h
  pub loans : (still : Pair → Bool) (newer : List Past)
      → ((k : Pair) → still k && not (later newer k) ≡ true → lent_still h k ≡ true)
      → left_pairs still newer s.loans ≡ total (λ l e. lasting still l e.action) newer h

begin : Agrees fresh []
unfolding fresh log_app log_part log_defined log_runs log_granted log_grouped log_lent log_value total app_at part_at
    defined_in run_in granted_in grouped_in lent_in value_in find bind map_option
begin =
    record {
      app = λ n. refl;
      part = λ c. refl;
      defined = λ p. refl;
      runs = λ n. refl;
      granted = λ a p. refl;
      grouped = λ a g. refl;
      lent = λ r p u op. refl;
      value = λ p u. refl;
      apps = λ newer. refl;
      components = λ newer. refl;
      resources = λ newer. refl;
      running = λ newer. refl;
      loans = λ still newer f. refl;
    }

fine : (L : Limits) (s : State) → Ok L s → Fine s.loans
fine L s ok = record {
  kinds = all-mono (is_live s) of_kind kind s.loans ok.loans.live;
  operations = ok.loans.operations;
  pairs = ok.loans.pairs;
}
  where
    weaker : (a b c d : Bool) → (a && b) || (c && d) ≡ true → a || c ≡ true
    weaker true b c d e = refl
    weaker false b true d e = refl
    weaker false b false d e = e

    kind : (x : Loan) → is_live s x ≡ true → of_kind x ≡ true
    kind x e = weaker (eqb x.kind 1) (any (λ i. eqb i.number x.receiver) s.instances) (eqb x.kind 2)
        (is_installed s.rows x.receiver) e

module _ (L : Limits) (s : State) (h : List Past) (ok : Ok L s) (a : Agrees s h) (x : Action) (g : Ground) (v : ℕ)
    (e : answer L (view_of s) x ≡ done g v) where
  lent-next : (r : Receiver) (p u : ℕ) (op : Op)
      → lent_in (loans_after s.parts s.loans x) r p u op ≡ lent_by (log_part h p) x r p u op (log_lent h r p u op)
  lent-next r p u op =
      lent-step s.parts ok.tables.parts s.loans x r p u op ∙ rw (a.lent r p u op, a.part p)

  loans-next : (still : Pair → Bool) (newer : List Past)
      → ((k : Pair) → still k && not (later newer k) ≡ true → lent_still (past newer v x ∷ h) k ≡ true)
      → left_pairs still newer (loans_after s.parts s.loans x)
      ≡ lasting still newer x + total (λ l e. lasting still l e.action) (past newer v x ∷ newer) h
  unfolding lent_still log_lent some_in
  loans-next still newer f =
      loans-count still newer v s.parts s.loans x (lends_some_lem L (view_of s) x g v e) (fine L s ok)
      (λ k p. rw (
        lent-next k.receiver k.provider k.uri reading,
        lent-next k.receiver k.provider k.uri writing,
      ) (f k p))
      ∙ ap (λ (n : ℕ). lasting still newer x + n) (a.loans still (past newer v x ∷ newer) before)
    where
      split : (s t r : Bool) → s && not (t || r) ≡ true → (t ≡ false) × (s && not r ≡ true)
      split true false r e = (refl, e)
      split true true r e = absurd (false≢true e)
      split false t r e = absurd (false≢true e)

      now : Pair → Op → Bool → Bool
      now k op was = lent_by (log_part h k.provider) x k.receiver k.provider k.uri op was

      either : (k : Pair) → lends k x ≡ false → (s t : Bool) → now k reading s || now k writing t ≡ true → s || t ≡ true
      either k n s t q = pick (now k reading s) refl q
        where
          pick : (b : Bool) → now k reading s ≡ b → b || now k writing t ≡ true → s || t ≡ true
          pick true r q = rw (lent-before (log_part h k.provider) x k reading s n r)
          pick false r q = rw (lent-before (log_part h k.provider) x k writing t n q) (or-true s)

      before : (k : Pair) → still k && not (lends k x || later newer k) ≡ true → lent_still h k ≡ true
      before k q =
          let s = split (still k) (lends k x) (later newer k) q in
          either k s.0 (log_lent h k.receiver k.provider k.uri reading)
          (log_lent h k.receiver k.provider k.uri writing) (f k s.1)

  step : Agrees (next s x v) (record { action = x; value = v } ∷ h)
  unfolding next log_app log_part log_defined log_runs log_granted log_grouped log_lent log_value total
  step =
      record {
        app = λ n. app-step L s x g v e n ∙ rw (a.app n);
        part = λ c. part_step L s x g v e ok c ∙ rw (a.part c);
        defined = λ p. defined-step L s x g v e ok p ∙ rw (a.defined p);
        runs = λ n. runs-step L s x g v e n ∙ rw (a.runs n);
        granted = λ b p. granted-step L s x g v e ok b p ∙ rw (a.granted b p, a.defined p);
        grouped = λ b p. grouped-step L s x g v e b p ∙ rw (a.grouped b p);
        lent = lent-next;
        value = λ p u. value-step L s x g v e ok p u ∙ rw (a.value p u, a.part p);
        apps = λ newer. ap (left uninstalls (λ a. a.number) newer) (apps-after s.definitions s.rows x)
            ∙ apps-count newer v (apps_of s.rows) x
            ∙ ap (λ (n : ℕ). installed (λ m. 1) newer x + n) (a.apps (past newer v x ∷ newer));
        components = λ newer. components-count newer v s.parts x
            ∙ ap (λ (n : ℕ). installed (λ m. length m.components) newer x + n)
            (a.components (past newer v x ∷ newer));
        resources = λ newer. resources-count L s newer x g v e ok
            ∙ ap (λ (n : ℕ). installed (λ m. length m.resources) newer x + n)
            (a.resources (past newer v x ∷ newer));
        running = λ newer. running-count newer v s.instances x
            ∙ ap (λ (n : ℕ). started newer x v + n) (a.running (past newer v x ∷ newer));
        loans = loans-next;
      }

pub agrees : (L : Limits) (xs : List Action) → Agrees (device L xs) (history (log L xs))
unfolding device log history counted after
agrees L [] = begin
agrees L (x ∷ xs) = go (answer L (view_of (device L xs)) x) refl (agrees L xs)
  where
    go : (r : Answer) → answer L (view_of (device L xs)) x ≡ r → Agrees (device L xs) (history (log L xs))
        → Agrees (after (device L xs) x r) (counted x r (history (log L xs)))
    go (Result.Err n) e a = a
    go (Result.Ok d) e a =
        step L (device L xs) (history (log L xs)) (valid→ok L (device L xs) (reached-valid L xs)) a x d.ground d.value e

-- one path between the two views
pub same-views : (L : Limits) (s : State) (h : List Past) → Ok L s → Agrees s h → view_of s ≡ view_of_log h
unfolding view_of view_of_log log_count log_running log_loans
same-views L s h ok a = λ i. record {
  app = λ n. a.app n i;
  part = λ c. a.part c i;
  defined = λ p. a.defined p i;
  runs = λ n. a.runs n i;
  granted = λ b p. a.granted b p i;
  grouped = λ b p. a.grouped b p i;
  lent = λ r p u op. a.lent r p u op i;
  value = λ p u. a.value p u i;
  apps = (sym (length-map (λ r. r.app) s.rows)
      ∙ sym (left-whole uninstalls (λ a. a.number) (apps_of s.rows)) ∙ a.apps []) i;
  components = (sym (left-whole uninstalls (λ k. k.app) s.parts) ∙ a.components []) i;
  resources = (sym (resources-whole s.parts s.resources ok.tables.providers) ∙ a.resources []) i;
  running = (sym (left-whole stops (λ i. i.number) s.instances) ∙ a.running []) i;
  loans = (whole ∙ a.loans (lent_still h) [] (λ k e. and_left (lent_still h k) _ e)) i;
}
  where
    lent-here : some_in s.loans ≡ lent_still h
    lent-here = fun_ext λ k. unfold lent_still some_in in rw (
      a.lent k.receiver k.provider k.uri reading,
      a.lent k.receiver k.provider k.uri writing,
    )

    whole : length s.loans ≡ left_pairs (lent_still h) [] s.loans
    whole = sym (length-map pair_of s.loans) ∙ ap length (sym (pairs-stay s.loans (fine L s ok))
        ∙ ap (λ (f : Pair → Bool). keep f (map pair_of s.loans)) lent-here)
        ∙ ap length (keep-mem (lent_still h) (λ k. lent_still h k && not (later [] k)) (map pair_of s.loans)
        (λ k _. sym (and-true (lent_still h k))))
