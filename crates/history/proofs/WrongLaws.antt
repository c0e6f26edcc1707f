-- None of the five wrong monitors meets the contracts: document 01's own tape tells the first four from the monitor of
-- the definitions, and the last line of a sheet tells its counts. Yet each of the five can be built.
use Rattle.std.specs.Prelude.{ℕ, zero, suc, ◌<◌, ◌^◌, ◌≡◌, refl, true, List, [], ◌∷◌, ◌++◌, take}
use Rattle.std.proofs.Common.{sym, ap, subst, ◌∙◌, true≢false, append_assoc, arith}
use Rattle.std.proofs.lemmas.Bool.{false≢true}
use Rattle.rules.specs.declared.Ground.TheVariants.{Nothing}
use Rattle.rules.specs.declared.Reason.TheVariants.{StateNotValid, NoSuchResource}
use Rattle.rules.specs.Answer.{Answer, done, refused}
use Rattle.rules.specs.Limits.{large}
use Rattle.state.specs.declared.Device.{Device}
use Rattle.state.specs.Tables.{fresh}
use Rattle.state.specs.Effects.{device}
use Rattle.state.specs.Stored.{device_of}
use Rattle.state.proofs.Keeps.{reached-valid}
use Rattle.state.proofs.CapacityLaws.{valid-fits}
use Rattle.history.specs.Log.{view_of_log, log_alone}
use Rattle.history.specs.Tape.{manifest_place, lengths_fit, is_tape, action_count, actions_before, actions_of}
use Rattle.history.specs.Sheet.{decimal, field, space, newline, answers_text, end_text, running_text, lent_text}
use Rattle.history.specs.Sheet.{lines_text, end_line, sheet_of, sheet, sheet_of_log}
use Rattle.history.specs.Marked.{device_lines, log_lines}
use Rattle.history.specs.Example.{example_tape}
use Rattle.history.proofs.Demand3.{counts-agree, sheets-agree}
use Rattle.history.specs.Run.{Steps, monitor_steps, Held, fresh_held, held_at, counts_text}
use Rattle.history.proofs.RunLaws.{run-held, run-answers}
use Rattle.history.specs.Security.{is_done}
use Rattle.history.specs.DecimalLaws.{same_number}
use Rattle.history.specs.Wrong.{Meets, AtEveryRecord, answer_at, RefusesEverything, DoneToEverything}
use Rattle.history.specs.Wrong.{NeverChanges, RepeatsFirst, log_view, InventsCounts, ShutOut}

-- ---- the monitor of the definitions is the only one that meets the contract
only-monitor : (m : Steps) → Meets m → m ≡ monitor_steps
unfolding monitor_steps
only-monitor m ok = λ i. record {
  answer = λ d lent action manifest. ok.answer d lent action manifest i;
  device = λ d lent action manifest. ok.device d lent action manifest i;
  lent = λ d lent action manifest. ok.lent d lent action manifest i;
}

-- ---- what it makes of document 01's tape: the first record is done and brings an app, the fourth is refused
on-example : (At : List ℕ → ℕ → Type 0) → AtEveryRecord At → (n : ℕ) → n < 4 → At example_tape n
unfolding is_tape lengths_fit manifest_place
on-example At every n h = every example_tape refl n h

first-answer : answer_at monitor_steps example_tape 0 ≡ done Nothing 0
unfolding device_lines actions_before manifest_place
first-answer = run-answers example_tape 0

fourth-answer : answer_at monitor_steps example_tape 3 ≡ refused NoSuchResource
unfolding device_lines actions_before manifest_place
fourth-answer = run-answers example_tape 3

first-app : (held_at monitor_steps example_tape fresh_held 1).device.apps.count ≡ 1
unfolding device_lines actions_before manifest_place device_of
first-app = ap (λ (h : Held). h.device.apps.count) (run-held example_tape 1)

-- ---- the last line tells its counts
-- each number stands after a space, and before text that is always the same
parted : (x : List ℕ) (a r l : ℕ) → x ++ counts_text a r l
    ≡ (((x ++ take 8 end_text) ++ (space ∷ (decimal a ++ (space ∷ take 7 running_text))))
    ++ (space ∷ (decimal r ++ (space ∷ take 4 lent_text)))) ++ (space ∷ (decimal l ++ (newline ∷ [])))
unfolding counts_text
parted x a r l = simp append_assoc

same-counts : (x y : List ℕ) (a r l b q k : ℕ) → b < 10 ^ 19 → q < 10 ^ 19 → k < 10 ^ 19
    → x ++ counts_text a r l ≡ y ++ counts_text b q k → (a ≡ b) × (r ≡ q) × (l ≡ k)
same-counts x y a r l b q k few_apps few_running few_lent e =
    let lent = same_number _ _ (newline ∷ []) l k few_lent (sym (parted x a r l) ∙ e ∙ parted y b q k) in
    let running = same_number _ _ (space ∷ take 4 lent_text) r q few_running lent.0 in
    let apps = same_number (x ++ take 8 end_text) (y ++ take 8 end_text) (space ∷ take 7 running_text) a b few_apps
    running.0 in
    (apps.1, running.1, lent.1)

module _ (s : List ℕ) (t : is_tape s ≡ true) where
  -- the sheet up to the last line
  abbrev lines : List ℕ
  lines = answers_text ++ (field (action_count s) newline ++ lines_text s (log_alone large (actions_of s)))

  sheet-ends : sheet s ≡ lines ++ counts_text (log_view s).apps (log_view s).running (log_view s).loans
  unfolding sheet_of_log sheet_of end_line counts_text
  sheet-ends = sheets-agree s ∙ rw t (simp append_assoc)

  counts-told : (x : List ℕ) (a r l : ℕ) → sheet s ≡ x ++ counts_text a r l
      → (a ≡ (log_view s).apps) × (r ≡ (log_view s).running) × (l ≡ (log_view s).loans)
  unfolding view_of_log
  counts-told x a r l e =
      let fits = valid-fits large (device large (actions_of s)) (reached-valid large (actions_of s)) in
      let agree = counts-agree large (actions_of s) in
      same-counts x lines a r l (log_view s).apps (log_view s).running (log_view s).loans
      (omega arith) (omega arith) (omega arith) (sym e ∙ sheet-ends)

-- ---- so none of the five meets the contracts
pub shut_out : ShutOut
unfolding is_done fresh device_of
shut_out =
    record {
      refuses = λ m ok wrong.
          let never = on-example _ (subst RefusesEverything (only-monitor m ok) wrong) 0 (omega arith) in
          true≢false (sym (ap is_done first-answer) ∙ never);
      done = λ m ok wrong.
          let always = on-example _ (subst DoneToEverything (only-monitor m ok) wrong) 3 (omega arith) in
          false≢true (sym (ap is_done fourth-answer) ∙ always);
      still = λ m ok wrong.
          let same = on-example _ (subst NeverChanges (only-monitor m ok) wrong) 0 (omega arith) in
          let none : ◌≡◌ {A = ℕ} 1 0 = sym first-app ∙ ap (λ (d : Device). d.apps.count) same in
          omega arith;
      repeats = λ m ok wrong.
          let same = on-example _ (subst RepeatsFirst (only-monitor m ok) wrong) 3 (omega arith) in
          false≢true (ap is_done (sym fourth-answer ∙ same ∙ first-answer));
      counts = λ sheets ok wrong.
          let told = counts-told wrong.tape wrong.whole wrong.front wrong.apps wrong.running
          wrong.lent (sym (ok wrong.tape) ∙ wrong.shown) in
          wrong.invented told.0 told.1 told.2;
    }

-- ---- each of the five can be built, and so can one that meets the contract
-- one answer to everything, and nothing changed
abbrev constant : Answer → Steps
constant a =
    record {
      answer = λ d lent action manifest. a;
      device = λ d lent action manifest. d;
      lent = λ d lent action manifest. lent;
    }

stays : (a : Answer) (s : List ℕ) (n : ℕ) → held_at (constant a) s fresh_held n ≡ fresh_held
unfolding held_at
stays a s zero = refl
stays a s (suc n) = stays a s n

pub record Possible : Type 0 where
  pub meets : (m : Steps) × Meets m
  pub refuses : (m : Steps) × RefusesEverything m
  pub done : (m : Steps) × DoneToEverything m
  pub still : (m : Steps) × NeverChanges m
  pub repeats : (m : Steps) × RepeatsFirst m
  pub counts : (sheets : List ℕ → List ℕ) × InventsCounts sheets

pub possible : Possible
unfolding monitor_steps is_done log_lines is_tape lengths_fit manifest_place actions_before
possible =
    record {
      meets = (
        monitor_steps,
        record {
          answer = λ d lent action manifest. refl;
          device = λ d lent action manifest. refl;
          lent = λ d lent action manifest. refl;
        },
      );
      refuses = (constant (refused StateNotValid), λ s t n h. refl);
      done = (constant (done Nothing 0), λ s t n h. refl);
      still = (
        constant (refused StateNotValid),
        λ s t n h. ap (λ (h : Held). h.device) (stays (refused StateNotValid) s (suc n)),
      );
      repeats = (constant (refused StateNotValid), λ s t n h. refl);
      -- the log of document 01's tape tells of one app
      counts = (
        λ s. counts_text 0 0 0,
        record {
          tape = example_tape;
          whole = refl;
          front = [];
          apps = 0;
          running = 0;
          lent = 0;
          shown = refl;
          invented = λ apps running lent. let none : ◌≡◌ {A = ℕ} 0 1 = apps in omega arith;
        },
      );
    }
