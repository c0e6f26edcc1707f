-- The log rule of running instances agrees with the table of instances, action by action.
use Rattle.std.specs.Prelude.{ℕ, ◌≡◌, refl, Bool, true, false, not, cond, List, [], ◌∷◌, ◌++◌, eqb}
use Rattle.std.proofs.Common.{ap, ◌∙◌}
use Rattle.std.proofs.Math.Option.{Option, none, some}
use Rattle.rules.specs.declared.Instance.{Instance}
use Rattle.rules.specs.declared.Ground.{Ground}
use Rattle.rules.specs.Lists.{keep, find, map_option}
use Rattle.rules.specs.Limits.{Limits}
use Rattle.rules.specs.Action.{start, stop, Action, on_apps, on_grants, on_runs, write, on_loans, query}
use Rattle.rules.specs.Answer.{done, answer}
use Rattle.rules.specs.DoneLaws.{start-free}
use Rattle.state.specs.Tables.{State, run_in, view_of}
use Rattle.state.specs.Effects.{instances_after}
use Rattle.history.specs.Log.{run_by}
use Rattle.history.proofs.SearchLaws.{find-new, find-gone}

started : (is : List Instance) (c v n : ℕ) → run_in is v ≡ none
    → run_in (is ++ (record { number = v; component = c } ∷ [])) n ≡ cond (eqb v n) (some c) (run_in is n)
unfolding run_in map_option
started is c v n free = ap (map_option (λ i. i.component))
    (find-new (λ i. i.number) is (record { number = v; component = c }) n
    (unfound (find (λ i. eqb i.number v) is) free))
    ∙ go (eqb v n)
  where
    unfound : (o : Option Instance) → map_option (λ i. i.component) o ≡ none → o ≡ none
    unfound none e = refl
    unfound (some i) e = cc

    go : (t : Bool) → map_option (λ i. i.component)
        (cond t (some (record { number = v; component = c })) (find (λ i. eqb i.number n) is))
        ≡ cond t (some c) (map_option (λ i. i.component) (find (λ i. eqb i.number n) is))
    go true = refl
    go false = refl

stopped : (is : List Instance) (k n : ℕ)
    → run_in (keep (λ i. not (eqb i.number k)) is) n ≡ cond (eqb k n) none (run_in is n)
unfolding run_in map_option
stopped is k n = ap (map_option (λ i. i.component)) (find-gone (λ i. i.number) is k n) ∙ go (eqb k n)
  where
    go : (t : Bool) → map_option (λ i. i.component) (cond t none (find (λ i. eqb i.number n) is))
        ≡ cond t none (map_option (λ i. i.component) (find (λ i. eqb i.number n) is))
    go true = refl
    go false = refl

pub runs-step : (L : Limits) (s : State) (x : Action) (g : Ground) (v : ℕ) → answer L (view_of s) x ≡ done g v → (n : ℕ)
    → run_in (instances_after s.instances x v) n ≡ run_by x v n (run_in s.instances n)
unfolding instances_after run_by view_of
runs-step L s (on_apps z) g v e n = refl
runs-step L s (on_grants z) g v e n = refl
runs-step L s (on_runs (start c k)) g v e n = started s.instances c v n (start-free L (view_of s) g v c k e)
runs-step L s (on_runs (stop k)) g v e n = stopped s.instances k n
runs-step L s (write p k u x) g v e n = refl
runs-step L s (on_loans z) g v e n = refl
runs-step L s (query z) g v e n = refl
