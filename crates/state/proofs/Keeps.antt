-- Every accepted action keeps the state valid; the fresh device is valid; so every device that is reached is.
use Rattle.std.specs.Prelude.{ℕ, ◌≡◌, refl, true, List, [], ◌∷◌, Result}
use Rattle.std.proofs.Math.Dec.{leb-zero}
use Rattle.rules.specs.declared.Ground.{Ground}
use Rattle.rules.specs.Lists.{distinct}
use Rattle.rules.specs.Limits.{Limits}
use Rattle.rules.specs.Action.{Action}
use Rattle.rules.specs.Answer.{Answer, done, answer}
use Rattle.state.specs.Tables.{State, fresh, view_of}
use Rattle.state.specs.Effects.{next, after, device}
use Rattle.state.specs.Valid.{tests, every, valid}
use Rattle.state.specs.Ok.{Ok, valid→ok, ok→valid}
use Rattle.state.proofs.KeepsRows.{rows_ok}
use Rattle.state.proofs.KeepsTables.{tables-ok}
use Rattle.state.proofs.KeepsInstances.{instances-ok}
use Rattle.state.proofs.KeepsLoans.{loans-ok}
use Rattle.state.proofs.KeepsLimits.{limits-ok}

keeps-ok : (L : Limits) (s : State) (x : Action) (g : Ground) (v : ℕ) → Ok L s → answer L (view_of s) x ≡ done g v
    → Ok L (next s x v)
unfolding next
keeps-ok L s x g v ok e =
    let instances = instances-ok L s ok.tables.parts ok.instances x g v e in
    record {
      rows = rows_ok L s x g v e ok.rows;
      tables = tables-ok L s x g v e ok.rows.apps ok.tables;
      instances = instances;
      loans = loans-ok L s x g v e ok.loans;
      limits = limits-ok L s ok.limits g v x e ok.loans.operations instances;
    }

pub keeps : (L : Limits) (s : State) (x : Action) (g : Ground) (v : ℕ) → valid L s ≡ true
    → answer L (view_of s) x ≡ done g v → valid L (next s x v) ≡ true
keeps L s x g v h e = ok→valid L (next s x v) (keeps-ok L s x g v (valid→ok L s h) e)

pub fresh-valid : (L : Limits) → valid L fresh ≡ true
unfolding valid tests every fresh distinct
fresh-valid L = rw (
  leb-zero L.apps,
  leb-zero L.components,
  leb-zero L.resources,
  leb-zero L.instances,
  leb-zero L.loans,
)

-- a refusal leaves the state as it was
pub answered-valid : (L : Limits) (s : State) (x : Action) → valid L s ≡ true
    → valid L (after s x (answer L (view_of s) x)) ≡ true
answered-valid L s x h = go (answer L (view_of s) x) refl
  where
    go : (r : Answer) → answer L (view_of s) x ≡ r → valid L (after s x r) ≡ true
    go (Result.Err n) e = unfold after in h
    go (Result.Ok d) e = unfold after in keeps L s x d.ground d.value h e

pub reached-valid : (L : Limits) (xs : List Action) → valid L (device L xs) ≡ true
unfolding device
reached-valid L [] = fresh-valid L
reached-valid L (x ∷ xs) = answered-valid L (device L xs) x (reached-valid L xs)
