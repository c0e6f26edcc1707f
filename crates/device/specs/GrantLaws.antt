-- A grant is good by the list of dangerous permissions exactly if it is by the definitions: what an app lists is at
-- most 63, and so has its place in that list.
use Rattle.std.specs.Prelude.{ℕ, zero, suc, ◌+◌, ◌≤◌, ◌<◌, ◌≡◌, Bool, ◌&&◌, eqb}
use Rattle.std.proofs.Math.Path.{refl, sym, ap}
use Rattle.std.proofs.Common.{◌∙◌, not-suc-le-zero, le_of_suc-le-suc, arith, eqb-true, leb-true}
use Rattle.std.proofs.Math.Bool.{true, false}
use mathlib.Core.List.{List, [], map}
use Rattle.std.proofs.Math.ListN.{get_or}
use Rattle.manifest.specs.declared.Resource.{Resource}
use Rattle.manifest.specs.Good.{good, good_use, uses_rise, at_most}
use Rattle.manifest.specs.GoodLaws.{good-parts, all-rising}
use Rattle.rules.specs.declared.Definition.{Definition}
use Rattle.rules.specs.declared.Part.{Part}
use Rattle.rules.specs.Lists.{all, mem, test}
use Rattle.rules.specs.ListsLaws.{and_right, all_any}
use Rattle.rules.specs.View.{App}
use Rattle.rules.specs.Permissions.{known, dangerous}
use Rattle.rules.specs.Refusals.{grantable}
use Rattle.state.specs.Tables.{Row}
use Rattle.tables.specs.Looking.{view_by}
use Rattle.device.specs.Tests.{manifest_in, numbers_from, is_dangerous, dangerous_in, good_grant_in, good_grant_by}
use Rattle.device.specs.PartLaws.{map_same}
use Rattle.device.specs.ValidLaws.{test-false}

-- ---- the list
-- what it has at a place
said_at : {B : Type 0} (f : ℕ → B) (z : B) (k n i : ℕ) → i < n → get_or (map f (numbers_from k n)) i z ≡ f (k + i)
unfolding numbers_from
said_at f z k zero i h = absurd (not-suc-le-zero h)
said_at f z k (suc n) zero h = ap f (omega arith)
said_at f z k (suc n) (suc i) h = said_at f z (suc k) n i (le_of_suc-le-suc h) ∙ ap f (omega arith)

pub number_at : (n i : ℕ) → i < n → get_or (numbers_from 0 n) i 0 ≡ i
number_at n i h =
    ap (λ (l : List ℕ). get_or l i 0) (sym (map_same (numbers_from 0 n))) ∙ said_at (λ x. x) 0 0 n i h ∙ omega arith

-- ---- the grants
-- what is listed is at most 63
pub listed-low : (p : ℕ) (uses : List ℕ) → all good_use uses ≡ true → mem p uses ≡ true → p ≤ 63
unfolding mem
listed-low p uses a e =
    let w = all_any good_use (eqb p) uses a e in
    let low = leb-true w.0 63 w.1 in
    let same = eqb-true p w.0 w.2 in
    omega arith

module _ (rs : List Row) (ds : List Definition) (a : App) (low : all good_use a.uses ≡ true) where
  same-grant : (p : ℕ) → good_grant_by (dangerous_in rs ds) a p ≡ good_grant_in rs ds a p
  unfolding grantable
  same-grant p = go (mem p a.uses) refl
    where
      go : (t : Bool) → mem p a.uses ≡ t
          → t && get_or (dangerous_in rs ds) p false ≡ test (known (view_by rs ds [] []) p) (λ k. t && dangerous k)
      go true e = said_at (is_dangerous rs ds) false 0 64 p (let h = listed-low p a.uses low e in omega arith)
          ∙ ap (is_dangerous rs ds) (omega arith)
      go false e = sym (test-false (known (view_by rs ds [] []) p))

  all_same : (l : List ℕ) → all (good_grant_by (dangerous_in rs ds) a) l ≡ all (good_grant_in rs ds a) l
  all_same l = ap (λ (f : ℕ → Bool). all f l) (λ i p. same-grant p i)

-- the grants of an app whose manifest is good
pub same-grants : (rs : List Row) (ds : List Definition) (ks : List Part) (us : List Resource) (a : App) (l : List ℕ)
    → good (manifest_in ds ks us a) ≡ true → all (good_grant_by (dangerous_in rs ds) a) l
    ≡ all (good_grant_in rs ds a) l
same-grants rs ds ks us a l g = all_same rs ds a (all-rising (λ p. p) good_use 0 a.uses
    (and_right (at_most 32 a.uses) (uses_rise 0 a.uses) (good-parts (manifest_in ds ks us a) g).uses)) l
