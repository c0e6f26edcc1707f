-- An ending of loans by which each keeps all its operations or none is a removal.
use Rattle.std.specs.Prelude.{◌≡◌, refl, Bool, true, false, ◌&&◌, cond, List, [], ◌∷◌}
use Rattle.std.proofs.Common.{sym, ap, ◌∙◌}
use Rattle.std.proofs.Math.Path.{fun_ext}
use Rattle.rules.specs.declared.Loan.{Loan}
use Rattle.rules.specs.Lists.{all, keep}
use Rattle.rules.specs.ListsLaws.{and_left, and_right, and-true, and-false}
use Rattle.rules.specs.Action.{Op, reading, writing, carries, is_operations}
use Rattle.rules.specs.ActionLaws.{same-operations, operations-if-any, carries-those}
use Rattle.state.specs.Effects.{with_operations, kept, carries_any, reduce}

keeps-all : (f : Loan → Bool) (x : Loan) → f x ≡ true → is_operations x.operations ≡ true
    → kept (λ y op. f y) x ≡ x
unfolding kept with_operations
keeps-all f x h e = ap (λ (g : Op → Bool). with_operations g x) (fun_ext each) ∙ whole
  where
    each : (op : Op) → carries op x.operations && f x ≡ carries op x.operations
    each op = rw (h, and-true)

    whole : with_operations (λ op. carries op x.operations) x ≡ x
    whole = rw (same-operations x.operations e)

keeps-none : (f : Loan → Bool) (x : Loan) → f x ≡ false → carries_any (kept (λ y op. f y) x) ≡ false
unfolding kept with_operations carries_any
keeps-none f x h = rw (
  carries-those (λ op. carries op x.operations && f x) reading,
  carries-those (λ op. carries op x.operations && f x) writing,
  h,
  and-false (carries reading x.operations),
  and-false (carries writing x.operations),
)

pub carries-some : (x : Loan) → is_operations x.operations ≡ true → carries_any x ≡ true
unfolding carries_any
carries-some x e = sym (operations-if-any (λ op. carries op x.operations))
    ∙ ap is_operations (same-operations x.operations e) ∙ e

pub reduce-keep : (f : Loan → Bool) (ls : List Loan) → all (λ x. is_operations x.operations) ls ≡ true
    → reduce (λ x op. f x) ls ≡ keep f ls
unfolding reduce
reduce-keep f [] e = refl
reduce-keep f (x ∷ ls) e = go (f x) refl (reduce-keep f ls (and_right (is_operations x.operations) _ e))
  where
    good : is_operations x.operations ≡ true
    good = and_left _ (all (λ x. is_operations x.operations) ls) e

    go : (t : Bool) → f x ≡ t → reduce (λ x op. f x) ls ≡ keep f ls
        → reduce (λ x op. f x) (x ∷ ls) ≡ cond t (x ∷ keep f ls) (keep f ls)
    go true h r = rw (keeps-all f x h good, carries-some x good, r)
    go false h r = rw (keeps-none f x h, r)
