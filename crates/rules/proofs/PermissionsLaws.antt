-- An app holds a permission exactly as document 01, "Permissions", says it: the order in which `hold` looks for a
-- reason does not matter.
use Rattle.std.specs.Prelude.{ℕ, ◌≡◌, refl, Bool, true, false, not, ◌&&◌, ◌||◌, cond, eqb}
use Rattle.std.proofs.Common.{ap, ◌∙◌, eqb-true}
use Rattle.std.proofs.Math.Option.{some}
use Rattle.rules.specs.declared.Known.{Known}
use Rattle.rules.specs.declared.Hold.TheVariants.{Normal, Granted, ByGroup, BySigner, ByImage, NotListed}
use Rattle.rules.specs.declared.Hold.TheVariants.{NotGranted, SignerDiffers}
use Rattle.rules.specs.Lists.{mem, test}
use Rattle.rules.specs.ListsLaws.{or-false}
use Rattle.rules.specs.View.{App, View}
use Rattle.rules.specs.Permissions.{known, normal, dangerous, signature, signature_or_system, hold, is_held, holds}

-- the level is normal; or dangerous, and the permission or its group was granted; or signature or signature/system, and
-- the signer is the definer's; or signature/system, and the app is an image app
abbrev pub by_level : View → App → ℕ → Known → Bool
by_level v a p k =
    normal k
    || ((dangerous k && (v.granted a.number p || v.grouped a.number k.group))
    || (((signature k || signature_or_system k) && eqb a.signer k.signer)
    || (signature_or_system k && a.image)))

held-exactly : (v : View) (a : App) (p : ℕ) (k : Known)
    → is_held (hold v a p k) ≡ mem p a.uses && by_level v a p k
unfolding hold
held-exactly v a p k = by-danger (dangerous k) refl
  where
    granted : (m g r : Bool) → is_held (cond (not m) NotListed (cond g Granted (cond r ByGroup NotGranted)))
        ≡ m && ((g || r) || false)
    granted true true r = refl
    granted true false true = refl
    granted true false false = refl
    granted false g r = refl

    others : (m n s y q i : Bool)
        → is_held (cond (not m) NotListed (cond n Normal
        (cond ((s || y) && q) BySigner (cond (y && i) ByImage SignerDiffers))))
        ≡ m && (n || (((s || y) && q) || (y && i)))
    others false n s y q i = refl
    others true true s y q i = refl
    others true false true y true i = refl
    others true false true true false true = refl
    others true false true true false false = refl
    others true false true false false i = refl
    others true false false true true i = refl
    others true false false true false true = refl
    others true false false true false false = refl
    others true false false false q i = refl

    by-danger : (t : Bool) → dangerous k ≡ t → is_held (hold v a p k) ≡ mem p a.uses && by_level v a p k
    by-danger true e = let one : k.level ≡ 1 = eqb-true k.level 1 e in
        rw one (granted (mem p a.uses) (v.granted a.number p) (v.grouped a.number k.group))
    by-danger false e = rw e
        (others (mem p a.uses) (normal k) (signature k) (signature_or_system k) (eqb a.signer k.signer)
        a.image)

-- the permission is defined, the app lists it, and its level allows it
pub holds-exactly : (v : View) (a : App) (p : ℕ)
    → holds v a p ≡ test (known v p) (λ k. mem p a.uses && by_level v a p k)
unfolding holds
holds-exactly v a p = ap (λ (f : Known → Bool). test (known v p) f) (λ i k. held-exactly v a p k i)

-- a dangerous one is held exactly if it is listed, and it or its group was granted
pub holds-dangerous : (v : View) (a : App) (p : ℕ) (k : Known) → known v p ≡ some k → dangerous k ≡ true
    → holds v a p ≡ mem p a.uses && (v.granted a.number p || v.grouped a.number k.group)
unfolding test
holds-dangerous v a p k e h =
    let one : k.level ≡ 1 = eqb-true k.level 1 h in
    holds-exactly v a p ∙ rw (e, one) (ap (λ (t : Bool). mem p a.uses && t) (or-false _))
