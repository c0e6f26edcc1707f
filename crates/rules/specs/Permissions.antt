-- Which permissions are defined, and when an app holds one: document 01, "Permissions".
use Rattle.std.specs.Prelude.{ℕ, Bool, true, false, not, ◌&&◌, ◌||◌, cond, List, [], ◌∷◌, eqb}
use Rattle.std.proofs.Math.Option.{Option, none, some}
use Rattle.manifest.specs.declared.Define.{Define}
use Rattle.rules.specs.declared.Known.{Known}
use Rattle.rules.specs.declared.Hold.{Hold}
use Rattle.rules.specs.declared.Hold.TheVariants.{Normal, Granted, ByGroup, BySigner, ByImage, NotListed}
use Rattle.rules.specs.declared.Hold.TheVariants.{NotGranted, SignerDiffers}
use Rattle.rules.specs.Lists.{find, mem, test, bind, or_find}
use Rattle.rules.specs.View.{App, View}

-- a definition in force: who defines the permission, the definer's signer, and what the definition says
abbrev pub known_by : ℕ → ℕ → Define → Known
known_by definer signer d =
    record {
      definer = definer;
      signer = signer;
      level = d.level;
      group = d.group;
    }

-- the built-in permissions: number, level and group, or undefined
pub record BuiltIn : Type 0 where
  pub permission : ℕ
  pub known : Option Known

-- by the platform, which is no app, signer 1
abbrev platform : (permission level group : ℕ) → BuiltIn
platform p level group =
    record { permission = p; known = some (known_by 0 1 (record { permission = p; level = level; group = group })) }

abbrev undefined : ℕ → BuiltIn
undefined p = record { permission = p; known = none }

unfoldable pub built_ins : List BuiltIn
built_ins =
    platform 1 0 0 ∷
    platform 2 0 0 ∷
    platform 3 1 1 ∷
    platform 4 1 2 ∷
    platform 5 1 2 ∷
    platform 6 1 3 ∷
    platform 7 2 0 ∷
    platform 8 3 0 ∷
    undefined 9 ∷
    undefined 10 ∷
    undefined 11 ∷
    undefined 12 ∷
    undefined 13 ∷
    undefined 14 ∷
    undefined 15 ∷ []

unfoldable pub built_in : ℕ → Option Known
built_in p = bind (find (λ b. eqb b.permission p) built_ins) (λ b. b.known)

-- the definition in force: the platform's, or an installed app's
unfoldable pub known : View → ℕ → Option Known
known v p = or_find (built_in p) (v.defined p)

-- levels
abbrev pub normal : Known → Bool
normal k = eqb k.level 0

abbrev pub dangerous : Known → Bool
dangerous k = eqb k.level 1

abbrev pub signature : Known → Bool
signature k = eqb k.level 2

abbrev pub signature_or_system : Known → Bool
signature_or_system k = eqb k.level 3

-- why app a holds the permission p, whose definition in force is k, or does not: the first that applies
unfoldable pub hold : View → App → ℕ → Known → Hold
hold v a p k =
    cond (not (mem p a.uses)) NotListed
    (cond (normal k) Normal
    (cond (dangerous k && v.granted a.number p) Granted
    (cond (dangerous k && v.grouped a.number k.group) ByGroup
    (cond (dangerous k) NotGranted
    (cond ((signature k || signature_or_system k) && eqb a.signer k.signer) BySigner
    (cond (signature_or_system k && a.image) ByImage SignerDiffers))))))

abbrev pub is_held : Hold → Bool
is_held Normal = true
is_held Granted = true
is_held ByGroup = true
is_held BySigner = true
is_held ByImage = true
is_held NotListed = false
is_held NotGranted = false
is_held SignerDiffers = false

-- an undefined permission is not held
unfoldable pub holds : View → App → ℕ → Bool
holds v a p = test (known v p) (λ k. is_held (hold v a p k))

-- a component's permission: 0 (none needed) or held
unfoldable pub allows : View → App → ℕ → Bool
allows v a p = eqb p 0 || holds v a p
