-- What makes a manifest good, as tests on its lists, and which bytes are a good manifest.
-- Document 01, "The manifest, in sections": the text under the table.
use Rattle.std.specs.Prelude.{ℕ, ◌+◌, ◌*◌, List, [], ◌∷◌, Bool, true, false, ◌&&◌, ◌||◌, not, length, eqb, ltb, leb}
pub use Rattle.std.specs.List.{list_any as any, list_all as all}
use Rattle.manifest.specs.declared.Define.{Define}
use Rattle.manifest.specs.declared.Component.{Component}
use Rattle.manifest.specs.declared.Resource.{Resource}
use Rattle.manifest.specs.Layout.{Manifest, laid_out, end_place}

-- every entry passes a test, and the keys rise strictly from above low on
abbrev pub rising : {A : Type 0} → (A → ℕ) → (A → Bool) → ℕ → List A → Bool
rising key ok low [] = true
rising key ok low (x ∷ xs) = (ltb low (key x) && ok x) && rising key ok (key x) xs

abbrev pub at_most : {A : Type 0} → ℕ → List A → Bool
at_most n xs = leb (length xs) n

-- uses: at most 32, each 1 to 63
abbrev pub good_use : ℕ → Bool
good_use p = leb p 63

abbrev pub uses_rise : ℕ → List ℕ → Bool
uses_rise = rising (λ p. p) good_use

abbrev pub good_uses : List ℕ → Bool
good_uses us = at_most 32 us && uses_rise 0 us

-- defines: at most 16, each 16 to 63; a group is 0 to 15, and 0 unless the level is 1
abbrev pub good_define : Define → Bool
good_define d =
    leb 16 d.permission && leb d.permission 63
    && leb d.level 3
    && leb d.group 15 && (eqb d.level 1 || eqb d.group 0)

abbrev pub defines_rise : ℕ → List Define → Bool
defines_rise = rising (λ d. d.permission) good_define

abbrev pub good_defines : List Define → Bool
good_defines ds = at_most 16 ds && defines_rise 0 ds

-- components: at most 16, the number not zero; a provider has start permission 0, another kind has the rest 0
abbrev pub is_provider : Component → Bool
is_provider c = eqb c.kind 4

abbrev pub good_component : Component → Bool
good_component c =
    leb 1 c.kind && leb c.kind 4
    && leb c.exported 1 && leb c.shares 1
    && leb c.start 63 && leb c.read 63 && leb c.write 63
    && (is_provider c && eqb c.start 0
    || not (is_provider c) && (eqb c.shares 0 && (eqb c.read 0 && eqb c.write 0)))

abbrev pub components_rise : ℕ → List Component → Bool
components_rise = rising (λ c. c.number) good_component

abbrev pub good_components : List Component → Bool
good_components cs = at_most 16 cs && components_rise 0 cs

-- resources: at most 32, by provider then URI; the URI is not zero, the provider one of this manifest
abbrev pub is_provider_of : ℕ → Component → Bool
is_provider_of p c = eqb c.number p && is_provider c

abbrev pub good_resource : List Component → Resource → Bool
good_resource cs r = ltb 0 r.uri && any (is_provider_of r.provider) cs

abbrev pub resource_key : Resource → ℕ
resource_key r = r.provider * 65536 + r.uri

abbrev pub resources_rise : List Component → ℕ → List Resource → Bool
resources_rise cs = rising resource_key (good_resource cs)

abbrev pub good_resources : List Component → List Resource → Bool
good_resources cs rs = at_most 32 rs && resources_rise cs 0 rs

-- every rule of the section
abbrev pub good : Manifest → Bool
good m =
    ltb 0 m.app
    && (ltb 0 m.signer
    && (good_uses m.uses
    && (good_defines m.defines
    && (good_components m.components && good_resources m.components m.resources))))

-- these bytes are a good manifest: laid out as the counts say, to the last byte, and good
abbrev pub good_bytes : List ℕ → Bool
good_bytes s = eqb (end_place s) (length s) && good (laid_out s)
