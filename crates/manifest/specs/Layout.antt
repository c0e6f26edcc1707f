-- What the sections of a manifest hold, by position, and where their counts say that it ends.
-- Document 01, "The manifest, in sections": the table and the two numbers before it.
use Rattle.std.specs.Prelude.{ℕ, zero, suc, ◌+◌, ◌*◌, List, [], ◌∷◌, cond, get_or, length, eqb}
use Rattle.manifest.specs.declared.Define.{Define}
use Rattle.manifest.specs.declared.Component.{Component}
use Rattle.manifest.specs.declared.Resource.{Resource}

pub record Manifest : Type 0 where
  pub app : ℕ
  pub signer : ℕ
  pub uses : List ℕ
  pub defines : List Define
  pub components : List Component
  pub resources : List Resource

-- the byte at a place, and the little-endian numbers from a place on; past the end stand zeros
abbrev pub u8_at : List ℕ → ℕ → ℕ
u8_at s a = get_or s a 0

abbrev pub u16_at : List ℕ → ℕ → ℕ
u16_at s a = u8_at s a + 256 * u8_at s (a + 1)

abbrev pub u32_at : List ℕ → ℕ → ℕ
u32_at s a = u16_at s a + 65536 * u16_at s (a + 2)

-- an entry of each section; one of the uses is a byte
abbrev pub define_at : List ℕ → ℕ → Define
define_at s a = record { permission = u8_at s a; level = u8_at s (a + 1); group = u8_at s (a + 2) }

abbrev pub component_at : List ℕ → ℕ → Component
component_at s a =
    record {
      number = u16_at s a;
      kind = u8_at s (a + 2);
      exported = u8_at s (a + 3);
      shares = u8_at s (a + 4);
      start = u8_at s (a + 5);
      read = u8_at s (a + 6);
      write = u8_at s (a + 7);
    }

abbrev pub resource_at : List ℕ → ℕ → Resource
resource_at s a = record { provider = u16_at s a; uri = u16_at s (a + 2); value = u32_at s (a + 4) }

-- n entries of size bytes each, from the place a on
abbrev pub entries : {A : Type 0} → (ℕ → A) → ℕ → ℕ → ℕ → List A
entries f size a zero = []
entries f size a (suc n) = f a ∷ entries f size (a + size) n

-- a section: its count byte at a, then its entries; and the place after them
abbrev pub section : {A : Type 0} → (List ℕ → ℕ → A) → ℕ → List ℕ → ℕ → List A
section f size s a = entries (f s) size (a + 1) (u8_at s a)

abbrev pub after : ℕ → List ℕ → ℕ → ℕ
after size s a = a + 1 + size * u8_at s a

-- where each section's count stands, and the end
abbrev pub uses_place : ℕ
uses_place = 6

abbrev pub defines_place : List ℕ → ℕ
defines_place s = after 1 s uses_place

abbrev pub components_place : List ℕ → ℕ
components_place s = after 3 s (defines_place s)

abbrev pub resources_place : List ℕ → ℕ
resources_place s = after 8 s (components_place s)

abbrev pub end_place : List ℕ → ℕ
end_place s = after 8 s (resources_place s)

-- what the sections hold
abbrev pub laid_out : List ℕ → Manifest
laid_out s =
    record {
      app = u16_at s 0;
      signer = u32_at s 2;
      uses = section u8_at 1 s uses_place;
      defines = section define_at 3 s (defines_place s);
      components = section component_at 8 s (components_place s);
      resources = section resource_at 8 s (resources_place s);
    }

-- what bytes hold that end elsewhere than their counts say, such as no bytes at all: nothing, of app 0
abbrev pub blank : Manifest
blank = record { app = 0; signer = 0; uses = []; defines = []; components = []; resources = [] }

-- the manifest that bytes hold
unfoldable pub manifest_of : List ℕ → Manifest
manifest_of s = cond (eqb (end_place s) (length s)) (laid_out s) blank
