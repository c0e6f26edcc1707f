-- What the reader answers: where the sections of a good manifest stand, or that the bytes are none.
-- Document 01, "The manifest, in sections", and the packing tool's number of "What the monitor covers".
use Rattle.std.specs.Prelude.{ℕ, ◌+◌, List, cond, length, leb, Option, Some, None}
use Rattle.manifest.specs.declared.Section.{Section}
use Rattle.manifest.specs.declared.Sections.{Sections}
use Rattle.manifest.specs.declared.Define.{Define}
use Rattle.manifest.specs.declared.Component.{Component}
use Rattle.manifest.specs.declared.Resource.{Resource}
use Rattle.manifest.specs.Layout.{u8_at, u16_at, u32_at, uses_place, defines_place, components_place, resources_place}
use Rattle.manifest.specs.Good.{good_bytes}

-- where the first entry of the section at a stands, and how many entries there are
abbrev pub section_of : List ℕ → ℕ → Section
section_of s a = record { first = a + 1; count = u8_at s a }

abbrev pub sections_of : List ℕ → Sections
sections_of s =
    record {
      app = u16_at s 0;
      signer = u32_at s 2;
      uses = section_of s uses_place;
      defines = section_of s (defines_place s);
      components = section_of s (components_place s);
      resources = section_of s (resources_place s);
    }

abbrev pub verdict_of : List ℕ → Option Sections
verdict_of s = cond (good_bytes s) (Some (sections_of s)) None

-- document 01's numbers: 0 for a good manifest, 3 for any other bytes
abbrev pub number_of : Option Sections → ℕ
number_of (Some m) = 0
number_of None = 3

abbrev pub answer_of : List ℕ → ℕ
answer_of s = cond (good_bytes s) 0 3

-- the entry of size bytes at a; one that is not all there reads as zeros
abbrev pub entry_at : {A : Type 0} → A → (List ℕ → ℕ → A) → ℕ → List ℕ → ℕ → A
entry_at zeros f size s a = cond (leb (a + size) (length s)) (f s a) zeros

abbrev pub zero_define : Define
zero_define = record { permission = 0; level = 0; group = 0 }

abbrev pub zero_component : Component
zero_component =
    record {
      number = 0;
      kind = 0;
      exported = 0;
      shares = 0;
      start = 0;
      read = 0;
      write = 0;
    }

abbrev pub zero_resource : Resource
zero_resource = record { provider = 0; uri = 0; value = 0 }
