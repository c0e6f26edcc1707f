-- The bytes that a manifest's lists have.
-- Document 01, "The manifest, in sections": the table, read the other way.
use Rattle.std.specs.Prelude.{ℕ, ◌/◌, ◌%◌, List, [], ◌∷◌, ◌++◌, Bool, ◌&&◌, length, ltb}
use Rattle.manifest.specs.declared.Define.{Define}
use Rattle.manifest.specs.declared.Component.{Component}
use Rattle.manifest.specs.declared.Resource.{Resource}
use Rattle.manifest.specs.Layout.{Manifest}
use Rattle.manifest.specs.Good.{all}

-- little-endian
abbrev pub le16 : ℕ → List ℕ
le16 n = n % 256 ∷ n / 256 ∷ []

abbrev pub le32 : ℕ → List ℕ
le32 n = le16 (n % 65536) ++ le16 (n / 65536)

-- the bytes of an entry of each section
abbrev pub use_bytes : ℕ → List ℕ
use_bytes p = p ∷ []

abbrev pub define_bytes : Define → List ℕ
define_bytes d = d.permission ∷ d.level ∷ d.group ∷ []

abbrev pub component_bytes : Component → List ℕ
component_bytes c =
    le16 c.number
    ++ (c.kind ∷ c.exported ∷ c.shares ∷ c.start ∷ c.read ∷ c.write ∷ [])

abbrev pub resource_bytes : Resource → List ℕ
resource_bytes r = le16 r.provider ++ (le16 r.uri ++ le32 r.value)

-- the bytes of each entry, one after the other
abbrev pub joined : {A : Type 0} → (A → List ℕ) → List A → List ℕ
joined f [] = []
joined f (x ∷ xs) = f x ++ joined f xs

-- a section: its count, and its entries
abbrev pub section_bytes : {A : Type 0} → (A → List ℕ) → List A → List ℕ
section_bytes f xs = length xs ∷ joined f xs

abbrev pub image : Manifest → List ℕ
image m =
    (le16 m.app ++ le32 m.signer)
    ++ (section_bytes use_bytes m.uses
    ++ (section_bytes define_bytes m.defines
    ++ (section_bytes component_bytes m.components ++ section_bytes resource_bytes m.resources)))

-- a number fits a width
abbrev pub is_byte : ℕ → Bool
is_byte n = ltb n 256

abbrev pub is16 : ℕ → Bool
is16 n = ltb n 65536

abbrev pub is32 : ℕ → Bool
is32 n = ltb n 4294967296

-- the numbers of a manifest that goodness leaves open fit the widths that the table gives them
abbrev pub resource_in_width : Resource → Bool
resource_in_width r = is16 r.provider && (is16 r.uri && is32 r.value)

abbrev pub in_width : Manifest → Bool
in_width m =
    is16 m.app
    && (is32 m.signer
    && (all (λ c. is16 c.number) m.components && all resource_in_width m.resources))
