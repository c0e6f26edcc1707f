-- What a reader finds where it stands, as it goes through the sections once, front to back.
-- Document 01, "The manifest, in sections".
use Rattle.std.specs.Prelude.{ℕ, ◌+◌, List, Bool, cond, ◌&&◌, length, leb, ltb, Option, Some, None}
use Rattle.manifest.specs.declared.Section.{Section}
use Rattle.manifest.specs.Layout.{u8_at, u16_at, u32_at, entries, after}
use Rattle.manifest.specs.Verdict.{section_of}

-- the app number and the signer at a, neither zero
abbrev pub head_good : List ℕ → ℕ → Bool
head_good s a = leb (a + 6) (length s) && (ltb 0 (u16_at s a) && ltb 0 (u32_at s (a + 2)))

abbrev pub head_found : List ℕ → ℕ → Option (ℕ × ℕ)
head_found s a = cond (head_good s a) (Some (u16_at s a, u32_at s (a + 2))) None

-- the section at a has at most so many entries, and they are all there
abbrev pub counted : ℕ → ℕ → List ℕ → ℕ → Bool
counted size most s a = leb (after size s a) (length s) && leb (u8_at s a) most

-- the section at a, if its entries are as they should be
abbrev pub found : ℕ → ℕ → List ℕ → ℕ → Bool → Option Section
found size most s a ok = cond (counted size most s a && ok) (Some (section_of s a)) None

-- the entries of a section
abbrev pub listed : {A : Type 0} → (List ℕ → ℕ → A) → ℕ → List ℕ → Section → List A
listed f size s x = entries (f s) size x.first x.count
