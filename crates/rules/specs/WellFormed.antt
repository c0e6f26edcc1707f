-- Which bytes of an action are well formed, said field by field: document 01, "Action records" and refusal 2 ("not
-- twelve bytes, code, unused field, image, operations"). RecordLaws proves that refusal 2 answers exactly the others.
use Rattle.std.specs.Prelude.{ℕ, Bool, not, ◌&&◌, ◌||◌, cond, List, length, eqb, leb}
use Rattle.manifest.specs.Layout.{u8_at, u16_at, u32_at}
use Rattle.rules.specs.Action.{is_operations}

abbrev between : (low high : ℕ) → ℕ → Bool
between low high n = leb low n && leb n high

unfoldable pub is_code : ℕ → Bool
is_code n = between 1 14 n

-- a field that the table does not list for the code must be 0
abbrev zero_unless : Bool → ℕ → Bool
zero_unless is_listed n = is_listed || eqb n 0

-- a: the image of an install, the operations of a lend or withdraw; b: of all but stop; c: of all but install and
-- uninstall; d: of read, write, lend and withdraw; e: of write and lend
unfoldable pub fields_fit : ℕ → List ℕ → Bool
fields_fit code s =
    cond (eqb code 1) (leb (u8_at s 1) 1) (cond (between 11 13 code) (is_operations (u8_at s 1)) (eqb (u8_at s 1) 0))
    && (zero_unless (not (eqb code 8)) (u16_at s 2)
    && (zero_unless (leb 3 code) (u16_at s 4)
    && (zero_unless (between 9 13 code) (u16_at s 6) && zero_unless (between 10 12 code) (u32_at s 8))))

unfoldable pub well_formed : List ℕ → Bool
well_formed s = eqb (length s) 12 && (is_code (u8_at s 0) && fields_fit (u8_at s 0) s)
