-- Bytes written into a buffer at a place, and nothing else changed.
use Rattle.std.specs.Prelude.{ℕ, ◌+◌, ◌≡◌, List, length}
use Rattle.std.proofs.lemmas.List.Edits.{sets}
use Rattle.tape.specs.declared.Writer.{Writer}

-- `new` is `old` with `bytes` from the place `from` on, and `to` is the place after them
pub record Written (old : List ℕ) (from : ℕ) (bytes new : List ℕ) (to : ℕ) : Type 0 where
  pub stored : new ≡ sets old from bytes
  pub next : to ≡ from + length bytes

-- the same buffer is lent to a writer before and after
abbrev pub SameBuffer : (old new : Writer) → Type 0
SameBuffer old new =
    (new.buffer.ghost_name ≡ old.buffer.ghost_name) × (length new.buffer.now ≡ length old.buffer.now)
