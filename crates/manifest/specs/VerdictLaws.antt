-- The packing tool's number is the number of the verdict.
use Rattle.std.specs.Prelude.{ℕ, ◌≡◌, refl, List, Bool, true, false, cond, Some, None}
use Rattle.manifest.specs.Good.{good_bytes}
use Rattle.manifest.specs.Verdict.{sections_of, verdict_of, answer_of, number_of}

pub number_is : (s : List ℕ) → number_of (verdict_of s) ≡ answer_of s
number_is s = go (good_bytes s)
  where
    go : (b : Bool) → number_of (cond b (Some (sections_of s)) None) ≡ cond b 0 3
    go true = refl
    go false = refl
