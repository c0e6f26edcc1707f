-- No two differing results meet the contract of a public function: it is one equation for the whole result,
-- and one for the whole buffer at exit. Document 01, "What the contracts have to say".
use Rattle.std.specs.Prelude.{◌≡◌, ℕ, List}
use Rattle.manifest.specs.Unique.{only_one}
use Rattle.history.specs.Sheet.{sheet}
use Rattle.history.specs.Run.{Held}
use Rattle.tape.specs.declared.Ran.{Ran}
use Rattle.tape.specs.Filled.{Wrote, wrote, filled, sheet_room}
use Rattle.tape.specs.Ran.{lines_room, lines_of, ran}

module _ (tape out : List ℕ) where
  abbrev SheetOf : Wrote → List ℕ → Type 0
  SheetOf r l = (r ≡ wrote (sheet_room tape) (sheet tape) out) × (l ≡ filled (sheet_room tape) (sheet tape) out)

  pub sheet-of-only : (r r' : Wrote) (l l' : List ℕ) → SheetOf r l → SheetOf r' l' → (r ≡ r') × (l ≡ l')
  sheet-of-only r r' l l' p p' = (only_one _ r r' p.0 p'.0, only_one _ l l' p.1 p'.1)

  abbrev Run : Held → Ran → List ℕ → Type 0
  Run h r l = (r ≡ ran tape h out) × (l ≡ filled (lines_room tape) (lines_of tape h) out)

  pub run_only : (h : Held) (r r' : Ran) (l l' : List ℕ) → Run h r l → Run h r' l' → (r ≡ r') × (l ≡ l')
  run_only h r r' l l' p p' = (only_one _ r r' p.0 p'.0, only_one _ l l' p.1 p'.1)
