-- Laws of a section's entries: the first of them, none of them, how many there are.
use Rattle.std.specs.Prelude.{◌≡◌, refl, [], ◌∷◌, ℕ, zero, suc, ◌+◌, ◌-◌, ◌≤◌, ◌<◌, length}
use Rattle.std.proofs.Common.{ap, arith}
use Rattle.manifest.specs.Layout.{entries}

module _ {A : Type 0} (f : ℕ → A) (size i : ℕ) where
  pub entries-more : (left : ℕ) → 0 < left → entries f size i left ≡ f i ∷ entries f size (i + size) (left - 1)
  entries-more zero h = absurd (omega arith)
  entries-more (suc n) h =
      let e : n ≡ suc n - 1 = omega arith in
      ap (λ (k : ℕ). f i ∷ entries f size (i + size) k) e

  pub entries_none : (left : ℕ) → left ≤ 0 → entries f size i left ≡ []
  entries_none zero h = refl
  entries_none (suc n) h = absurd (omega arith)

pub length-entries : {A : Type 0} (f : ℕ → A) (size i n : ℕ) → length (entries f size i n) ≡ n
length-entries f size i zero = refl
length-entries f size i (suc n) = ap suc (length-entries f size (i + size) n)
