-- A turn of a loop over a section's entries, whatever the section: the one that it reads, and those that are left.
use Rattle.std.proofs.Common.{◌≡◌, ℕ, ◌+◌, ◌-◌, ◌*◌, ◌<◌, ◌≤◌, ◌∷◌, arith}
use Rattle.manifest.specs.Layout.{entries}
use Rattle.manifest.specs.LayoutLaws.{entries-more}

module _ {A : Type 0} (f : ℕ → A) (size i n k : ℕ) where
  pub entries_turn : k < n → entries f size (i + size * k) (n - k)
      ≡ f (i + size * k) ∷ entries f size (i + size * (k + 1)) (n - (k + 1))
  entries_turn h =
      let p : i + size * k + size ≡ i + size * (k + 1) = omega arith in
      let q : n - k - 1 ≡ n - (k + 1) = omega arith in
      rw (entries-more f size (i + size * k) (n - k) (omega arith), p, q)
