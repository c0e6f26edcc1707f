-- One entry of a section after another.
use Rattle.std.proofs.Common.{ℕ, zero, suc, ◌≡◌, ◌+◌, ◌-◌, ◌*◌, ◌<◌, ◌≤◌, ◌||◌, Bool, false, refl, arith}
use Rattle.manifest.specs.Layout.{entries}
use Rattle.rules.specs.Lists.{any}

module _ (test : ℕ → Bool) (size first count : ℕ) where
  abbrev pub rest : ℕ → Bool
  rest k = any test (entries (λ at. at) size (first + size * k) (count - k))

  pub begin : any test (entries (λ at. at) size first count) ≡ rest 0
  begin = let a : first + size * 0 ≡ first = omega arith in let n : count - 0 ≡ count = omega arith in rw (a, n)

  pub one-more : (k : ℕ) → k < count → rest k ≡ test (first + size * k) || rest (k + 1)
  one-more k h =
      let n : count - k ≡ suc (count - (k + 1)) = omega arith in
      let a : (first + size * k) + size ≡ first + size * (k + 1) = omega arith in
      rw (n, a)

  pub none_more : (k : ℕ) → count ≤ k → rest k ≡ false
  none_more k h = let n : count - k ≡ 0 = omega arith in rw n

-- what is asked at the places of the entries is asked of the entries
pub asked-of : {A : Type 0} (f : ℕ → A) (at : ℕ → Bool) (of : A → Bool) (size end : ℕ)
    → ((a : ℕ) → a + size ≤ end → at a ≡ of (f a)) → (n a : ℕ) → a + size * n ≤ end
    → any at (entries (λ a. a) size a n) ≡ any of (entries f size a n)
asked-of f at of size end same zero a h = refl
asked-of f at of size end same (suc n) a h =
    rw (same a (omega arith), asked-of f at of size end same n (a + size) (omega arith))
