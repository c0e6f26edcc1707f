-- Laws of writing at a place: what was written first and what was written after it is one text.
use Prim.Native.Nat.{ℕ, suc, ◌+◌, ◌-◌, ◌≤◌}
use mathlib.Core.Path.{◌≡◌, refl, sym, ap, ◌∙◌}
use mathlib.Core.List.{List, [], ◌∷◌, ◌++◌}
use lib.ListN.{length, set, take, drop, length-append}
use lib.Seq.{sets, sets-eq, length-sets}
use borrow.Rule.Slice.PartMut.{put_mid}
use Rattle.std.proofs.lemmas.Slice.{put_mid-paste}
use Rattle.std.proofs.Common.{take_all}
use native.Mathlib.Nat.{add-suc, suc-add, add-zero}
use native.Mathlib.Omega.{arith}
use Rattle.tape.specs.Written.{Written}

-- two runs of stores are one
sets-append : (x y l : List ℕ) (i : ℕ) → sets l i (x ++ y) ≡ sets (sets l i x) (i + length x) y
sets-append [] y l i = rw add-zero
sets-append (a ∷ x) y l i = sets-append x y (set l i a) (suc i) ∙ rw (add-suc, suc-add)

pub nothing : (l : List ℕ) (i : ℕ) → Written l i [] l i
nothing l i = record { stored = refl; next = sym (add-zero i) }

pub same-length : {l m x : List ℕ} {i k : ℕ} → Written l i x m k → length m ≡ length l
same-length {l} {x = x} {i} w = ap length w.stored ∙ length-sets l i x

pub then : {l m n x y : List ℕ} {i j k : ℕ} → Written l i x m j → Written m j y n k → Written l i (x ++ y) n k
then {l} {m} {n} {x} {y} {i} {j} {k} v w =
    record {
      stored = w.stored ∙ rw (v.stored, v.next, sets-append);
      next = w.next ∙ rw (v.next, length-append) (omega arith);
    }

-- the whole buffer after it, where the bytes have room
pub spread : {l m x : List ℕ} {i k : ℕ} → Written l i x m k → k ≤ length l → m ≡ take i l ++ x ++ drop k l
spread {l} {m} {x} {i} {k} w h = w.stored ∙ sets-eq x l i (rw w.next at h) ∙ rw w.next

-- the bytes x stored over as many from the place i on
pub pasted : {l x y : List ℕ} {i : ℕ} → y ≡ x → i + length x ≤ length l
    → Written l i x (put_mid i (i + length x - i) l y) (i + length x)
pasted {l} {x} {y} {i} e h =
    let k : length x ≡ i + length x - i = omega arith in
    let f = put_mid-paste i (i + length x - i) l y x (length x) e k refl in
    record { stored = f ∙ rw (take_all (length x) x (omega arith), sets-eq x l i h); next = refl }
