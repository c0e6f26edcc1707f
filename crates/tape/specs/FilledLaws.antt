-- Of a text at the front of a lent buffer: what was written is what is answered, it is within the buffer, and 49,250
-- bytes have room for every sheet.
use Rattle.std.specs.Prelude.{ℕ, ◌≤◌, ◌<◌, refl, Bool, List, ◌++◌, ltb, take, Ok}
use Rattle.std.proofs.Math.Path.{◌≡◌, sym, ap}
use Rattle.std.proofs.Common.{◌∙◌, length-take-le, arith, lt-ltb, le-ltb}
use Rattle.std.proofs.Math.Bool.{true, false, cond}
use Rattle.std.proofs.Math.ListN.{length, drop, length-append}
use Rattle.history.specs.Tape.{is_tape}
use Rattle.history.specs.TapeLaws.{few-actions}
use Rattle.tape.specs.Filled.{Wrote, too_short, wrote, filled, sheet_room}

module _ (room : ℕ) (text out : List ℕ) where
  pub room-short : length out < room → (too_short ≡ wrote room text out) × (out ≡ filled room text out)
  unfolding wrote filled
  room-short h = (rw (lt-ltb (length out) room h), rw (lt-ltb (length out) room h))

  pub room-enough : room ≤ length out
      → (Ok (length text) ≡ wrote room text out) × (text ++ drop (length text) out ≡ filled room text out)
  unfolding wrote filled
  room-enough h = (rw (le-ltb (length out) room h), rw (le-ltb (length out) room h))

  pub bytes_inside : {r : Wrote} {n : ℕ} {new : List ℕ} → r ≡ Ok n → r ≡ wrote room text out
      → new ≡ filled room text out → (n ≤ length new) × (n ≡ length (take n new))
  unfolding wrote filled
  bytes_inside {r} {n} {new} e f g =
      let h = inside (ltb (length out) room) (sym e ∙ f) g in
      (h, sym (length-take-le n new h))
    where
      inside : (t : Bool) → Ok n ≡ cond t too_short (Ok (length text))
          → new ≡ cond t out (text ++ drop (length text) out) → n ≤ length new
      inside true p q = absurd cc
      inside false p q =
          let k : n ≡ length text = cc in
          omega (arith, k, ap length q, length-append text (drop (length text) out))

pub room_most : (s : List ℕ) → sheet_room s ≤ 49250
room_most s = by (is_tape s) refl
  where
    by : (t : Bool) → is_tape s ≡ t → sheet_room s ≤ 49250
    by true e = rw e (omega (arith, few-actions s e))
    by false e = rw e (omega arith)
