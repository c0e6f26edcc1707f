-- A whole sheet and a whole run in a buffer: what is told of a tape, what is answered, and the buffer then.
use Prim.Native.Nat.{ℕ, ◌+◌, ◌*◌, ◌≤◌, ◌<◌}
use mathlib.Core.Path.{◌≡◌, refl, ap, subst, ◌∙◌}
use mathlib.Core.Bool.{Bool, true, false, cond}
use mathlib.Core.List.{List, ◌++◌}
use Rattle.std.specs.Prelude.{Ok}
use lib.Dec.{ltb}
use lib.ListN.{length}
use native.Mathlib.Nat.{zero-add}
use borrow.Author.Tests.{lt-ltb, le-ltb}
use Rattle.history.specs.Tape.{is_tape, action_count}
use Rattle.history.specs.Sheet.{field, refused_text, answers_text, sheet}
use Rattle.history.specs.Run.{monitor_steps, Held, run_lines, run_text, run_sheet}
use Rattle.history.proofs.RunLaws.{run-sheet}
use Rattle.tape.specs.declared.Ran.{Ran}
use Rattle.tape.specs.Written.{Written}
use Rattle.tape.specs.Filled.{Wrote, too_short, wrote, filled, sheet_room}
use Rattle.tape.specs.FilledLaws.{room-short, room-enough}
use Rattle.tape.specs.Ran.{RanAt, lines_room, lines_of, left_by, ran}
use Rattle.tape.proofs.Writing.{then, spread}

-- ---- what is answered, and the buffer after it
pub done : {room : ℕ} {text out new : List ℕ} {k : ℕ} → room ≤ length out → Written out 0 text new k → k ≤ length out
    → (Ok k ≡ wrote room text out) × (new ≡ filled room text out)
done {room} {text} {out} {new} {k} h w l =
    let e : k ≡ length text = w.next ∙ zero-add (length text) in
    let f = room-enough room text out h in
    (ap Ok e ∙ f.0, spread w l ∙ rw e f.1)

module _ (s out : List ℕ) where
  abbrev Sheet : Wrote → List ℕ → Type 0
  Sheet r new = (r ≡ wrote (sheet_room s) (sheet s) out) × (new ≡ filled (sheet_room s) (sheet s) out)

  pub no-sheet : {r : Wrote} {new : List ℕ} → is_tape s ≡ false → r ≡ wrote 13 refused_text out
      → new ≡ filled 13 refused_text out → Sheet r new
  unfolding sheet
  no-sheet t e f = (rw t e, rw t f)

  pub short-sheet : {n : ℕ} → is_tape s ≡ true → n ≡ action_count s → length out < 24 * n + 98 → Sheet too_short out
  short-sheet t c h = room-short (sheet_room s) (sheet s) out (rw t (rw c at h))

  pub done-sheet : {a b new : List ℕ} {i j k n : ℕ} → is_tape s ≡ true → n ≡ action_count s
      → 24 * n + 98 ≤ length out
      → Written out 0 answers_text a i → Written a i (field n 10) b j → Written b j (run_text monitor_steps s n) new k
      → k ≤ length out → Sheet (Ok k) new
  unfolding run_sheet
  done-sheet {new = new} {k = k} {n = n} t c h u v w l =
      let f : answers_text ++ (field n 10 ++ run_text monitor_steps s n) ≡ run_sheet monitor_steps s
      = rw (t, c) in
      done (rw t (rw c at h))
      (subst (λ (x : List ℕ). Written out 0 x new k) (f ∙ run-sheet s) (then u (then v w))) l

-- ---- and what a run leaves
module _ (s out : List ℕ) (h : Held) where
  abbrev Left : Held → Wrote → List ℕ → Type 0
  Left k w new =
      (◌≡◌ {A = Ran} (record { device = k.device; lent = k.lent; wrote = w }) (ran s h out))
      × (new ≡ filled (lines_room s) (lines_of s h) out)

  pub no_run : {w : Wrote} {new : List ℕ} → is_tape s ≡ false → w ≡ wrote 13 refused_text out
      → new ≡ filled 13 refused_text out → Left h w new
  unfolding ran lines_of left_by
  no_run t e f = (rw (t, e) (by (ltb (length out) 13)), rw t f)
    where
      by : (b : Bool) → ◌≡◌ {A = Ran} (record { device = h.device; lent = h.lent; wrote = wrote 13 refused_text out })
          (record {
            device = (cond b h h).device;
            lent = (cond b h h).lent;
            wrote = wrote 13 refused_text out;
          })
      by true = refl
      by false = refl

  pub short-run : {n : ℕ} → is_tape s ≡ true → n ≡ action_count s → length out < 24 * n → Left h too_short out
  unfolding ran
  short-run t c l =
      let k : length out < lines_room s = rw t (rw c at l) in
      let f = room-short (lines_room s) (lines_of s h) out k in
      (rw (lt-ltb (length out) (lines_room s) k, f.0), f.1)

  pub done-run : {new : List ℕ} {k n : ℕ} {last : Held} → is_tape s ≡ true
      → n ≡ action_count s → 24 * n ≤ length out
      → RanAt s h out 0 n last new k → k ≤ length out → Left last (Ok k) new
  unfolding ran lines_of left_by
  done-run {new} {k} t c l r i =
      let m : lines_room s ≤ length out = rw t (rw c at l) in
      let e : run_lines monitor_steps s h (action_count s) ≡ lines_of s h = rw t in
      let f = done m (subst (λ (x : List ℕ). Written out 0 x new k) e (rw c at r).lines) i in
      (rw (f.0, le-ltb (length out) (lines_room s) m, r.held, c, t), f.1)
