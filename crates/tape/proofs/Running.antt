-- The loop over the records: what is held is what the run holds, and its lines are written.
use Prim.Native.Nat.{ℕ, ◌+◌, ◌*◌}
use mathlib.Core.Path.{◌≡◌, refl, ap, subst, ◌∙◌}
use mathlib.Core.List.{List}
use lib.Count.{ones}
use lib.ListN.{get_or, replicate}
use native.Mathlib.Numerals.{add-one}
use Rattle.rules.specs.declared.Loan.{Loan}
use Rattle.state.specs.declared.Device.{Device}
use Rattle.state.specs.Tables.{fresh}
use Rattle.state.specs.Stored.{zero_loan, device_of}
use Rattle.monitor.specs.declared.Stepped.{Stepped}
use Rattle.history.specs.Tape.{actions_place}
use Rattle.history.specs.Sheet.{line_text}
use Rattle.history.specs.Run.{monitor_steps, Held, fresh_held, held_at, counts_text, run_lines, run_text}
use Rattle.tape.specs.Written.{Written}
use Rattle.tape.specs.Reading.{held_by, stepped}
use Rattle.tape.specs.Ran.{RanAt}
use Rattle.tape.proofs.Writing.{nothing, then}

pub ran-none : (s : List ℕ) (h : Held) (out : List ℕ) (from : ℕ) → RanAt s h out from 0 h out from
unfolding held_at run_lines
ran-none s h out from = record { held = refl; lines = nothing out from }

pub ran-more : {s : List ℕ} {h : Held} {old : List ℕ} {from i : ℕ} {d : Device} {lent : List Loan} {out : List ℕ}
    {at : ℕ}
    → RanAt s h old from i (held_by d lent) out at → {new : List ℕ} {to records : ℕ} (next : Stepped)
    → records ≡ actions_place s + 2
    → next ≡ stepped s d lent i
    → Written out at (line_text (i + 1) (get_or s (records + 12 * i) 0) next.answer) new to
    → RanAt s h old from (i + 1) (held_by next.device next.lent) new to
unfolding held_at run_lines
ran-more {s} {h} {i = i} {d} {lent} r next t e w =
    let k = held_at monitor_steps s h i in
    let f : next ≡ stepped s k.device k.lent i
    = e ∙ ap (λ (x : Held). stepped s x.device x.lent i) r.held in
    rw (add-one i) (record {
      held = ap (λ (x : Stepped). held_by x.device x.lent) f;
      lines = then r.lines (rw (f, t) at w);
    })

pub ran_to : {s : List ℕ} {h k : Held} {old out : List ℕ} {from i n at : ℕ} → i ≡ n → RanAt s h old from i k out at
    → RanAt s h old from n k out at
ran_to {s} {h} {k} {old} {out} {from} {i} {n} {at} e r = subst (λ (x : ℕ). RanAt s h old from x k out at) e r

-- from the fresh device, with the counts after the lines
pub ran-all : {s old : List ℕ} {from n : ℕ} {d₀ d : Device} {lent₀ lent : List Loan} {out : List ℕ} {at : ℕ}
    → d₀ ≡ device_of fresh → lent₀ ≡ replicate 128 zero_loan
    → RanAt s (held_by d₀ lent₀) old from n (held_by d lent) out at → {new : List ℕ} {to : ℕ} (running : ℕ)
    → running ≡ ones d.instances.running
    → Written out at (counts_text d.apps.count running d.lent) new to
    → Written old from (run_text monitor_steps s n) new to
unfolding fresh run_text
ran-all {s} {old} {from} {n} {d₀} {d} {lent₀} {lent} {out} {at} e e' r running f w =
    let q : RanAt s fresh_held old from n (held_by d lent) out at = rw (e, e') at r in
    then q.lines (rw (f, ap (λ (x : Held). x.device) q.held) at w)
