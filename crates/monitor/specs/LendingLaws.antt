-- A step over a lent loan table is the step of the list that it holds: the records written back make it the next one.
use Rattle.std.specs.Prelude.{ℕ, ◌-◌, ◌≡◌, List}
use Rattle.std.proofs.Math.Path.{sym, ap}
use Rattle.std.proofs.Common.{◌∙◌, append-nil, arith}
use Rattle.std.proofs.Math.Bool.{false}
use Rattle.std.proofs.Math.ListN.{length}
use Rattle.std.proofs.Math.Seq.{take_all}
use borrow.Author.Tests.{ne_eqb}
use Rattle.rules.specs.declared.Loan.{Loan}
use Rattle.rules.specs.declared.Reason.TheVariants.{StateNotValid}
use Rattle.rules.specs.Answer.{refused}
use Rattle.state.specs.declared.Device.{Device}
use Rattle.state.specs.Stored.{valid_stored}
use Rattle.state.specs.Step.{step_answer, step_device, step_lent}
use Rattle.loans.specs.declared.Lent.{Lent}
use Rattle.loans.specs.declared.Range.{Range}
use Rattle.loans.specs.Lent.{copied, lent_from, written, changed_in}
use Rattle.loans.specs.ChangeLaws.{changed-written}
use Rattle.monitor.specs.declared.Stepped.{Stepped}
use Rattle.monitor.specs.declared.Outcome.{Outcome}
use Rattle.monitor.specs.Stepped.{stepped}

module _ (d : Device) (l : List Loan) (action manifest : List ℕ) where
  -- what a caller gets, and what the table is then
  abbrev Stepping : Outcome → List Loan → Type 0
  Stepping r zs =
      (r ≡ record { device = step_device d l action manifest; answer = step_answer d l action manifest })
      × (zs ≡ step_lent d l action manifest)

  -- a table of 128 records is its own copy
  whole : length l ≡ 128 → copied 128 l ≡ l
  unfolding copied
  whole e =
      let t = take_all 128 l (omega (arith, e)) in
      let k : 128 - length l ≡ 0 = omega (arith, e) in
      rw (t, k, append-nil)

  not-stored : (length l ≡ 128 → ⊥) → valid_stored d l ≡ false
  unfolding valid_stored
  not-stored e = rw (ne_eqb (length l) 128 e)

  module _ (out : Lent) (o : out ≡ lent_from l) where
    lengths : out.length ≡ length l
    unfolding lent_from
    lengths = ap (λ (z : Lent). z.length) o

    tables : length l ≡ 128 → out.table ≡ l
    unfolding lent_from
    tables e = ap (λ (z : Lent). z.table) o ∙ whole e

    pub refused-lent : (out.length ≡ 128 → ⊥) → Stepping (record { device = d; answer = refused StateNotValid }) l
    unfolding step_device step_answer step_lent
    refused-lent e = let n = not-stored (λ h. e (lengths ∙ h)) in (rw n, rw n)

    pub stepped-lent : out.length ≡ 128 → (s : Stepped) → s ≡ stepped d out.table action manifest
        → length s.lent ≡ 128 → (r : Range) → r ≡ changed_in out.table s.lent
        → (zs : List Loan) → zs ≡ written r.from r.to s.lent l
        → Stepping (record { device = s.device; answer = s.answer }) zs
    unfolding stepped
    stepped-lent e s f k r g zs q =
        let n = sym lengths ∙ e in
        let same = f ∙ ap (λ (t : List Loan). stepped d t action manifest) (tables n) in
        let range = g ∙ ap (λ (t : List Loan). changed_in t s.lent) (tables n) in (
          ap (λ (z : Stepped). record { device = z.device; answer = z.answer }) same,
          q ∙ ap (λ (z : Range). written z.from z.to s.lent l) range ∙ changed-written l s.lent (n ∙ sym k)
              ∙ ap (λ (z : Stepped). z.lent) same,
        )
