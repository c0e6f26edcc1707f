-- `built_in` meets its contract: each of the sixteen rows of the table says what the built-in permission of its number
-- is.
use Rattle.std.proofs.Common.{ℕ, zero, suc, ◌≡◌, ◌<◌, ◌≤◌, Some, None, Option, List, [], ◌∷◌, refl, sym, ap, ◌∙◌}
use Rattle.std.proofs.Common.{get_or, arith}
use Rattle.std.specs.Option.{option_map}
use Rattle.std.proofs.Math.Option.{none}
use borrow.Author.Tests.{ne_eqb}
use Rattle.rules.specs.declared.Known.{Known}
use Rattle.rules.specs.Lists.{find, bind}
use Rattle.rules.specs.Permissions.{built_ins, built_in}
use Rattle.tables.specs.declared.BuiltIn.{BuiltIn}
use Rattle.tables.specs.Looking.{option_of}
use Rattle.tables.proofs.built_in.Goals as goal

abbrev row : ℕ → ℕ → Option BuiltIn
row level group = Some (record { level = level; group = group })

-- the table of the code
abbrev rows : List (Option BuiltIn)
rows =
    None ∷
    row 0 0 ∷
    row 0 0 ∷
    row 1 1 ∷
    row 1 2 ∷
    row 1 2 ∷
    row 1 3 ∷
    row 2 0 ∷
    row 3 0 ∷
    None ∷
    None ∷
    None ∷
    None ∷
    None ∷
    None ∷
    None ∷ []

abbrev said : Option BuiltIn → Option Known
said = option_map (λ b. record { definer = 0; signer = 1; level = b.level; group = b.group })

rule : (p : ℕ) → p < 16 → option_of (built_in p) ≡ said (get_or rows p None)
unfolding built_in built_ins find bind
rule zero h = refl
rule (suc zero) h = refl
rule (suc (suc zero)) h = refl
rule (suc (suc (suc zero))) h = refl
rule (suc (suc (suc (suc zero)))) h = refl
rule (suc (suc (suc (suc (suc zero))))) h = refl
rule (suc (suc (suc (suc (suc (suc zero)))))) h = refl
rule (suc (suc (suc (suc (suc (suc (suc zero))))))) h = refl
rule (suc (suc (suc (suc (suc (suc (suc (suc zero)))))))) h = refl
rule (suc (suc (suc (suc (suc (suc (suc (suc (suc zero))))))))) h = refl
rule (suc (suc (suc (suc (suc (suc (suc (suc (suc (suc zero)))))))))) h = refl
rule (suc (suc (suc (suc (suc (suc (suc (suc (suc (suc (suc zero))))))))))) h = refl
rule (suc (suc (suc (suc (suc (suc (suc (suc (suc (suc (suc (suc zero)))))))))))) h = refl
rule (suc (suc (suc (suc (suc (suc (suc (suc (suc (suc (suc (suc (suc zero))))))))))))) h = refl
rule (suc (suc (suc (suc (suc (suc (suc (suc (suc (suc (suc (suc (suc (suc zero)))))))))))))) h = refl
rule (suc (suc (suc (suc (suc (suc (suc (suc (suc (suc (suc (suc (suc (suc (suc zero))))))))))))))) h = refl
rule (suc (suc (suc (suc (suc (suc (suc (suc (suc (suc (suc (suc (suc (suc (suc (suc p)))))))))))))))) h =
    absurd (omega arith)

past : (p : ℕ) → 16 ≤ p → built_in p ≡ none
unfolding built_in built_ins find bind
past p h =
    rw (
      ne_eqb 1 p (λ e. omega arith),
      ne_eqb 2 p (λ e. omega arith),
      ne_eqb 3 p (λ e. omega arith),
      ne_eqb 4 p (λ e. omega arith),
      ne_eqb 5 p (λ e. omega arith),
      ne_eqb 6 p (λ e. omega arith),
      ne_eqb 7 p (λ e. omega arith),
      ne_eqb 8 p (λ e. omega arith),
      ne_eqb 9 p (λ e. omega arith),
      ne_eqb 10 p (λ e. omega arith),
      ne_eqb 11 p (λ e. omega arith),
      ne_eqb 12 p (λ e. omega arith),
      ne_eqb 13 p (λ e. omega arith),
      ne_eqb 14 p (λ e. omega arith),
      ne_eqb 15 p (λ e. omega arith),
    )

pub returns-then-permission-ge16 : goal.returns-then-permission-ge16
returns-then-permission-ge16 c = rw (past c.args.permission c.if-permission-ge16.true)

pub returns-in_err-b : goal.returns-in_err-b
returns-in_err-b c =
    let p = c.args.permission in
    c.from_residual.ensures
    ∙ sym (rule p c.if-permission-ge16.false ∙ ap said (rw c.from.ensures at c.in_err-b.was))

pub returns : goal.returns
returns c =
    let p = c.args.permission in
    sym (rule p c.if-permission-ge16.false ∙ ap said (rw c.from.ensures at c.in_ok-b.was))
