-- Refusal 2 is the answer exactly to bytes that are not well formed, for every view, all limits and all bytes of a
-- manifest: each row of the table of actions fits the fields that are well formed, and asks for what refusal 2 spares.
use Rattle.std.specs.Prelude.{ℕ, ◌≡◌, Bool, true, false, not, ◌&&◌, cond, List, [], ◌∷◌, ◌↔◌, length, eqb}
use Rattle.std.proofs.Math.Path.{refl}
use Rattle.std.proofs.Common.{sym, ◌∙◌, true≢false}
use Rattle.std.proofs.lemmas.Bool.{false≢true}
use Rattle.std.proofs.Math.Option.{Option, none, some}
use borrow.Author.Tests.{eqb-true, not-true}
use Rattle.manifest.specs.Layout.{u8_at}
use Rattle.rules.specs.declared.Reason.TheVariants.{MalformedAction}
use Rattle.rules.specs.Lists.{any, all, find, upto}
use Rattle.rules.specs.ListsLaws.{and_left, or-false, eqb-sym, any-cong, flat, clashing, find-holds, none_any}
use Rattle.rules.specs.ListsLaws.{all_found, mem-any}
use Rattle.rules.specs.UptoLaws.{among-upto}
use Rattle.rules.specs.Limits.{Limits}
use Rattle.rules.specs.Action.{is_operations, install, uninstall, grant, revoke, grant_group, revoke_group, start}
use Rattle.rules.specs.Action.{stop, lend, withdraw, read, ask, malformed, Action, on_apps, on_grants, on_runs}
use Rattle.rules.specs.Action.{write, on_loans, query}
use Rattle.rules.specs.Record.{Fields, Form, fields_of, forms, fits, fitting, form_of, asked, action_of}
use Rattle.rules.specs.View.{View}
use Rattle.rules.specs.Refusals.{Refusal, refusals}
use Rattle.rules.specs.Answer.{refused, decide, answer, number_of}
use Rattle.rules.proofs.OrderLaws.{ordered}
use Rattle.rules.specs.WellFormed.{is_code, fields_fit, well_formed}

-- ---- actions that refusal 2 spares
unfoldable spared : Action → Bool
spared (on_apps z) = true
spared (on_grants z) = true
spared (on_runs z) = true
spared (write p n u x) = true
spared (on_loans (lend o p n u r)) = is_operations o
spared (on_loans (withdraw o p n u)) = is_operations o
spared (query (read p n u)) = true
spared (query (ask b p)) = true
spared (query malformed) = false

abbrev is_two : Refusal → Bool
is_two r = eqb (number_of r.reason) 2 && r.applies

spared-applies : (L : Limits) (v : View) (x : Action) → any is_two (refusals L v x) ≡ not (spared x)
unfolding refusals spared
spared-applies L v (on_apps (install i m)) = refl
spared-applies L v (on_apps (uninstall b)) = refl
spared-applies L v (on_grants (grant b p)) = refl
spared-applies L v (on_grants (revoke b p)) = refl
spared-applies L v (on_grants (grant_group b g)) = refl
spared-applies L v (on_grants (revoke_group b g)) = refl
spared-applies L v (on_runs (start c n)) = refl
spared-applies L v (on_runs (stop n)) = refl
spared-applies L v (write p n u x) = refl
spared-applies L v (on_loans (lend o p n u r)) = or-false (not (is_operations o))
spared-applies L v (on_loans (withdraw o p n u)) = or-false (not (is_operations o))
spared-applies L v (query (read p n u)) = refl
spared-applies L v (query (ask b p)) = refl
spared-applies L v (query malformed) = refl

not_spared : (L : Limits) (v : View) (x : Action) → spared x ≡ false → answer L v x ≡ refused MalformedAction
unfolding spared answer refusals decide
not_spared L v (on_apps z) s = absurd (true≢false s)
not_spared L v (on_grants z) s = absurd (true≢false s)
not_spared L v (on_runs z) s = absurd (true≢false s)
not_spared L v (write p n u x) s = absurd (true≢false s)
not_spared L v (on_loans (lend o p n u r)) s = rw s
not_spared L v (on_loans (withdraw o p n u)) s = rw s
not_spared L v (query (read p n u)) s = absurd (true≢false s)
not_spared L v (query (ask b p)) s = absurd (true≢false s)
not_spared L v (query malformed) s = refl

-- ---- the rows of the table
infixr 40 ◌then◌
data Every (P : Form → Type 0) : List Form → Type 0 where
  end : Every P []
  ◌then◌ : {t : Form} {l : List Form} → P t → Every P l → Every P (t ∷ l)

every-found : (P : Form → Type 0) (f : Form → Bool) (l : List Form) → Every P l → (t : Form) → find f l ≡ some t → P t
unfolding find
every-found P f [] a t e = absurd (false≢true cc)
every-found P f (r ∷ l) (h then a) t e = go (f r) e (every-found P f l a t)
  where
    go : (b : Bool) → cond b (some r) (find f l) ≡ some t → (find f l ≡ some t → P t) → P t
    go true e more = let z : r ≡ t = cc in rw (← z) h
    go false e more = more e

-- a row fits the fields that are well formed for its code
abbrev FitsWell : Form → Type 0
FitsWell t = (s m : List ℕ) → fitting t (fields_of s m) ≡ fields_fit t.code s

rows_fit : Every FitsWell forms
unfolding forms fitting fits fields_of fields_fit
rows_fit =
    (λ s m. refl) then (λ s m. refl) then (λ s m. refl) then (λ s m. refl) then (λ s m. refl) then (λ s m. refl)
    then (λ s m. refl) then (λ s m. refl) then (λ s m. refl) then (λ s m. refl) then (λ s m. refl)
    then (λ s m. refl) then (λ s m. refl) then (λ s m. refl) then end

-- and then asks for what is spared
abbrev AsksWell : Form → Type 0
AsksWell t = (f : Fields) → fitting t f ≡ true → spared (t.asks f) ≡ true

rows-ask : Every AsksWell forms
unfolding forms fitting fits spared
rows-ask =
    (λ f e. refl) then (λ f e. refl) then (λ f e. refl) then (λ f e. refl) then (λ f e. refl) then (λ f e. refl)
    then (λ f e. refl) then (λ f e. refl) then (λ f e. refl) then (λ f e. refl) then (λ f e. and_left _ _ e)
    then (λ f e. and_left _ _ e) then (λ f e. and_left _ _ e) then (λ f e. refl) then end

-- the codes are 1 to 14
coded : all (λ t. is_code t.code) forms ≡ true
unfolding forms is_code
coded = refl

all_coded : (n : ℕ) → is_code n ≡ true → any (λ t. eqb t.code n) forms ≡ true
unfolding forms is_code upto
all_coded n h = any-cong (λ t. eqb-sym t.code n) forms ∙ among-upto 14 n h

-- ---- what the bytes ask for is spared exactly if they are well formed
asked-spared : (t : Form) (f : Fields) → AsksWell t → spared (asked (some t) f) ≡ fitting t f
unfolding asked spared
asked-spared t f h = go (fitting t f) refl
  where
    go : (b : Bool) → fitting t f ≡ b → spared (cond b (t.asks f) (query malformed)) ≡ b
    go true e = h f e
    go false e = refl

well-spared : (s m : List ℕ) → spared (action_of s m) ≡ well_formed s
unfolding action_of form_of well_formed
well-spared s m = by_length (eqb (length s) 12)
  where
    code : ℕ
    code = u8_at s 0

    is_row : Form → Bool
    is_row t = eqb t.code code

    by_row : (o : Option Form) → find is_row forms ≡ o
        → spared (asked o (fields_of s m)) ≡ is_code code && fields_fit code s
    by_row none e = unfold asked spared in
        rw (flat (is_code code) (λ c. clashing (all_coded code c) (none_any is_row forms e)))
    by_row (some t) e =
        let c : t.code ≡ code = eqb-true t.code code (find-holds is_row forms t e) in
        asked-spared t (fields_of s m) (every-found AsksWell is_row forms rows-ask t e)
        ∙ every-found FitsWell is_row forms rows_fit t e s m
        ∙ rw (← c, all_found is_row (λ t. is_code t.code) forms t e coded)

    by_length : (b : Bool)
        → spared (asked (cond b (find is_row forms) none) (fields_of s m)) ≡ b && (is_code code && fields_fit code s)
    by_length true = by_row (find is_row forms) refl
    by_length false = unfold asked spared in refl

-- ---- refusal 2
module _ (L : Limits) (v : View) (s m : List ℕ) where
  pub malformed-refused : well_formed s ≡ false → answer L v (action_of s m) ≡ refused MalformedAction
  malformed-refused e = not_spared L v (action_of s m) (well-spared s m ∙ e)

  pub refused-2-exactly-if-malformed : (answer L v (action_of s m) ≡ refused MalformedAction) ↔ (well_formed s ≡ false)
  refused-2-exactly-if-malformed = (
    λ e. sym (well-spared s m) ∙ not-true (spared (action_of s m)) (sym (spared-applies L v (action_of s m))
        ∙ mem-any is_two ((ordered L v (action_of s m)).refused MalformedAction e).0 refl),
    malformed-refused,
  )
