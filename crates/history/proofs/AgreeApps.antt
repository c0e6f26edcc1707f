-- The log rules of apps, components and definitions agree with their tables, action by action.
use Rattle.std.specs.Prelude.{ℕ, ◌≡◌, Bool}
use Rattle.std.proofs.Math.Path.{refl, ap}
use Rattle.std.proofs.Common.{◌∙◌}
use Rattle.std.proofs.Math.Bool.{true, false, not, cond}
use Rattle.std.proofs.lemmas.Bool.{false≢true}
use mathlib.Core.List.{List, [], ◌∷◌, ◌++◌, map}
use Rattle.std.proofs.Math.Option.{Option, none, some}
use Rattle.std.proofs.Math.Dec.{eqb}
use borrow.Author.Tests.{eqb-true}
use Rattle.manifest.specs.Layout.{Manifest}
use Rattle.manifest.specs.declared.Component.{Component}
use Rattle.manifest.specs.declared.Define.{Define}
use Rattle.rules.specs.declared.Definition.{Definition}
use Rattle.rules.specs.declared.Part.{Part}
use Rattle.rules.specs.declared.Known.{Known}
use Rattle.rules.specs.declared.Ground.{Ground}
use Rattle.rules.specs.Lists.{any, all, keep, find, distinct, is_some, test, bind, map_option, or_find}
use Rattle.rules.specs.ListsLaws.{all_found, find-append, find-map, find-holds, find-any, none_any, any-map, any-mono}
use Rattle.rules.specs.ListsLaws.{by_eqb, eqb-sym, eqb_same, flat, clashing}
use Rattle.rules.specs.Limits.{Limits}
use Rattle.rules.specs.Action.{install, uninstall, Action, on_apps, on_grants, on_runs, write, on_loans, query}
use Rattle.rules.specs.View.{App, app_of, part_of, definition_of}
use Rattle.rules.specs.Permissions.{built_in, known, known_by}
use Rattle.rules.specs.Answer.{done, answer}
use Rattle.rules.specs.DoneLaws.{install-new, nothing}
use Rattle.state.specs.Tables.{Row, State, apps_of, app_at, part_at, defined_by, known_from, defined_in, view_of}
use Rattle.state.specs.Effects.{apps_after, definitions_after, parts_after}
use Rattle.state.proofs.LookupLaws.{installed_after, apps-after, only_part, only-definition, definer-is}
use Rattle.state.specs.Valid.{same_part, same_permission, is_installed}
use Rattle.state.specs.Ok.{Ok}
use Rattle.history.proofs.SearchLaws.{or_swap, only-drop, find-new, find-gone, not_taken}
use Rattle.history.specs.Log.{unless, is_of, is_by, app_by, part_by, known_in, define_by}

-- ---- apps
app-new : (apps : List App) (a : App) (n : ℕ) → is_some (app_at apps a.number) ≡ false
    → app_at (apps ++ (a ∷ [])) n ≡ cond (eqb a.number n) (some a) (app_at apps n)
unfolding app_at
app-new apps a n new = find-new (λ a. a.number) apps a n (nothing (app_at apps a.number) new)

app-gone : (apps : List App) (b n : ℕ)
    → app_at (keep (λ a. not (eqb a.number b)) apps) n ≡ cond (eqb b n) none (app_at apps n)
unfolding app_at
app-gone apps b n = find-gone (λ a. a.number) apps b n

pub app-step : (L : Limits) (s : State) (x : Action) (g : Ground) (v : ℕ) → answer L (view_of s) x ≡ done g v → (n : ℕ)
    → app_at (apps_of (apps_after s.definitions s.rows x)) n ≡ app_by x n (app_at (apps_of s.rows) n)
app-step L s x g v e n = ap (λ (apps : List App). app_at apps n) (apps-after s.definitions s.rows x) ∙ go x e
  where
    go : (x : Action) → answer L (view_of s) x ≡ done g v
        → app_at (installed_after (apps_of s.rows) x) n ≡ app_by x n (app_at (apps_of s.rows) n)
    go (on_apps (install i m)) e = unfold installed_after app_by view_of in
        app-new (apps_of s.rows) (app_of i m) n (install-new L (view_of s) g v i m e).app
    go (on_apps (uninstall b)) e = unfold installed_after app_by in app-gone (apps_of s.rows) b n
    go (on_grants z) e = unfold installed_after app_by in refl
    go (on_runs z) e = unfold installed_after app_by in refl
    go (write p k u y) e = unfold installed_after app_by in refl
    go (on_loans z) e = unfold installed_after app_by in refl
    go (query z) e = unfold installed_after app_by in refl

-- ---- components
pub part-gone : (ks : List Part) → distinct same_part ks ≡ true → (b c : ℕ)
    → part_at (keep (λ k. not (eqb k.app b)) ks) c ≡ unless (is_of b) (part_at ks c)
unfolding part_at
part-gone ks one b c = only-drop (λ k. eqb k.component.number c) (is_of b) ks (only_part ks one c)

pub part-new : (ks : List Part) (m : Manifest) (c : ℕ)
    → any (λ c. is_some (part_at ks c.number)) m.components ≡ false
    → part_at (ks ++ map (part_of m) m.components) c
    ≡ or_find (map_option (part_of m) (find (λ k. eqb k.number c) m.components)) (part_at ks c)
unfolding part_at
part-new ks m c new = find-append (λ k. eqb k.component.number c) ks (map (part_of m) m.components)
    ∙ ap (or_find (part_at ks c)) (find-map (λ k. eqb k.component.number c) (part_of m) m.components)
    ∙ or_swap (map_option (part_of m) (find (λ k. eqb k.number c) m.components)) (part_at ks c)
    (go (find (λ k. eqb k.number c) m.components) refl)
  where
    go : (o : Option Component) → find (λ k. eqb k.number c) m.components ≡ o
        → is_some (map_option (part_of m) o) ≡ true → part_at ks c ≡ none
    go none e h = absurd (false≢true (unfold map_option is_some in h))
    go (some k) e h = nothing (part_at ks c)
        (not_taken (λ k. k.number) (λ c. is_some (part_at ks c)) m.components c new
        (find-any (λ k. eqb k.number c) m.components k e))

pub part_step : (L : Limits) (s : State) (x : Action) (g : Ground) (v : ℕ) → answer L (view_of s) x ≡ done g v → Ok L s
    → (c : ℕ) → part_at (parts_after s.parts x) c ≡ part_by x c (part_at s.parts c)
unfolding parts_after part_by view_of
part_step L s (on_apps (install i m)) g v e ok c =
    part-new s.parts m c (install-new L (view_of s) g v i m e).components
part_step L s (on_apps (uninstall b)) g v e ok c = part-gone s.parts ok.tables.parts b c
part_step L s (on_grants z) g v e ok c = refl
part_step L s (on_runs z) g v e ok c = refl
part_step L s (write p k u y) g v e ok c = refl
part_step L s (on_loans z) g v e ok c = refl
part_step L s (query z) g v e ok c = refl

-- ---- definitions, whose apps are there
abbrev definition : List Definition → ℕ → Option Definition
definition ds p = find (λ d. eqb d.define.permission p) ds

app-there : (rs : List Row) (b : ℕ) → is_installed rs b ≡ true → (a : App) × (app_at (apps_of rs) b ≡ some a)
unfolding app_at
app-there rs b h = go (find (λ a. eqb a.number b) (apps_of rs)) refl
  where
    go : (o : Option App) → find (λ a. eqb a.number b) (apps_of rs) ≡ o → (a : App) × (o ≡ some a)
    go none e = absurd (clashing (any-map (λ a. eqb a.number b) (λ r. r.app) rs ∙ h)
        (none_any (λ a. eqb a.number b) (apps_of rs) e))
    go (some a) e = (a, refl)

-- a definition that is found, and the app that it names
record Found (apps : List App) (d : Definition) : Type 0 where
  app : App
  there : app_at apps d.app ≡ some app
  number : app.number ≡ d.app

module _ (rs : List Row) (ds : List Definition) (definers : all (λ d. is_installed rs d.app) ds ≡ true) where
  found : (p : ℕ) (d : Definition) → definition ds p ≡ some d → Found (apps_of rs) d
  unfolding app_at
  found p d e =
      let here = all_found (λ d. eqb d.define.permission p) (λ d. is_installed rs d.app) ds d e definers in
      let a = app-there rs d.app here in
      let named = find-holds (λ b. eqb b.number d.app) (apps_of rs) a.0 a.1 in
      record { app = a.0; there = a.1; number = eqb-true a.0.number d.app named }

  known-found : (d : Definition) (f : Found (apps_of rs) d)
      → known_from (apps_of rs) d ≡ some (known_by f.app.number f.app.signer d.define)
  unfolding known_from map_option
  known-found d f = rw f.there

  pub definer-known : distinct same_permission ds ≡ true → (b p : ℕ)
      → defined_by ds b p ≡ test (defined_in (apps_of rs) ds p) (is_by b)
  unfolding defined_in
  definer-known one b p = definer-is ds one b p ∙ go (definition ds p) refl
    where
      go : (o : Option Definition) → definition ds p ≡ o
          → test o (λ d. eqb d.app b) ≡ test (bind o (known_from (apps_of rs))) (is_by b)
      go none e = unfold test bind in refl
      go (some d) e = let f = found p d e in unfold test bind in rw (known-found d f, f.number)

  definition-gone : distinct same_permission ds ≡ true → (b p : ℕ)
      → defined_in (keep (λ a. not (eqb a.number b)) (apps_of rs)) (keep (λ d. not (eqb d.app b)) ds) p
      ≡ unless (is_by b) (defined_in (apps_of rs) ds p)
  unfolding defined_in
  definition-gone one b p =
      ap (λ (o : Option Definition). bind o (known_from rest))
      (only-drop (λ d. eqb d.define.permission p) (λ d. eqb d.app b) ds (only-definition ds one p))
      ∙ go (definition ds p) refl
    where
      rest : List App
      rest = keep (λ a. not (eqb a.number b)) (apps_of rs)

      go : (o : Option Definition) → definition ds p ≡ o
          → bind (unless (λ d. eqb d.app b) o) (known_from rest) ≡ unless (is_by b) (bind o (known_from (apps_of rs)))
      go none e = unfold unless bind in refl
      go (some d) e = let f = found p d e in unfold unless bind in
          rw (known-found d f, f.number) (pick (eqb d.app b) refl (found p d e))
        where
          pick : (t : Bool) → eqb d.app b ≡ t → (f : Found (apps_of rs) d)
              → bind (cond t none (some d)) (known_from rest)
              ≡ cond t none (some (known_by d.app f.app.signer d.define))
          pick true q f = unfold bind in refl
          pick false q f = unfold bind known_from map_option in
              rw (app-gone (apps_of rs) b d.app, eqb-sym b d.app, q, f.there, f.number)

  definition-new : (i : Bool) (m : Manifest) (p : ℕ) → is_some (app_at (apps_of rs) m.app) ≡ false
      → any (λ d. is_some (defined_in (apps_of rs) ds d.permission)) m.defines ≡ false
      → defined_in (apps_of rs ++ (app_of i m ∷ [])) (ds ++ map (definition_of m) m.defines) p
      ≡ or_find (known_in m p) (defined_in (apps_of rs) ds p)
  unfolding defined_in known_in
  definition-new i m p new undefined =
      ap (λ (o : Option Definition). bind o (known_from more))
      (find-append (λ d. eqb d.define.permission p) ds (map (definition_of m) m.defines)
      ∙ ap (or_find (definition ds p)) (find-map (λ d. eqb d.define.permission p) (definition_of m) m.defines))
      ∙ go (definition ds p) refl (find (λ d. eqb d.permission p) m.defines) refl
    where
      more : List App
      more = apps_of rs ++ (app_of i m ∷ [])

      -- the app of an old definition is not the new one
      old : (d : Definition) → Found (apps_of rs) d → known_from more d ≡ known_from (apps_of rs) d
      old d f = unfold known_from map_option in
          rw (app-new (apps_of rs) (app_of i m) d.app new) (by_eqb
          (λ t. map_option (λ a. known_by a.number a.signer d.define)
          (cond t (some (app_of i m)) (app_at (apps_of rs) d.app))
          ≡ map_option (λ a. known_by a.number a.signer d.define) (app_at (apps_of rs) d.app)) m.app d.app
          (λ e. absurd (clashing {t = is_some (app_at (apps_of rs) m.app)} (unfold is_some in rw (e, f.there)) new))
          (λ _. refl))

      go : (o : Option Definition) → definition ds p ≡ o → (q : Option Define)
          → find (λ d. eqb d.permission p) m.defines ≡ q
          → bind (or_find o (map_option (definition_of m) q)) (known_from more)
          ≡ or_find (map_option (known_by m.app m.signer) q) (bind o (known_from (apps_of rs)))
      go none e none h = unfold map_option or_find bind in refl
      go none e (some c) h = unfold map_option or_find bind known_from in
          rw (app-new (apps_of rs) (app_of i m) m.app new, eqb_same m.app)
      go (some d) e none h = unfold map_option or_find bind in old d (found p d e)
      go (some d) e (some c) h =
          let z = not_taken (λ d. d.permission) (λ p. is_some (defined_in (apps_of rs) ds p)) m.defines p undefined
          (find-any (λ d. eqb d.permission p) m.defines c h) in
          absurd (clashing {t = is_some (defined_in (apps_of rs) ds p)}
          (unfold is_some bind defined_in in rw (e, known-found d (found p d e))) z)

or_some : (a b : Option Known) → is_some b ≡ true → is_some (or_find a b) ≡ true
unfolding or_find is_some
or_some none b h = h
or_some (some x) b h = refl

-- what an app defines is known
known-defined : (s : State) (p : ℕ) → is_some (defined_in (apps_of s.rows) s.definitions p) ≡ true
    → is_some (known (view_of s) p) ≡ true
unfolding known view_of
known-defined s p h = or_some (built_in p) (defined_in (apps_of s.rows) s.definitions p) h

pub defined-step : (L : Limits) (s : State) (x : Action) (g : Ground) (v : ℕ) → answer L (view_of s) x ≡ done g v
    → Ok L s → (p : ℕ)
    → defined_in (apps_of (apps_after s.definitions s.rows x)) (definitions_after s.definitions x) p
    ≡ define_by x p (defined_in (apps_of s.rows) s.definitions p)
defined-step L s x g v e ok p =
    ap (λ (apps : List App). defined_in apps (definitions_after s.definitions x) p)
    (apps-after s.definitions s.rows x) ∙ go x e
  where
    by_app : Define → Bool
    by_app d = is_some (defined_in (apps_of s.rows) s.definitions d.permission)

    -- what an app defines is known
    is_known : (d : Define) → by_app d ≡ true → is_some (known (view_of s) d.permission) ≡ true
    is_known d h = known-defined s d.permission h

    go : (x : Action) → answer L (view_of s) x ≡ done g v
        → defined_in (installed_after (apps_of s.rows) x) (definitions_after s.definitions x) p
        ≡ define_by x p (defined_in (apps_of s.rows) s.definitions p)
    go (on_apps (install i m)) e =
        let new = install-new L (view_of s) g v i m e in
        unfold installed_after definitions_after define_by view_of in
        definition-new s.rows s.definitions ok.tables.definers i m p new.app
        (flat (any by_app m.defines) (λ b. clashing
        (any-mono by_app (λ d. is_some (known (view_of s) d.permission)) is_known m.defines b) new.defines))
    go (on_apps (uninstall b)) e = unfold installed_after definitions_after define_by in
        definition-gone s.rows s.definitions ok.tables.definers ok.tables.definitions b p
    go (on_grants z) e = unfold installed_after definitions_after define_by in refl
    go (on_runs z) e = unfold installed_after definitions_after define_by in refl
    go (write q k u y) e = unfold installed_after definitions_after define_by in refl
    go (on_loans z) e = unfold installed_after definitions_after define_by in refl
    go (query z) e = unfold installed_after definitions_after define_by in refl
