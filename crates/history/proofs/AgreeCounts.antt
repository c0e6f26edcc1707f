-- The counts from the log agree with the lengths of the tables. A count goes through the log with the later actions in
-- hand; so what is compared, at each action, is how much of a table the later ones leave.
use Rattle.std.specs.Prelude.{ℕ, ◌+◌, ◌≡◌, ◌&&◌, ◌||◌}
use Rattle.std.proofs.Math.Path.{refl, sym, ap}
use Rattle.std.proofs.Common.{◌∙◌, length-append, zero-add}
use Rattle.std.proofs.Math.Bool.{Bool, true, false, not, cond}
use mathlib.Core.List.{List, [], ◌∷◌, ◌++◌, map, Memᴰ}
use Rattle.std.proofs.Math.Option.{Option, none, some}
use Rattle.std.proofs.Math.Dec.{eqb}
use Rattle.std.proofs.Math.ListN.{length}
use Rattle.std.proofs.Math.Nat.{add_comm}
use Rattle.manifest.specs.Layout.{Manifest}
use Rattle.manifest.specs.Good.{is_provider, is_provider_of}
use Rattle.manifest.specs.declared.Component.{Component}
use Rattle.manifest.specs.declared.Resource.{Resource}
use Rattle.rules.specs.declared.Part.{Part}
use Rattle.rules.specs.declared.Instance.{Instance}
use Rattle.rules.specs.declared.Ground.{Ground}
use Rattle.rules.specs.Lists.{any, all, keep, find, distinct, is_some, test, bind, map_option, or_find}
use Rattle.rules.specs.ListsLaws.{find-append, all-mem, any-mono, none_any, keep_append, keep-keep, keep-map, keep-mem}
use Rattle.rules.specs.ListsLaws.{keep_all, none_kept, length-map, eqb-sym, and_left, clashing}
use Rattle.rules.specs.Limits.{Limits}
use Rattle.rules.specs.Action.{install, uninstall, start, stop, Action, on_apps, on_grants, on_runs, write, on_loans}
use Rattle.rules.specs.Action.{query}
use Rattle.rules.specs.View.{App, app_of, part_of}
use Rattle.rules.specs.Answer.{done, answer}
use Rattle.rules.specs.DoneLaws.{install-good, install-new, provided}
use Rattle.state.specs.Tables.{State, part_at, owned_by, view_of}
use Rattle.state.specs.Effects.{parts_after, put, resources_after, instances_after}
use Rattle.state.proofs.LookupLaws.{installed_after, owner-is, has_provider}
use Rattle.state.specs.Valid.{same_part}
use Rattle.state.specs.Ok.{Ok}
use Rattle.history.specs.Log.{Past, unless, is_of, uninstalls, installed, stops, started}
use Rattle.history.proofs.AgreeApps.{part-gone, part-new}

-- ---- what the later actions leave of a list, if each ends what has a number
module _ (ends : ℕ → Action → Bool) where
  abbrev pub stays : List Past → ℕ → Bool
  stays newer n = not (any (λ e. ends n e.action) newer)

  abbrev pub left : {A : Type 0} → (A → ℕ) → List Past → List A → ℕ
  left number newer l = length (keep (λ x. stays newer (number x)) l)

  left-append : {A : Type 0} (number : A → ℕ) (newer : List Past) (l k : List A)
      → left number newer (l ++ k) ≡ left number newer l + left number newer k
  left-append number newer l k = ap length (keep_append (λ x. stays newer (number x)) l k)
      ∙ length-append (keep (λ x. stays newer (number x)) l) _

  pub left-whole : {A : Type 0} (number : A → ℕ) (l : List A) → left number [] l ≡ length l
  left-whole number l = ap length (keep_all (λ x. true) l (λ x _. refl))

  -- one more
  left-more : {A : Type 0} (number : A → ℕ) (newer : List Past) (l : List A) (x : A)
      → left number newer (l ++ (x ∷ []))
      ≡ cond (any (λ e. ends (number x) e.action) newer) 0 1 + left number newer l
  left-more number newer l x = left-append number newer l (x ∷ [])
      ∙ add_comm (left number newer l) (left number newer (x ∷ []))
      ∙ ap (λ (n : ℕ). n + left number newer l) (one (any (λ e. ends (number x) e.action) newer))
    where
      one : (t : Bool) → length (cond (not t) (x ∷ []) []) ≡ cond t 0 1
      one true = refl
      one false = refl

  -- the action ends what has number b
  left-gone : {A : Type 0} (number : A → ℕ) (newer : List Past) (l : List A) (e : Past) (b : ℕ)
      → ((n : ℕ) → ends n e.action ≡ eqb b n)
      → left number newer (keep (λ x. not (eqb (number x) b)) l) ≡ left number (e ∷ newer) l
  left-gone number newer l e b h = ap length (keep-keep (λ x. stays newer (number x)) (λ x. not (eqb (number x) b)) l
      ∙ keep-mem (λ x. not (eqb (number x) b) && stays newer (number x)) (λ x. stays (e ∷ newer) (number x)) l
      (λ x _. rw (h (number x), eqb-sym (number x) b)
      (out (eqb b (number x)) (any (λ e. ends (number x) e.action) newer))))
    where
      out : (s t : Bool) → not s && not t ≡ not (s || t)
      out true t = refl
      out false t = refl

all-or-none : {A : Type 0} (t : Bool) (l : List A) → length (keep (λ x. not t) l) ≡ cond t 0 (length l)
all-or-none true l = ap length (none_kept (λ x. false) l (λ x _. refl))
all-or-none false l = ap length (keep_all (λ x. true) l (λ x _. refl))

module _ (newer : List Past) (v : ℕ) where
  abbrev pub past : Action → Past
  past x = record { action = x; value = v }

  -- ---- apps
  pub apps-count : (apps : List App) (x : Action)
      → left uninstalls (λ a. a.number) newer (installed_after apps x)
      ≡ installed (λ m. 1) newer x + left uninstalls (λ a. a.number) (past x ∷ newer) apps
  unfolding installed_after installed uninstalls
  apps-count apps (on_apps (install i m)) = left-more uninstalls (λ a. a.number) newer apps (app_of i m)
  apps-count apps (on_apps (uninstall b)) =
      left-gone uninstalls (λ a. a.number) newer apps (past (on_apps (uninstall b))) b (λ n. refl) ∙ sym (zero-add _)
  apps-count apps (on_grants z) = sym (zero-add _)
  apps-count apps (on_runs z) = sym (zero-add _)
  apps-count apps (write p k u x) = sym (zero-add _)
  apps-count apps (on_loans z) = sym (zero-add _)
  apps-count apps (query z) = sym (zero-add _)

  -- ---- components
  pub components-count : (ks : List Part) (x : Action)
      → left uninstalls (λ k. k.app) newer (parts_after ks x)
      ≡ installed (λ m. length m.components) newer x + left uninstalls (λ k. k.app) (past x ∷ newer) ks
  unfolding parts_after installed uninstalls
  components-count ks (on_apps (install i m)) =
      left-append uninstalls (λ k. k.app) newer ks (map (part_of m) m.components)
      ∙ rw mine (add_comm (left uninstalls (λ k. k.app) newer ks) _)
    where
      mine : left uninstalls (λ k. k.app) newer (map (part_of m) m.components)
          ≡ cond (any (λ e. uninstalls m.app e.action) newer) 0 (length m.components)
      mine = ap length (keep-map (λ k. stays uninstalls newer k.app) (part_of m) m.components)
          ∙ length-map (part_of m) (keep (λ c. stays uninstalls newer m.app) m.components)
          ∙ all-or-none (any (λ e. uninstalls m.app e.action) newer) m.components
  components-count ks (on_apps (uninstall b)) =
      left-gone uninstalls (λ k. k.app) newer ks (past (on_apps (uninstall b))) b (λ n. refl) ∙ sym (zero-add _)
  components-count ks (on_grants z) = sym (zero-add _)
  components-count ks (on_runs z) = sym (zero-add _)
  components-count ks (write p k u x) = sym (zero-add _)
  components-count ks (on_loans z) = sym (zero-add _)
  components-count ks (query z) = sym (zero-add _)

  -- ---- running instances
  pub running-count : (is : List Instance) (x : Action)
      → left stops (λ i. i.number) newer (instances_after is x v)
      ≡ started newer x v + left stops (λ i. i.number) (past x ∷ newer) is
  unfolding instances_after started stops
  running-count is (on_apps z) = sym (zero-add _)
  running-count is (on_grants z) = sym (zero-add _)
  running-count is (on_runs (start c k)) =
      left-more stops (λ i. i.number) newer is (record { number = v; component = c })
  running-count is (on_runs (stop k)) =
      left-gone stops (λ i. i.number) newer is (past (on_runs (stop k))) k (λ n. refl) ∙ sym (zero-add _)
  running-count is (write p k u x) = sym (zero-add _)
  running-count is (on_loans z) = sym (zero-add _)
  running-count is (query z) = sym (zero-add _)

-- ---- resources, by the app of their provider
abbrev pub left_resources : List Part → List Past → List Resource → ℕ
left_resources ks newer rs =
    length (keep (λ r. test (part_at ks r.provider) (λ k. stays uninstalls newer k.app)) rs)

pub resources-whole : (ks : List Part) (rs : List Resource) → all (has_provider ks) rs ≡ true
    → left_resources ks [] rs ≡ length rs
unfolding part_at
resources-whole ks rs own = ap length (keep_all (λ r. test (part_at ks r.provider) (λ k. true)) rs
    (λ r m. there r.provider (find (λ k. eqb k.component.number r.provider) ks) refl
    (all-mem (has_provider ks) m own)))
  where
    there : (p : ℕ) (o : Option Part) → find (λ k. eqb k.component.number p) ks ≡ o
        → any (λ k. eqb k.component.number p) ks ≡ true → test o (λ k. true) ≡ true
    there p none e h = absurd (clashing h (none_any (λ k. eqb k.component.number p) ks e))
    there p (some k) e h = unfold test in refl

module _ (ks : List Part) (rs : List Resource) (newer : List Past) where
  abbrev stands : Part → Bool
  stands k = stays uninstalls newer k.app

  -- a component that is there is found also among more of them
  stands-still : (more : List Part) (p : ℕ) → any (λ k. eqb k.component.number p) ks ≡ true
      → test (part_at (ks ++ more) p) stands ≡ test (part_at ks p) stands
  unfolding part_at or_find
  stands-still more p h =
      ap (λ (o : Option Part). test o stands) (find-append (λ k. eqb k.component.number p) ks more)
      ∙ found (find (λ k. eqb k.component.number p) ks) refl
    where
      found : (o : Option Part) → find (λ k. eqb k.component.number p) ks ≡ o
          → test (or_find o (find (λ k. eqb k.component.number p) more)) stands ≡ test o stands
      found none e = absurd (clashing h (none_any (λ k. eqb k.component.number p) ks e))
      found (some k) e = refl

  resources-install : (m : Manifest) → all (has_provider ks) rs ≡ true
      → any (λ c. is_some (part_at ks c.number)) m.components ≡ false
      → all (λ r. any (is_provider_of r.provider) m.components) m.resources ≡ true
      → left_resources (ks ++ map (part_of m) m.components) newer (rs ++ m.resources)
      ≡ cond (any (λ e. uninstalls m.app e.action) newer) 0 (length m.resources) + left_resources ks newer rs
  resources-install m there new fine = ap length (keep_append f rs m.resources) ∙ length-append (keep f rs) _
      ∙ rw (old, mine) (add_comm (left_resources ks newer rs) _)
    where
      f : Resource → Bool
      f r = test (part_at (ks ++ map (part_of m) m.components) r.provider) stands

      old : keep f rs ≡ keep (λ r. test (part_at ks r.provider) stands) rs
      old = keep-mem f (λ r. test (part_at ks r.provider) stands) rs
          (λ r h. stands-still (map (part_of m) m.components) r.provider (all-mem (has_provider ks) h there))

      own : (p : ℕ) (o : Option Component) → find (λ c. eqb c.number p) m.components ≡ o
          → any (λ c. eqb c.number p) m.components ≡ true
          → test (or_find (map_option (part_of m) o) (part_at ks p)) stands ≡ stays uninstalls newer m.app
      own p none e h = absurd (clashing h (none_any (λ c. eqb c.number p) m.components e))
      own p (some c) e h = unfold or_find map_option test in refl

      named : {r : Resource} → Memᴰ r m.resources
          → any (λ c. eqb c.number r.provider) m.components ≡ true
      named {r} h = any-mono (is_provider_of r.provider) (λ c. eqb c.number r.provider)
          (λ c e. and_left (eqb c.number r.provider) (is_provider c) e) m.components
          (all-mem (λ r. any (is_provider_of r.provider) m.components) h fine)

      mine : length (keep f m.resources)
          ≡ cond (any (λ e. uninstalls m.app e.action) newer) 0 (length m.resources)
      mine = ap length (keep-mem f (λ r. stays uninstalls newer m.app) m.resources
          (λ r h. ap (λ (o : Option Part). test o stands) (part-new ks m r.provider new)
          ∙ own r.provider (find (λ c. eqb c.number r.provider) m.components) refl (named h)))
          ∙ all-or-none (any (λ e. uninstalls m.app e.action) newer) m.resources

  resources-uninstall : (b v : ℕ) → distinct same_part ks ≡ true
      → left_resources (keep (λ k. not (eqb k.app b)) ks) newer (keep (λ r. not (owned_by ks b r.provider)) rs)
      ≡ left_resources ks (past newer v (on_apps (uninstall b)) ∷ newer) rs
  unfolding uninstalls
  resources-uninstall b v one = ap length (keep-keep f (λ r. not (owned_by ks b r.provider)) rs
      ∙ keep-mem (λ r. not (owned_by ks b r.provider) && f r) (λ r. test (part_at ks r.provider) after) rs
      (λ r _. rw (owner-is ks one b r.provider, part-gone ks one b r.provider) (go (part_at ks r.provider))))
    where
      f : Resource → Bool
      f r = test (part_at (keep (λ k. not (eqb k.app b)) ks) r.provider) stands

      after : Part → Bool
      after k = not (eqb b k.app || any (λ e. uninstalls k.app e.action) newer)

      go : (o : Option Part) → not (test o (is_of b)) && test (unless (is_of b) o) stands ≡ test o after
      go none = unfold test unless bind in refl
      go (some k) = unfold test unless bind in rw (eqb-sym b k.app) (pick (eqb k.app b))
        where
          pick : (t : Bool) → not t && test (cond t none (some k)) stands
              ≡ not (t || any (λ e. uninstalls k.app e.action) newer)
          pick true = refl
          pick false = unfold test in refl

pub resources-count : (L : Limits) (s : State) (newer : List Past) (x : Action) (g : Ground) (v : ℕ)
    → answer L (view_of s) x ≡ done g v → Ok L s
    → left_resources (parts_after s.parts x) newer (resources_after s.parts s.resources x)
    ≡ installed (λ m. length m.resources) newer x
    + left_resources s.parts (record { action = x; value = v } ∷ newer) s.resources
unfolding parts_after resources_after installed uninstalls view_of put
resources-count L s newer (on_apps (install i m)) g v e ok =
    resources-install s.parts s.resources newer m ok.tables.providers
    (install-new L (view_of s) g v i m e).components (provided m (install-good L (view_of s) g v i m e))
resources-count L s newer (on_apps (uninstall b)) g v e ok =
    resources-uninstall s.parts s.resources newer b v ok.tables.parts ∙ sym (zero-add _)
resources-count L s newer (on_grants z) g v e ok = sym (zero-add _)
resources-count L s newer (on_runs z) g v e ok = sym (zero-add _)
resources-count L s newer (write p n u x) g v e ok =
    ap length (keep-map there (put p u x) s.resources) ∙ length-map (put p u x) (keep there s.resources)
    ∙ sym (zero-add _)
  where
    there : Resource → Bool
    there r = test (part_at s.parts r.provider) (λ k. stays uninstalls newer k.app)
resources-count L s newer (on_loans z) g v e ok = sym (zero-add _)
resources-count L s newer (query z) g v e ok = sym (zero-add _)
