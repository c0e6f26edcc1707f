-- The log rule of values agrees with the table of resources, action by action.
use Rattle.std.specs.Prelude.{ℕ, ◌≡◌, Bool, false, not, ◌&&◌, cond, List, ◌++◌, map}
use Rattle.std.proofs.Math.Path.{refl}
use Rattle.std.proofs.Common.{ap, ◌∙◌, eqb-true}
use Rattle.std.proofs.Math.Bool.{true}
use Rattle.std.proofs.lemmas.Bool.{false≢true}
use Rattle.std.proofs.Math.Option.{Option, none, some}
use Rattle.std.proofs.Math.Dec.{eqb}
use Rattle.manifest.specs.Layout.{Manifest}
use Rattle.manifest.specs.Good.{is_provider, is_provider_of}
use Rattle.manifest.specs.declared.Resource.{Resource}
use Rattle.rules.specs.declared.Part.{Part}
use Rattle.rules.specs.declared.Ground.{Ground}
use Rattle.rules.specs.Lists.{any, all, keep, find, is_some, map_option, or_find}
use Rattle.rules.specs.ListsLaws.{find-append, find-map, find-keep, find-cong, find-and, find-holds, find-any}
use Rattle.rules.specs.ListsLaws.{find_none, all_any, any-mono, none_any, eqb-sym, and-false, and_left, and_right, flat}
use Rattle.rules.specs.ListsLaws.{clashing}
use Rattle.rules.specs.Limits.{Limits}
use Rattle.rules.specs.Action.{install, uninstall, Action, on_apps, on_grants, on_runs, write, on_loans, query}
use Rattle.rules.specs.Answer.{done, answer}
use Rattle.rules.specs.DoneLaws.{install-good, install-new, provided, write-there, nothing}
use Rattle.state.specs.Tables.{State, part_at, owned_by, is_resource, value_in, view_of}
use Rattle.state.specs.Effects.{put, resources_after}
use Rattle.state.proofs.LookupLaws.{owner-is, has_provider}
use Rattle.state.specs.Ok.{Ok}
use Rattle.history.specs.Log.{first_value, value_by}
use Rattle.history.proofs.SearchLaws.{not_taken}

same-resource : (p u : ℕ) (r : Resource) → is_resource p u r ≡ true → (r.provider ≡ p) × (r.uri ≡ u)
unfolding is_resource
same-resource p u r e =
    (eqb-true r.provider p (and_left _ _ e), eqb-true r.uri u (and_right (eqb r.provider p) _ e))

removed : (ks : List Part) (rs : List Resource) (b p u : ℕ)
    → value_in (keep (λ r. not (owned_by ks b r.provider)) rs) p u ≡ cond (owned_by ks b p) none (value_in rs p u)
unfolding value_in map_option
removed ks rs b p u = rw (
  find-keep (is_resource p u) (λ r. not (owned_by ks b r.provider)) rs,
  find-cong each rs,
  find-and (not (owned_by ks b p)) (is_resource p u) rs,
) (out (owned_by ks b p))
  where
    each : (r : Resource)
        → not (owned_by ks b r.provider) && is_resource p u r ≡ not (owned_by ks b p) && is_resource p u r
    each r = go (is_resource p u r) refl
      where
        go : (t : Bool) → is_resource p u r ≡ t → not (owned_by ks b r.provider) && t ≡ not (owned_by ks b p) && t
        go true e = rw (same-resource p u r e).0
        go false e = simp and-false

    out : (t : Bool) → map_option (λ r. r.value) (cond (not t) (find (is_resource p u) rs) none)
        ≡ cond t none (map_option (λ r. r.value) (find (is_resource p u) rs))
    out true = refl
    out false = refl

written : (rs : List Resource) (q y x p u : ℕ) → is_some (value_in rs q y) ≡ true
    → value_in (map (put q y x) rs) p u ≡ cond (eqb q p && eqb y u) (some x) (value_in rs p u)
unfolding value_in put is_resource map_option is_some
written rs q y x p u here = rw (find-map (is_resource p u) (put q y x) rs) (go (find (is_resource p u) rs) refl)
  where
    go : (o : Option Resource) → find (is_resource p u) rs ≡ o
        → map_option (λ r. r.value) (map_option (put q y x) o)
        ≡ cond (eqb q p && eqb y u) (some x) (map_option (λ r. r.value) o)
    go none e = hit (eqb q p && eqb y u) refl
      where
        hit : (t : Bool) → eqb q p && eqb y u ≡ t → none ≡ cond t (some x) none
        hit true k =
            absurd (false≢true (rw (eqb-true q p (and_left _ _ k), eqb-true y u (and_right (eqb q p) _ k), e) at here))
        hit false k = refl
    go (some r) e =
        let k = same-resource p u r (find-holds (is_resource p u) rs r e) in
        rw (k.0, k.1, eqb-sym p q, eqb-sym u y) (pick (eqb q p && eqb y u))
      where
        pick : (t : Bool) → some (cond t x r.value) ≡ cond t (some x) (some r.value)
        pick true = refl
        pick false = refl

module _ (ks : List Part) (rs : List Resource) (m : Manifest)
    (fine : all (λ r. any (is_provider_of r.provider) m.components) m.resources ≡ true)
    (new : any (λ c. is_some (part_at ks c.number)) m.components ≡ false)
    (own : all (has_provider ks) rs ≡ true) where
  -- the provider of a manifest's resource is one of its components
  among : (p u : ℕ) (r : Resource) → find (is_resource p u) m.resources ≡ some r
      → any (λ c. eqb c.number p) m.components ≡ true
  among p u r e =
      let t = all_any (λ r. any (is_provider_of r.provider) m.components) (is_resource p u) m.resources fine
      (find-any (is_resource p u) m.resources r e) in
      let q = (same-resource p u t.0 t.2).0 in
      any-mono (is_provider_of t.0.provider) (λ c. eqb c.number p)
      (λ c h. rw q at (and_left (eqb c.number t.0.provider) (is_provider c) h)) m.components t.1

  -- and so no old resource has it
  unheard : (p u : ℕ) → any (λ c. eqb c.number p) m.components ≡ true → any (is_resource p u) rs ≡ false
  unfolding part_at
  unheard p u h = flat (any (is_resource p u) rs) (λ b.
      let s = all_any (has_provider ks) (is_resource p u) rs own b in
      let o : any (λ k. eqb k.component.number p) ks ≡ true = rw (same-resource p u s.0 s.2).0 at s.1 in
      let z = not_taken (λ c. c.number) (λ c. is_some (part_at ks c)) m.components p new h in
      clashing o (none_any (λ k. eqb k.component.number p) ks (nothing (part_at ks p) z)))

  first-values : (p u : ℕ) → value_in (rs ++ m.resources) p u ≡ or_find (first_value m p u) (value_in rs p u)
  unfolding value_in is_resource or_find first_value map_option
  first-values p u =
      rw (find-append (is_resource p u) rs m.resources) (go (find (is_resource p u) m.resources) refl)
    where
      go : (o : Option Resource) → find (is_resource p u) m.resources ≡ o
          → map_option (λ r. r.value) (or_find (find (is_resource p u) rs) o)
          ≡ or_find (map_option (λ r. r.value) o) (map_option (λ r. r.value) (find (is_resource p u) rs))
      go none e = old (find (is_resource p u) rs)
        where
          old : (o : Option Resource) → map_option (λ r. r.value) (or_find o none) ≡ map_option (λ r. r.value) o
          old none = refl
          old (some r) = refl
      go (some r) e = rw (find_none (is_resource p u) rs (unheard p u (among p u r e)))

pub value-step : (L : Limits) (s : State) (x : Action) (g : Ground) (v : ℕ) → answer L (view_of s) x ≡ done g v → Ok L s
    → (p u : ℕ) → value_in (resources_after s.parts s.resources x) p u
    ≡ value_by (part_at s.parts p) x p u (value_in s.resources p u)
unfolding resources_after value_by view_of
value-step L s (on_apps (install i m)) g v e ok p u =
    first-values s.parts s.resources m (provided m (install-good L (view_of s) g v i m e))
    (install-new L (view_of s) g v i m e).components ok.tables.providers p u
value-step L s (on_apps (uninstall b)) g v e ok p u = removed s.parts s.resources b p u
    ∙ ap (λ (t : Bool). cond t none (value_in s.resources p u)) (owner-is s.parts ok.tables.parts b p)
value-step L s (on_grants z) g v e ok p u = refl
value-step L s (on_runs z) g v e ok p u = refl
value-step L s (write q n y x) g v e ok p u =
    written s.resources q y x p u (write-there L (view_of s) g v q n y x e)
value-step L s (on_loans z) g v e ok p u = refl
value-step L s (query z) g v e ok p u = refl
