-- Every accepted action keeps the running instances valid: an uninstall finds none of its app running.
use Prim.Native.Nat.{ℕ}
use Rattle.std.specs.Prelude.{◌≡◌, true}
use Rattle.std.proofs.Common.{◌∙◌}
use Rattle.std.proofs.Math.Bool.{Bool, false, not}
use Rattle.std.proofs.lemmas.Bool.{false≢true}
use mathlib.Core.List.{List, ◌++◌, Memᴰ}
use Rattle.std.proofs.Math.Option.{Option, none, some}
use Rattle.std.proofs.Math.Dec.{eqb}
use borrow.Author.Tests.{eqb-true}
use Rattle.manifest.specs.Good.{is_provider}
use Rattle.rules.specs.declared.Part.{Part}
use Rattle.rules.specs.declared.Instance.{Instance}
use Rattle.rules.specs.declared.Ground.{Ground}
use Rattle.rules.specs.Lists.{all, keep, find, distinct, test, map_option, or_find, upto}
use Rattle.rules.specs.ListsLaws.{all_append, all-mono, all_keep, all-mem, mem-all, any-mem, none-mem, find-append}
use Rattle.rules.specs.ListsLaws.{found}
use Rattle.rules.specs.UptoLaws.{within, among-upto}
use Rattle.rules.specs.Limits.{Limits}
use Rattle.rules.specs.Action.{install, uninstall, start, stop, Action, on_apps, on_grants, on_runs, write, on_loans}
use Rattle.rules.specs.Action.{query}
use Rattle.rules.specs.Refusals.{is_running}
use Rattle.rules.specs.Answer.{done, answer}
use Rattle.rules.specs.DoneLaws.{uninstall-idle, start-part}
use Rattle.state.specs.Tables.{State, part_at, owned_by, run_in, view_of}
use Rattle.state.specs.Effects.{parts_after, instances_after, next}
use Rattle.state.specs.Valid.{same_part}
use Rattle.state.specs.Ok.{InstancesOk}
use Rattle.state.proofs.LookupLaws.{owner-is, instances-distinct, instances-range}
use Rattle.state.proofs.ManifestLaws.{found-still}

-- a component that is there stays so when others come
pub part-more : (ks js : List Part) (c : ℕ) (f : Part → Bool) → test (part_at ks c) f ≡ true
    → test (part_at (ks ++ js) c) f ≡ true
unfolding part_at
part-more ks js c f e = rw (find-append (λ k. eqb k.component.number c) ks js)
    (go (find (λ k. eqb k.component.number c) ks) e)
  where
    go : (o : Option Part) → test o f ≡ true
        → test (or_find o (find (λ k. eqb k.component.number c) js)) f ≡ true
    go none e = absurd (false≢true (unfold test in e))
    go (some k) e = unfold or_find in e

-- and when an app goes that does not own it
pub part-less : (ks : List Part) (b c : ℕ) → owned_by ks b c ≡ false
    → part_at (keep (λ k. not (eqb k.app b)) ks) c ≡ part_at ks c
unfolding part_at owned_by
part-less ks b c n = found-still (λ k. k.app) b (λ k. eqb k.component.number c) ks n

module _ (L : Limits) (s : State) (one : distinct same_part s.parts ≡ true) (ok : InstancesOk L s) where
  -- an instance that runs is none of an idle app
  idle : (b : ℕ) → is_running L (view_of s) b ≡ false → {i : Instance} → Memᴰ i s.instances
      → owned_by s.parts b i.component ≡ false
  unfolding is_running view_of run_in map_option test
  idle b n {i} m =
      let r = all-mem (λ i. within L.instances i.number) m ok.range in
      let k = any-mem (eqb i.number) (upto L.instances) (among-upto L.instances i.number r) in
      let q : i.number ≡ k.0 = eqb-true i.number k.0 k.2 in
      let t : its k.0 ≡ false = none-mem its k.1 n in
      let f = found (λ i. i.number) m ok.numbers in
      owner-is s.parts one b i.component ∙ (rw (← q, f) at t)
    where
      -- the instance of a number is the app's
      its : ℕ → Bool
      its n = test (run_in s.instances n) (λ c. test (part_at s.parts c) (λ k. eqb k.app b))

  abbrev runnable : List Part → Instance → Bool
  runnable ks i = test (part_at ks i.component) (λ k. not (is_provider k.component))

  components-ok : (x : Action) (g : Ground) (v : ℕ) → answer L (view_of s) x ≡ done g v
      → all (runnable (parts_after s.parts x)) (instances_after s.instances x v) ≡ true
  unfolding instances_after parts_after view_of
  components-ok (on_apps (install i m)) g v e = all-mono (runnable s.parts) (runnable (s.parts ++ _))
      (λ i h. part-more s.parts _ i.component (λ k. not (is_provider k.component)) h) s.instances
      ok.components
  components-ok (on_apps (uninstall b)) g v e =
      mem-all (runnable (keep (λ k. not (eqb k.app b)) s.parts)) s.instances
      (λ i m. rw (part-less s.parts b i.component (idle b (uninstall-idle L (view_of s) g v b e) m))
      (all-mem (runnable s.parts) m ok.components))
  components-ok (on_grants z) g v e = ok.components
  components-ok (on_runs (start c n)) g v e = all_append (runnable s.parts) s.instances _
      ∙ rw (ok.components, start-part L (view_of s) g v c n e)
  components-ok (on_runs (stop n)) g v e = all_keep (runnable s.parts) (runnable s.parts)
      (λ i. not (eqb i.number n)) (λ i h _. h) s.instances ok.components
  components-ok (write p n u x) g v e = ok.components
  components-ok (on_loans z) g v e = ok.components
  components-ok (query z) g v e = ok.components

  pub instances-ok : (x : Action) (g : Ground) (v : ℕ) → answer L (view_of s) x ≡ done g v
      → InstancesOk L (next s x v)
  unfolding next
  instances-ok x g v e = record {
    numbers = instances-distinct L s x g v e ok.numbers;
    range = instances-range L s x g v e ok.range;
    components = components-ok x g v e;
  }
