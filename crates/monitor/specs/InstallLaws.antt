-- A loop over a section puts its entries to a table in turn, and the tables that an install makes are those of the next
-- state.
use Prim.Native.Nat.{ℕ, zero, suc, ◌+◌, ◌-◌, ◌*◌, ◌≤◌, ◌<◌}
use Rattle.std.proofs.Math.Nat.{mul-suc}
use Rattle.std.specs.Prelude.{◌≡◌, Bool, true, false, cond, eqb}
use Rattle.std.proofs.Math.Path.{refl, ap}
use Rattle.std.proofs.Common.{◌∙◌, le-leb, leb-true, eqb-true}
use Rattle.std.proofs.lemmas.Bool.{false≢true}
use mathlib.Core.List.{List, [], ◌∷◌, ◌++◌, map, append_assoc, append-nil}
use native.Mathlib.Omega.{arith}
use Rattle.std.proofs.Math.ListN.{length, length-append}
use Rattle.manifest.specs.declared.Resource.{Resource}
use Rattle.manifest.specs.Layout.{Manifest, entries, end_place, laid_out, blank, manifest_of}
use Rattle.manifest.specs.Good.{good, good_bytes, at_most, uses_rise}
use Rattle.manifest.specs.GoodLaws.{and_parts, good-parts}
use Rattle.manifest.specs.Verdict.{entry_at, sections_of, verdict_of}
use Rattle.manifest.specs.declared.Sections.{Sections}
use Rattle.std.specs.Prelude.{Some, None}
use Rattle.rules.specs.ListsLaws.{both, length-map, map-append}
use Rattle.rules.specs.Limits.{large}
use Rattle.rules.specs.Action.{on_apps, install}
use Rattle.rules.specs.View.{part_of, definition_of}
use Rattle.state.specs.Tables.{Row, State}
use Rattle.state.specs.Effects.{apps_after, definitions_after, parts_after, resources_after, instances_after}
use Rattle.state.specs.Effects.{loans_after}
use Rattle.state.specs.Effects.{next}
use Rattle.state.specs.Stored.{app_from, device_of, zero_app, zero_definition, zero_part, zero_resource}
use Rattle.state.specs.Capacity.{Fits}
use Rattle.tables.specs.Held.{definitions_table, parts_table, resources_table}
use Rattle.tables.specs.HeldLaws.{entry-more}
use Rattle.state.specs.Listed.{appended}
use Rattle.monitor.specs.Installing.{append_all, new_row, add_use, Within, app_made, install_made}
use Rattle.monitor.specs.GrantLaws.{apps_of_rows, rows-by}

-- ---- the loop over a section
module _ {T A : Type 0} (append : T → A → T) (f : ℕ → A) (size : ℕ) where
  pub section-next : (t u : T) (a n : ℕ) (x : A) → 0 < n → x ≡ f a → u ≡ append t x
      → append_all append t (entries f size a n) ≡ append_all append u (entries f size (a + size) (n - 1))
  unfolding append_all
  section-next t u a zero x h e q = absurd (omega arith)
  section-next t u a (suc n) x h e q = let o : suc n - 1 ≡ n = omega arith in rw (o, q, e)

  pub section-ends : (t : T) (a n : ℕ) → n ≤ 0 → append_all append t (entries f size a n) ≡ t
  unfolding append_all
  section-ends t a zero h = refl
  section-ends t a (suc n) h = absurd (omega arith)

-- an entry that is all there
pub entry-there : {A : Type 0} (z : A) (f : List ℕ → ℕ → A) (size : ℕ) (s : List ℕ) (a : ℕ) → a + size ≤ length s
    → entry_at z f size s a ≡ f s a
entry-there z f size s a h = rw (le-leb (a + size) (length s) h)

-- each entry put by its place, where the section is all there
module _ {T A : Type 0} (append : T → A → T) (f g : ℕ → A) (size m : ℕ)
    (there : (a : ℕ) → a + size ≤ m → g a ≡ f a) where
  pub entries-placed : (t : T) (a n : ℕ) → a + size * n ≤ m
      → append_all (λ u b. append u (g b)) t (entries (λ b. b) size a n) ≡ append_all append t (entries f size a n)
  unfolding append_all
  entries-placed t a zero h = refl
  entries-placed t a (suc n) h =
      let k = mul-suc size n in
      ap (λ (x : A). append_all (λ u b. append u (g b)) (append t x) (entries (λ b. b) size (a + size) n))
      (there a (omega arith))
      ∙ entries-placed (append t (f a)) (a + size) n (omega arith)

pub entries-there : {T A : Type 0} (append : T → A → T) (z : A) (f : List ℕ → ℕ → A) (size : ℕ) (s : List ℕ) (t : T)
    (a n : ℕ) → a + size * n ≤ length s
    → append_all (λ u b. append u (entry_at z f size s b)) t (entries (λ b. b) size a n)
    ≡ append_all append t (entries (f s) size a n)
entries-there append z f size s =
    entries-placed append (f s) (entry_at z f size s) size (length s) (entry-there z f size s)

-- ---- entries put to the table of a list
module _ {T A B : Type 0} (n : ℕ) (table : List B → T) (mk : A → B) (append : T → A → T)
    (one : (l : List B) (x : A) → length l < n → append (table l) x ≡ table (l ++ (mk x ∷ []))) where
  all-appended : (l : List B) (xs : List A) → length l + length xs ≤ n
      → append_all append (table l) xs ≡ table (l ++ map mk xs)
  unfolding append_all
  all-appended l [] h = rw append-nil
  all-appended l (x ∷ xs) h =
      let len = length-append l (mk x ∷ []) in
      let room : length l < n = omega arith in
      ap (λ (t : T). append_all append t xs) (one l x room)
      ∙ all-appended (l ++ (mk x ∷ [])) xs (omega arith)
      ∙ ap table (append_assoc l (mk x ∷ []) (map mk xs))

map-itself : {A : Type 0} (l : List A) → map (λ x. x) l ≡ l
map-itself [] = refl
map-itself (x ∷ l) = rw (map-itself l)

module _ (number signer : ℕ) (image : Bool) where
  use-added : (l : List ℕ) (p : ℕ) → length l < 32
      → add_use (app_from (new_row number signer image l)) p ≡ app_from (new_row number signer image (l ++ (p ∷ [])))
  unfolding add_use
  use-added l p h = rw (entry-more 0 32 l p h)

  uses-added : (us : List ℕ) → length us ≤ 32
      → append_all add_use (app_from (new_row number signer image [])) us ≡ app_from (new_row number signer image us)
  uses-added us h =
      all-appended 32 (λ l. app_from (new_row number signer image l)) (λ p. p) add_use use-added [] us (omega arith)
      ∙ ap (λ (l : List ℕ). app_from (new_row number signer image l)) (map-itself us)

-- ---- one row more
row-added : (rs : List Row) (r : Row) → length rs < 16
    → appended 16 (apps_of_rows rs) (app_from r) ≡ apps_of_rows (rs ++ (r ∷ []))
row-added rs r h =
    let n = length-map app_from rs in
    rows-by (λ t. appended 16 t (app_from r)) rs (rs ++ (r ∷ []))
    (entry-more zero_app 16 (map app_from rs) (app_from r) (omega arith) ∙ rw (map-append app_from rs (r ∷ [])))

-- ---- a good manifest
pub good-ends : (z : List ℕ) → good (manifest_of z) ≡ true → eqb (end_place z) (length z) ≡ true
unfolding manifest_of
good-ends z e = go (eqb (end_place z) (length z)) e
  where
    go : (t : Bool) → good (cond t (laid_out z) blank) ≡ true → t ≡ true
    go true e = refl
    go false e = absurd (false≢true e)

module _ (z : List ℕ) (h : good (manifest_of z) ≡ true) where
  pub good-laid : manifest_of z ≡ laid_out z
  unfolding manifest_of
  good-laid = rw (good-ends z h)

  verdict-good : verdict_of z ≡ Some (sections_of z)
  verdict-good =
      let e : good_bytes z ≡ true = both (good-ends z h) (rw good-laid at h) in
      ap (λ (t : Bool). cond t (Some (sections_of z)) None) e

  pub sections-found : (m : Sections) → verdict_of z ≡ Some m → m ≡ sections_of z
  sections-found m e = let v = verdict-good in cc

  pub never-malformed : verdict_of z ≡ None → ⊥
  never-malformed e =
      let v = verdict-good in
      let f : ◌≡◌ {A = ℕ} 0 1 = cc in
      omega arith

  pub good-within : Within (sections_of z) (length z)
  good-within =
      let e = eqb-true (end_place z) (length z) (good-ends z h) in
      record { uses = omega arith; defines = omega arith; components = omega arith; resources = omega arith }

-- ---- the tables
module _ (s : State) (image : Bool) (z : List ℕ) (v : ℕ) where
  laid-made : Fits large (next s (on_apps (install image (laid_out z))) v) → length (laid_out z).uses ≤ 32
      → install_made z image (sections_of z) (device_of s) ≡ device_of (next s (on_apps (install image (laid_out z))) v)
  unfolding device_of next apps_after definitions_after parts_after resources_after instances_after loans_after
  laid-made fits few =
      λ j. record {
        apps = apps j;
        definitions = definitions j;
        parts = parts j;
        resources = resources j;
        instances = (device_of s).instances;
        lent = (device_of s).lent;
      }
    where
      m : Manifest
      m = laid_out z

      row : Row
      row = new_row m.app m.signer image m.uses

      apps : appended 16 (apps_of_rows s.rows) (app_made z image (sections_of z) (device_of s))
          ≡ apps_of_rows (s.rows ++ (row ∷ []))
      apps =
          let f : length (s.rows ++ (row ∷ [])) ≤ 16 = unfold next apps_after in fits.apps in
          let l = length-append s.rows (row ∷ []) in
          ap (appended 16 (apps_of_rows s.rows)) (uses-added m.app m.signer image m.uses few)
          ∙ row-added s.rows row (omega arith)

      definitions :
          append_all (λ t x. appended 256 t (definition_of m x)) (definitions_table s.definitions) m.defines
          ≡ definitions_table (s.definitions ++ map (definition_of m) m.defines)
      definitions =
          let f : length (s.definitions ++ map (definition_of m) m.defines) ≤ 256 =
          unfold next definitions_after in fits.definitions in
          let l = length-append s.definitions (map (definition_of m) m.defines) in
          let k = length-map (definition_of m) m.defines in
          all-appended 256 definitions_table (definition_of m) (λ t x. appended 256 t (definition_of m x))
          (λ l x. entry-more zero_definition 256 l (definition_of m x)) s.definitions m.defines (omega arith)

      parts : append_all (λ t x. appended 64 t (part_of m x)) (parts_table s.parts) m.components
          ≡ parts_table (s.parts ++ map (part_of m) m.components)
      parts =
          let f : length (s.parts ++ map (part_of m) m.components) ≤ 64 =
          unfold next parts_after in fits.components in
          let l = length-append s.parts (map (part_of m) m.components) in
          let k = length-map (part_of m) m.components in
          all-appended 64 parts_table (part_of m) (λ t x. appended 64 t (part_of m x))
          (λ l x. entry-more zero_part 64 l (part_of m x)) s.parts m.components (omega arith)

      resources : append_all (appended 128) (resources_table s.resources) m.resources
          ≡ resources_table (s.resources ++ m.resources)
      resources =
          let f : length (s.resources ++ m.resources) ≤ 128 = unfold next resources_after in fits.resources in
          let l = length-append s.resources m.resources in
          all-appended 128 resources_table (λ x. x) (appended 128) (entry-more zero_resource 128)
          s.resources m.resources
          (omega arith)
          ∙ ap (λ (r : List Resource). resources_table (s.resources ++ r)) (map-itself m.resources)

  pub install-made : good (manifest_of z) ≡ true → Fits large (next s (on_apps (install image (manifest_of z))) v)
      → install_made z image (sections_of z) (device_of s)
      ≡ device_of (next s (on_apps (install image (manifest_of z))) v)
  install-made h fits =
      let q = good-laid z h in
      let uses = (good-parts (laid_out z) (rw q at h)).uses in
      let few = leb-true (length (laid_out z).uses) 32
      (and_parts (at_most 32 (laid_out z).uses) (uses_rise 0 (laid_out z).uses) uses).0 in
      let f : Fits large (next s (on_apps (install image (laid_out z))) v) = rw q at fits in
      laid-made f few ∙ rw q
