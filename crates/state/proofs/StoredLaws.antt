-- The arrays that hold a state give the state back, for every state; those of a valid state are stored as they have to
-- be; and the ones of the running numbers count the instances.
use Rattle.std.specs.Prelude.{ℕ, zero, suc, ◌+◌, ◌-◌, ◌*◌, ◌/◌, ◌%◌, ◌≤◌, ◌≡◌, Bool, true, false, ◌&&◌, cond, length}
use Rattle.std.specs.Prelude.{take, replicate, eqb, leb}
use Rattle.std.proofs.Math.Path.{refl}
use Rattle.std.proofs.Common.{sym, ap, subst, ◌∙◌, length-append, arith, eq-eqb, le-leb}
use mathlib.Core.List.{List, [], ◌∷◌, map, Memᴰ}
use Rattle.std.proofs.lemmas.List.{length-replicate}
use Rattle.std.proofs.Math.Seq.{take-append_seam, drop-append_seam}
use Rattle.std.specs.Int.Count.{ones, ones_step}
use Rattle.rules.specs.declared.Instance.{Instance}
use Rattle.rules.specs.Lists.{any, all, keep, upto}
use Rattle.rules.specs.ListsLaws.{both, all_map, all-mono, length-map, mem-all, counted}
use Rattle.rules.specs.UptoLaws.{distinct-upto, among-upto}
use Rattle.rules.specs.Limits.{large}
use Rattle.rules.specs.Action.{bit}
use Rattle.state.specs.Tables.{Row, State}
use Rattle.state.specs.Valid.{valid}
use Rattle.state.specs.Ok.{valid→ok}
use Rattle.state.specs.Capacity.{Fits}
use Rattle.state.proofs.CapacityLaws.{valid-fits}
use Rattle.state.specs.Stored.{zero_app, zero_definition, zero_part, zero_resource, zero_instance, zero_loan, runs}
use Rattle.state.specs.Stored.{digits_of, mask_of, row_of, model_of, padded, app_from, device_of, lent_of, is_zero}
use Rattle.state.specs.Stored.{is_zero_definition, is_zero_part, is_zero_resource, is_zero_instance, is_zero_loan, pads}
use Rattle.state.specs.Stored.{app_pads, is_zero_app, formed, valid_stored}

-- ---- a list in its places
all_same : {A : Type 0} (f : A → Bool) (z : A) → f z ≡ true → (k : ℕ) → all f (replicate k z) ≡ true
all_same f z e zero = refl
all_same f z e (suc k) = both e (all_same f z e k)

module _ {A : Type 0} (z : A) (n : ℕ) (l : List A) where
  pub padded-list : take (length l) (padded z n l) ≡ l
  padded-list = take-append_seam l (replicate (n - length l) z)

  pub padded-length : length l ≤ n → length (padded z n l) ≡ n
  padded-length h =
      length-append l (replicate (n - length l) z) ∙ rw (length-replicate (n - length l) z) (omega arith)

  pub padded-pads : (is_empty : A → Bool) → is_empty z ≡ true → length l ≤ n
      → pads is_empty n (padded z n l) (length l) ≡ true
  padded-pads is_empty e h =
      rw (le-leb (length l) n h, drop-append_seam l (replicate (n - length l) z)) (all_same is_empty z e (n - length l))

-- ---- the state that the arrays hold
row_back : (r : Row) → row_of (app_from r) ≡ r
row_back r =
    rw (padded-list 0 32 r.app.uses, padded-list 0 32 r.grants, padded-list 0 15 r.groups)

rows_back : (rs : List Row) → map row_of (map app_from rs) ≡ rs
rows_back [] = refl
rows_back (r ∷ rs) = rw (row_back r, rows_back rs)

rows-list : (rs : List Row) → take (length rs) (padded zero_app 16 (map app_from rs)) ≡ map app_from rs
rows-list rs = rw (sym (length-map app_from rs)) (padded-list zero_app 16 (map app_from rs))

pub model-back : (s : State) → model_of (device_of s) (lent_of 128 s) ≡ s
unfolding model_of device_of
model-back s =
    rw (
      rows-list s.rows,
      rows_back s.rows,
      padded-list zero_definition 256 s.definitions,
      padded-list zero_part 64 s.parts,
      padded-list zero_resource 128 s.resources,
      padded-list zero_instance 64 s.instances,
      padded-list zero_loan 128 s.loans,
    )

-- ---- stored as it has to be
app-pads : (r : Row) → length r.app.uses ≤ 32 → length r.grants ≤ 32 → length r.groups ≤ 15
    → app_pads (app_from r) ≡ true
app-pads r u g k =
    both (padded-pads 0 32 r.app.uses is_zero refl u)
    (both (padded-pads 0 32 r.grants is_zero refl g) (padded-pads 0 15 r.groups is_zero refl k))

zero-app : is_zero_app zero_app ≡ true
zero-app = refl

pub fits-formed : (s : State) → Fits large s → formed (device_of s) (lent_of 128 s) ≡ true
unfolding formed device_of
fits-formed s f =
    both (both apps (rw rows (all_map app_pads app_from s.rows ∙ mem-all (λ r. app_pads (app_from r)) s.rows each)))
    (both (padded-pads zero_definition 256 s.definitions is_zero_definition refl f.definitions)
    (both (padded-pads zero_part 64 s.parts is_zero_part refl f.components)
    (both (padded-pads zero_resource 128 s.resources is_zero_resource refl f.resources)
    (both (both (padded-pads zero_instance 64 s.instances is_zero_instance refl f.instances) running) loans))))
  where
    rows : take (length s.rows) (padded zero_app 16 (map app_from s.rows)) ≡ map app_from s.rows
    rows = rows-list s.rows

    each : (r : Row) → Memᴰ r s.rows → app_pads (app_from r) ≡ true
    each r h = app-pads r (f.uses h) (f.grants h) (f.groups h)

    apps : pads is_zero_app 16 (padded zero_app 16 (map app_from s.rows)) (length s.rows) ≡ true
    apps = subst (λ (n : ℕ). pads is_zero_app 16 (padded zero_app 16 (map app_from s.rows)) n ≡ true)
        (length-map app_from s.rows)
        (padded-pads zero_app 16 (map app_from s.rows) is_zero_app zero-app
        (rw (length-map app_from s.rows) f.apps))

    running : eqb (mask_of s.instances)
        (mask_of (take (length s.instances) (padded zero_instance 64 s.instances))) ≡ true
    running = rw (padded-list zero_instance 64 s.instances) (eq-eqb (mask_of s.instances) _ refl)

    loans : pads is_zero_loan (length (lent_of 128 s)) (lent_of 128 s) (length s.loans) ≡ true
    loans = rw (padded-length zero_loan 128 s.loans f.loans)
        (padded-pads zero_loan 128 s.loans is_zero_loan refl f.loans)

-- the arrays of a valid state are a valid device
pub valid-stored : (s : State) → valid large s ≡ true → valid_stored (device_of s) (lent_of 128 s) ≡ true
unfolding valid_stored
valid-stored s h =
    let f = valid-fits large s h in
    both (eq-eqb (length (lent_of 128 s)) 128 (padded-length zero_loan 128 s.loans f.loans))
    (both (fits-formed s f) (rw (model-back s) h))

-- ---- the running numbers
-- n and the k - 1 numbers after it
unfoldable from : ℕ → ℕ → List ℕ
from n zero = []
from n (suc k) = n ∷ from (suc n) k

from_one : from 1 64 ≡ upto 64
unfolding from upto
from_one = refl

low : (t : Bool) (n : ℕ) → (bit t + 2 * n) % 2 ≡ bit t
low true n = omega arith
low false n = omega arith

high : (t : Bool) (n : ℕ) → (bit t + 2 * n) / 2 ≡ n
high true n = omega arith
high false n = omega arith

ones-digits : (f : ℕ → Bool) (n k : ℕ) → ones (digits_of f n k) ≡ length (keep f (from n k))
unfolding from digits_of
ones-digits f n zero = unfold ones in refl
ones-digits f n (suc k) =
    ones_step (bit (f n) + 2 * digits_of f (suc n) k)
    ∙ rw (low (f n) (digits_of f (suc n) k), high (f n) (digits_of f (suc n) k), ones-digits f (suc n) k) (go (f n))
  where
    go : (t : Bool) → bit t + length (keep f (from (suc n) k))
        ≡ length (cond t (n ∷ keep f (from (suc n) k)) (keep f (from (suc n) k)))
    go true = omega arith
    go false = omega arith

-- the ones of the running numbers of a valid state are as many as its instances
pub ones-running : (s : State) → valid large s ≡ true → ones (mask_of s.instances) ≡ length s.instances
unfolding mask_of
ones-running s h =
    let ok = (valid→ok large s h).instances in
    ones-digits (runs s.instances) 1 64
    ∙ ap (λ (u : List ℕ). length (keep (runs s.instances) u)) from_one
    ∙ sym (counted (λ (i : Instance). i.number) (upto 64) (distinct-upto 64) s.instances ok.numbers
    (all-mono (λ i. leb 1 i.number && leb i.number 64) (λ i. any (eqb i.number) (upto 64))
    (λ i. among-upto 64 i.number) s.instances ok.range))
