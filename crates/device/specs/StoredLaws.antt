-- What the tests of a stored device say, one by one, and the bounds that its counts then have.
use Rattle.std.specs.Prelude.{ℕ, zero, suc, ◌≤◌, ◌<◌, ◌≡◌, Bool, true, ◌&&◌, List, [], ◌∷◌, length, take, drop, get_or}
use Rattle.std.specs.Prelude.{eqb, leb}
use Rattle.std.proofs.Common.{arith, not-suc-le-zero, le_of_suc-le-suc, eqb-true, leb-true}
use Rattle.rules.specs.declared.Loan.{Loan}
use Rattle.rules.specs.Lists.{all}
use Rattle.rules.specs.ListsLaws.{and_left, and_right}
use Rattle.state.specs.declared.App.{App}
use Rattle.state.specs.declared.Device.{Device}
use Rattle.state.specs.Stored.{is_zero, is_zero_definition, is_zero_part, is_zero_resource, is_zero_instance}
use Rattle.state.specs.Stored.{is_zero_loan, is_zero_app, pads, app_pads, mask_of, formed}

-- ---- what the tests say, one by one
pub record Formed (d : Device) (lent : List Loan) : Type 0 where
  pub apps : pads is_zero_app 16 d.apps.entries d.apps.count ≡ true
  pub lists : all app_pads (take d.apps.count d.apps.entries) ≡ true
  pub definitions : pads is_zero_definition 256 d.definitions.entries d.definitions.count ≡ true
  pub parts : pads is_zero_part 64 d.parts.entries d.parts.count ≡ true
  pub resources : pads is_zero_resource 128 d.resources.entries d.resources.count ≡ true
  pub instances : pads is_zero_instance 64 d.instances.list.entries d.instances.list.count ≡ true
  pub running : d.instances.running ≡ mask_of (take d.instances.list.count d.instances.list.entries)
  pub loans : pads is_zero_loan (length lent) lent d.lent ≡ true

-- two tests and the rest
both_of : (a b : Bool) → a && b ≡ true → (a ≡ true) × (b ≡ true)
both_of a b e = (and_left a b e, and_right a b e)

pub formed-parts : (d : Device) (lent : List Loan) → formed d lent ≡ true → Formed d lent
unfolding formed
formed-parts d lent e =
    let l = pads is_zero_loan (length lent) lent d.lent in
    let m = eqb d.instances.running (mask_of (take d.instances.list.count d.instances.list.entries)) in
    let i = pads is_zero_instance 64 d.instances.list.entries d.instances.list.count in
    let r = pads is_zero_resource 128 d.resources.entries d.resources.count in
    let p = pads is_zero_part 64 d.parts.entries d.parts.count in
    let f = pads is_zero_definition 256 d.definitions.entries d.definitions.count in
    let t = all app_pads (take d.apps.count d.apps.entries) in
    let a = pads is_zero_app 16 d.apps.entries d.apps.count in
    let e1 = both_of (a && t) (f && (p && (r && ((i && m) && l)))) e in
    let e2 = both_of a t e1.0 in
    let e3 = both_of f (p && (r && ((i && m) && l))) e1.1 in
    let e4 = both_of p (r && ((i && m) && l)) e3.1 in
    let e5 = both_of r ((i && m) && l) e4.1 in
    let e6 = both_of (i && m) l e5.1 in
    let e7 = both_of i m e6.0 in
    record {
      apps = e2.0;
      lists = e2.1;
      definitions = e3.0;
      parts = e4.0;
      resources = e5.0;
      instances = e7.0;
      running = eqb-true d.instances.running (mask_of (take d.instances.list.count d.instances.list.entries)) e7.1;
      loans = e6.1;
    }

-- the count is not past the array
pub pads-room : {A : Type 0} (is_empty : A → Bool) (n : ℕ) (l : List A) (k : ℕ) → pads is_empty n l k ≡ true → k ≤ n
pads-room is_empty n l k e = leb-true k n (and_left (leb k n) (all is_empty (drop k l)) e)

pub record Counts (d : Device) : Type 0 where
  pub apps : d.apps.count ≤ 16
  pub definitions : d.definitions.count ≤ 256
  pub parts : d.parts.count ≤ 64
  pub resources : d.resources.count ≤ 128
  pub instances : d.instances.list.count ≤ 64
  pub loans : d.lent ≤ 128

pub counts : (d : Device) (lent : List Loan) → length lent ≡ 128 → Formed d lent → Counts d
counts d lent long f = record {
  apps = pads-room is_zero_app 16 d.apps.entries d.apps.count f.apps;
  definitions = pads-room is_zero_definition 256 d.definitions.entries d.definitions.count f.definitions;
  parts = pads-room is_zero_part 64 d.parts.entries d.parts.count f.parts;
  resources = pads-room is_zero_resource 128 d.resources.entries d.resources.count f.resources;
  instances = pads-room is_zero_instance 64 d.instances.list.entries d.instances.list.count f.instances;
  loans = omega (arith, pads-room is_zero_loan (length lent) lent d.lent f.loans);
}

pub record AppCounts (a : App) : Type 0 where
  pub used : a.uses.count ≤ 32
  pub granted : a.grants.count ≤ 32
  pub grouped : a.groups.count ≤ 15

pub app-counts : (a : App) → app_pads a ≡ true → AppCounts a
app-counts a e =
    let u = pads is_zero 32 a.uses.entries a.uses.count in
    let g = pads is_zero 32 a.grants.entries a.grants.count in
    let o = pads is_zero 15 a.groups.entries a.groups.count in
    let e1 = both_of u (g && o) e in
    let e2 = both_of g o e1.1 in
    record {
      used = pads-room is_zero 32 a.uses.entries a.uses.count e1.0;
      granted = pads-room is_zero 32 a.grants.entries a.grants.count e2.0;
      grouped = pads-room is_zero 15 a.groups.entries a.groups.count e2.1;
    }

-- what holds of every entry holds of the one at a place
pub all-get : {A : Type 0} (f : A → Bool) (l : List A) (k i : ℕ) (d : A) → all f (take k l) ≡ true → i < k
    → i < length l → f (get_or l i d) ≡ true
all-get f l zero i d e h b = absurd (not-suc-le-zero h)
all-get f [] (suc k) i d e h b = absurd (not-suc-le-zero b)
all-get f (x ∷ l) (suc k) zero d e h b = and_left (f x) (all f (take k l)) e
all-get f (x ∷ l) (suc k) (suc i) d e h b =
    all-get f l k i d (and_right (f x) (all f (take k l)) e) (le_of_suc-le-suc h) (le_of_suc-le-suc b)
