-- A device that is stored as it has to be is the one that its lists give, to the last place, and so is its lent table.
use Rattle.std.specs.Prelude.{ℕ, ◌-◌, ◌≡◌, Bool, true, not, ◌&&◌, length, take, drop, replicate, eqb, leb}
use Rattle.std.proofs.Math.Path.{refl}
use Rattle.std.proofs.Common.{sym, ap, ◌∙◌, take-append-drop, length-append, length-drop, arith, eqb-true, leb-true}
use mathlib.Core.List.{List, [], ◌∷◌, ◌++◌, map}
use Rattle.std.proofs.lemmas.Bool.{not-true}
use Rattle.manifest.specs.declared.Component.{Component}
use Rattle.manifest.specs.declared.Resource.{Resource}
use Rattle.rules.specs.declared.Definition.{Definition}
use Rattle.rules.specs.declared.Part.{Part}
use Rattle.rules.specs.declared.Instance.{Instance}
use Rattle.rules.specs.declared.Loan.{Loan}
use Rattle.rules.specs.Lists.{all}
use Rattle.rules.specs.ListsLaws.{and_left, and_right, both, all_append, all-mem, mem-all, length-map}
use Rattle.state.specs.declared.App.{App}
use Rattle.state.specs.declared.Device.{Device}
use Rattle.state.specs.Stored.{zero_definition, zero_component, zero_part, zero_resource, zero_instance, zero_loan}
use Rattle.state.specs.Stored.{zero_app, row_of, app_from, is_zero, is_zero_definition, is_zero_component, is_zero_part}
use Rattle.state.specs.Stored.{is_zero_resource, is_zero_instance, is_zero_loan, app_pads, is_zero_app}
use Rattle.state.specs.Stored.{mask_of, model_of, device_of, lent_of, padded, pads, formed}

-- ---- a padded list is the array that it came from
module _ {A : Type 0} (z : A) (is_empty : A → Bool) where
  -- what is empty is z
  abbrev Empties : Type 0
  Empties = (x : A) → is_empty x ≡ true → x ≡ z

  all-empty : Empties → (l : List A) → all is_empty l ≡ true → l ≡ replicate (length l) z
  all-empty h [] e = refl
  all-empty h (x ∷ l) e =
      let first : x ≡ z = h x (and_left (is_empty x) _ e) in
      let rest = all-empty h l (and_right (is_empty x) _ e) in
      cc

  -- c entries of an array of n
  count-taken : (n : ℕ) (l : List A) (c : ℕ) → length l ≡ n → pads is_empty n l c ≡ true → length (take c l) ≡ c
  count-taken n l c len e =
      let low = leb-true c n (and_left (leb c n) _ e) in
      let whole = ap length (take-append-drop c l) in
      let two = length-append (take c l) (drop c l) in
      let rest = length-drop c l in
      omega arith

  padded-taken : Empties → (n : ℕ) (l : List A) (c : ℕ) → length l ≡ n → pads is_empty n l c ≡ true
      → padded z n (take c l) ≡ l
  padded-taken h n l c len e =
      let low = leb-true c n (and_left (leb c n) _ e) in
      let taken = count-taken n l c len e in
      let rest = length-drop c l in
      let same : n - length (take c l) ≡ length (drop c l) = omega arith in
      ap (λ (k : ℕ). take c l ++ replicate k z) same
      ∙ ap (λ (r : List A). take c l ++ r) (sym (all-empty h (drop c l) (and_right (leb c n) _ e)))
      ∙ take-append-drop c l

-- ---- what is empty is zero
zero : (n : ℕ) → is_zero n ≡ true → n ≡ 0
zero n e = eqb-true n 0 e

zero-definition : (d : Definition) → is_zero_definition d ≡ true → d ≡ zero_definition
zero-definition d e =
    let h = and_right (is_zero d.app) _ e in
    let i = and_right (is_zero d.define.permission) _ h in
    let app = zero d.app (and_left (is_zero d.app) _ e) in
    let permission = zero d.define.permission (and_left (is_zero d.define.permission) _ h) in
    let level = zero d.define.level (and_left (is_zero d.define.level) _ i) in
    let group = zero d.define.group (and_right (is_zero d.define.level) _ i) in
    λ j. record { app = app j; define = record { permission = permission j; level = level j; group = group j } }

zero-component : (c : Component) → is_zero_component c ≡ true → c ≡ zero_component
zero-component c e =
    let four = (is_zero c.number && is_zero c.kind) && (is_zero c.exported && is_zero c.shares) in
    let l = and_left four _ e in
    let r = and_right four _ e in
    let a = and_left (is_zero c.number && is_zero c.kind) _ l in
    let b = and_right (is_zero c.number && is_zero c.kind) _ l in
    let s = and_right (is_zero c.start) _ r in
    let number = zero c.number (and_left (is_zero c.number) _ a) in
    let kind = zero c.kind (and_right (is_zero c.number) _ a) in
    let exported = zero c.exported (and_left (is_zero c.exported) _ b) in
    let shares = zero c.shares (and_right (is_zero c.exported) _ b) in
    let start = zero c.start (and_left (is_zero c.start) _ r) in
    let read = zero c.read (and_left (is_zero c.read) _ s) in
    let write = zero c.write (and_right (is_zero c.read) _ s) in
    λ j. record {
      number = number j;
      kind = kind j;
      exported = exported j;
      shares = shares j;
      start = start j;
      read = read j;
      write = write j;
    }

zero-part : (k : Part) → is_zero_part k ≡ true → k ≡ zero_part
zero-part k e =
    let app = zero k.app (and_left (is_zero k.app) _ e) in
    let component = zero-component k.component (and_right (is_zero k.app) _ e) in
    λ j. record { app = app j; component = component j }

zero-resource : (r : Resource) → is_zero_resource r ≡ true → r ≡ zero_resource
zero-resource r e =
    let h = and_right (is_zero r.provider) _ e in
    let provider = zero r.provider (and_left (is_zero r.provider) _ e) in
    let uri = zero r.uri (and_left (is_zero r.uri) _ h) in
    let value = zero r.value (and_right (is_zero r.uri) _ h) in
    λ j. record { provider = provider j; uri = uri j; value = value j }

zero-instance : (x : Instance) → is_zero_instance x ≡ true → x ≡ zero_instance
zero-instance x e =
    let number = zero x.number (and_left (is_zero x.number) _ e) in
    let component = zero x.component (and_right (is_zero x.number) _ e) in
    λ j. record { number = number j; component = component j }

zero-loan : (x : Loan) → is_zero_loan x ≡ true → x ≡ zero_loan
zero-loan x e =
    let a = and_left (is_zero x.kind && is_zero x.receiver) _ e in
    let b = and_right (is_zero x.kind && is_zero x.receiver) _ e in
    let c = and_right (is_zero x.provider) _ b in
    let kind = zero x.kind (and_left (is_zero x.kind) _ a) in
    let receiver = zero x.receiver (and_right (is_zero x.kind) _ a) in
    let provider = zero x.provider (and_left (is_zero x.provider) _ b) in
    let uri = zero x.uri (and_left (is_zero x.uri) _ c) in
    let operations = zero x.operations (and_right (is_zero x.uri) _ c) in
    λ j. record {
      kind = kind j;
      receiver = receiver j;
      provider = provider j;
      uri = uri j;
      operations = operations j;
    }

-- ---- apps, whose lists are arrays too
unfoldable pub is_sized : App → Bool
is_sized a = eqb (length a.uses.entries) 32 && (eqb (length a.grants.entries) 32 && eqb (length a.groups.entries) 15)

-- an app is the one that its row gives
app-same : (a : App) → app_pads a ≡ true → is_sized a ≡ true → app_from (row_of a) ≡ a
unfolding is_sized
app-same a e s =
    let f = and_right (pads is_zero 32 a.uses.entries a.uses.count) _ e in
    let t = and_right (eqb (length a.uses.entries) 32) _ s in
    let uses = and_left (pads is_zero 32 a.uses.entries a.uses.count) _ e in
    let grants = and_left (pads is_zero 32 a.grants.entries a.grants.count) _ f in
    let groups = and_right (pads is_zero 32 a.grants.entries a.grants.count) _ f in
    let u = eqb-true (length a.uses.entries) 32 (and_left (eqb (length a.uses.entries) 32) _ s) in
    let g = eqb-true (length a.grants.entries) 32 (and_left (eqb (length a.grants.entries) 32) _ t) in
    let r = eqb-true (length a.groups.entries) 15 (and_right (eqb (length a.grants.entries) 32) _ t) in
    λ j. record {
      number = a.number;
      signer = a.signer;
      image = a.image;
      uses = record {
        entries = padded-taken 0 is_zero zero 32 a.uses.entries a.uses.count u uses j;
        count = count-taken 0 is_zero 32 a.uses.entries a.uses.count u uses j;
      };
      grants = record {
        entries = padded-taken 0 is_zero zero 32 a.grants.entries a.grants.count g grants j;
        count = count-taken 0 is_zero 32 a.grants.entries a.grants.count g grants j;
      };
      groups = record {
        entries = padded-taken 0 is_zero zero 15 a.groups.entries a.groups.count r groups j;
        count = count-taken 0 is_zero 15 a.groups.entries a.groups.count r groups j;
      };
    }

zero-app : (a : App) → is_zero_app a && is_sized a ≡ true → a ≡ zero_app
zero-app a e =
    let z = and_left (is_zero_app a) _ e in
    let four = (is_zero a.number && is_zero a.signer) && (not a.image && is_zero a.uses.count) in
    let l = and_left four _ z in
    let r = and_right four _ z in
    let two = is_zero a.grants.count && is_zero a.groups.count in
    let m = and_left (is_zero a.number && is_zero a.signer) _ l in
    let n = and_right (is_zero a.number && is_zero a.signer) _ l in
    let o = and_left two _ r in
    let number = zero a.number (and_left (is_zero a.number) _ m) in
    let signer = zero a.signer (and_right (is_zero a.number) _ m) in
    let image = not-true a.image (and_left (not a.image) _ n) in
    let used = zero a.uses.count (and_right (not a.image) _ n) in
    let granted = zero a.grants.count (and_left (is_zero a.grants.count) _ o) in
    let grouped = zero a.groups.count (and_right (is_zero a.grants.count) _ o) in
    sym (app-same a (and_right two _ r) (and_right (is_zero_app a) _ e))
    ∙ rw (number, signer, image, used, granted, grouped)

apps-same : (l : List App) → all app_pads l ≡ true → all is_sized l ≡ true → map app_from (map row_of l) ≡ l
apps-same [] e s = refl
apps-same (a ∷ l) e s =
    let first = app-same a (and_left (app_pads a) _ e) (and_left (is_sized a) _ s) in
    let rest = apps-same l (and_right (app_pads a) _ e) (and_right (is_sized a) _ s) in
    ap (λ (b : App). b ∷ map app_from (map row_of l)) first ∙ ap (λ (m : List App). a ∷ m) rest

-- ---- the whole
-- the arrays of a device have their lengths, as its type says
pub record Sized (d : Device) : Type 0 where
  pub apps : length d.apps.entries ≡ 16
  pub lists : all is_sized d.apps.entries ≡ true
  pub definitions : length d.definitions.entries ≡ 256
  pub parts : length d.parts.entries ≡ 64
  pub resources : length d.resources.entries ≡ 128
  pub instances : length d.instances.list.entries ≡ 64

-- the tests of `formed`
record Formed (d : Device) (lent : List Loan) : Type 0 where
  apps : pads is_zero_app 16 d.apps.entries d.apps.count ≡ true
  lists : all app_pads (take d.apps.count d.apps.entries) ≡ true
  definitions : pads is_zero_definition 256 d.definitions.entries d.definitions.count ≡ true
  parts : pads is_zero_part 64 d.parts.entries d.parts.count ≡ true
  resources : pads is_zero_resource 128 d.resources.entries d.resources.count ≡ true
  instances : pads is_zero_instance 64 d.instances.list.entries d.instances.list.count ≡ true
  running : d.instances.running ≡ mask_of (take d.instances.list.count d.instances.list.entries)
  loans : pads is_zero_loan (length lent) lent d.lent ≡ true

formed-parts : (d : Device) (lent : List Loan) → formed d lent ≡ true → Formed d lent
unfolding formed
formed-parts d lent e =
    let bs = pads is_zero_app 16 d.apps.entries d.apps.count in
    let ls = all app_pads (take d.apps.count d.apps.entries) in
    let ds = pads is_zero_definition 256 d.definitions.entries d.definitions.count in
    let ks = pads is_zero_part 64 d.parts.entries d.parts.count in
    let rs = pads is_zero_resource 128 d.resources.entries d.resources.count in
    let is = pads is_zero_instance 64 d.instances.list.entries d.instances.list.count in
    let mask = mask_of (take d.instances.list.count d.instances.list.entries) in
    let h₁ = and_left (bs && ls) _ e in
    let h₂ = and_right (bs && ls) _ e in
    let h₃ = and_right ds _ h₂ in
    let h₄ = and_right ks _ h₃ in
    let h₅ = and_right rs _ h₄ in
    let h₆ = and_left (is && eqb d.instances.running mask) _ h₅ in
    record {
      apps = and_left bs ls h₁;
      lists = and_right bs ls h₁;
      definitions = and_left ds _ h₂;
      parts = and_left ks _ h₃;
      resources = and_left rs _ h₄;
      instances = and_left is _ h₆;
      running = eqb-true d.instances.running mask (and_right is _ h₆);
      loans = and_right (is && eqb d.instances.running mask) _ h₅;
    }

all_two : {A : Type 0} (f : A → Bool) (c : ℕ) (l : List A) → all f l ≡ true
    → (all f (take c l) ≡ true) × (all f (drop c l) ≡ true)
all_two f c l e =
    let both = sym (all_append f (take c l) (drop c l)) ∙ ap (all f) (take-append-drop c l) ∙ e in
    (and_left (all f (take c l)) _ both, and_right (all f (take c l)) _ both)

pub same-device : (d : Device) (lent : List Loan) → Sized d → formed d lent ≡ true → device_of (model_of d lent) ≡ d
unfolding device_of model_of
same-device d lent s e =
    let f = formed-parts d lent e in
    let c = d.apps.count in
    let es = d.apps.entries in
    let two = all_two is_sized c es s.lists in
    let listed : map app_from (map row_of (take c es)) ≡ take c es = apps-same (take c es) f.lists two.0 in
    let empty : pads (λ a. is_zero_app a && is_sized a) 16 es c ≡ true =
    both (and_left (leb c 16) _ f.apps) (mem-all (λ a. is_zero_app a && is_sized a) (drop c es)
    (λ a m. both (all-mem is_zero_app m (and_right (leb c 16) _ f.apps)) (all-mem is_sized m two.1))) in
    let apps : padded zero_app 16 (map app_from (map row_of (take c es))) ≡ es =
    ap (padded zero_app 16) listed
    ∙ padded-taken zero_app (λ a. is_zero_app a && is_sized a) zero-app 16 es c s.apps empty in
    let count : length (map row_of (take c es)) ≡ c =
    length-map row_of (take c es) ∙ count-taken zero_app is_zero_app 16 es c s.apps f.apps in
    λ j. record {
      apps = record { entries = apps j; count = count j };
      definitions = record {
        entries = padded-taken zero_definition is_zero_definition zero-definition 256 d.definitions.entries
            d.definitions.count s.definitions f.definitions j;
        count = count-taken zero_definition is_zero_definition 256 d.definitions.entries d.definitions.count
            s.definitions f.definitions j;
      };
      parts = record {
        entries = padded-taken zero_part is_zero_part zero-part 64 d.parts.entries d.parts.count s.parts
            f.parts j;
        count = count-taken zero_part is_zero_part 64 d.parts.entries d.parts.count s.parts f.parts j;
      };
      resources = record {
        entries = padded-taken zero_resource is_zero_resource zero-resource 128 d.resources.entries
            d.resources.count s.resources f.resources j;
        count = count-taken zero_resource is_zero_resource 128 d.resources.entries d.resources.count
            s.resources f.resources j;
      };
      instances = record {
        list = record {
          entries = padded-taken zero_instance is_zero_instance zero-instance 64 d.instances.list.entries
              d.instances.list.count s.instances f.instances j;
          count = count-taken zero_instance is_zero_instance 64 d.instances.list.entries d.instances.list.count
              s.instances f.instances j;
        };
        running = sym f.running j;
      };
      lent = count-taken zero_loan is_zero_loan (length lent) lent d.lent refl f.loans j;
    }

pub same-lent : (d : Device) (lent : List Loan) → formed d lent ≡ true → lent_of (length lent) (model_of d lent) ≡ lent
unfolding model_of
same-lent d lent e =
    padded-taken zero_loan is_zero_loan zero-loan (length lent) lent d.lent refl (formed-parts d lent e).loans
