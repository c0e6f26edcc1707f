-- What the bytes of an action record ask for, and which of them are malformed: document 01, "Action records".
use Rattle.std.specs.Prelude.{ℕ, Bool, true, ◌&&◌, cond, List, [], ◌∷◌, length, eqb, leb}
use Rattle.std.proofs.Math.Option.{Option, none, some}
use Rattle.manifest.specs.Layout.{Manifest, manifest_of, u8_at, u16_at, u32_at}
use Rattle.rules.specs.Lists.{find}
use Rattle.rules.specs.Action.{is_operations, Receiver, an_instance, an_app, install, uninstall, grant, revoke}
use Rattle.rules.specs.Action.{grant_group, revoke_group, start, stop, lend, withdraw, read, ask, malformed, Action}
use Rattle.rules.specs.Action.{on_apps, on_grants, on_runs, write, on_loans, query}

-- what a field may hold: 0 where the table does not list it, 0 or 1 for the image, 1 to 3 for operations
pub data Field : Type 0 where
  unused listed image operations : Field

unfoldable pub fits : Field → ℕ → Bool
fits unused n = eqb n 0
fits listed n = true
fits image n = leb n 1
fits operations n = is_operations n

-- the fields of a record, and the manifest handed with it
pub record Fields : Type 0 where
  pub a : ℕ
  pub b : ℕ
  pub c : ℕ
  pub d : ℕ
  pub e : ℕ
  pub manifest : Manifest

-- code u8, a u8, b u16, c u16, d u16, e u32
unfoldable pub fields_of : (action manifest : List ℕ) → Fields
fields_of s m =
    record {
      a = u8_at s 1;
      b = u16_at s 2;
      c = u16_at s 4;
      d = u16_at s 6;
      e = u32_at s 8;
      manifest = manifest_of m;
    }

-- a row of the table: the code, what each field may hold, and what is asked for
pub record Form : Type 0 where
  pub code : ℕ
  pub a : Field
  pub b : Field
  pub c : Field
  pub d : Field
  pub e : Field
  pub asks : Fields → Action

abbrev form : ℕ → Field → Field → Field → Field → Field → (Fields → Action) → Form
form code a b c d e asks =
    record {
      code = code;
      a = a;
      b = b;
      c = c;
      d = d;
      e = e;
      asks = asks;
    }

abbrev lending : (ℕ → Receiver) → Fields → Action
lending receiver f = on_loans (lend f.a f.b f.c f.d (receiver f.e))

unfoldable pub forms : List Form
forms =
    form 1 image listed unused unused unused (λ f. on_apps (install (eqb f.a 1) f.manifest)) ∷
    form 2 unused listed unused unused unused (λ f. on_apps (uninstall f.b)) ∷
    form 3 unused listed listed unused unused (λ f. on_grants (grant f.b f.c)) ∷
    form 4 unused listed listed unused unused (λ f. on_grants (revoke f.b f.c)) ∷
    form 5 unused listed listed unused unused (λ f. on_grants (grant_group f.b f.c)) ∷
    form 6 unused listed listed unused unused (λ f. on_grants (revoke_group f.b f.c)) ∷
    form 7 unused listed listed unused unused (λ f. on_runs (start f.b f.c)) ∷
    form 8 unused unused listed unused unused (λ f. on_runs (stop f.c)) ∷
    form 9 unused listed listed listed unused (λ f. query (read f.b f.c f.d)) ∷
    form 10 unused listed listed listed listed (λ f. write f.b f.c f.d f.e) ∷
    form 11 operations listed listed listed listed (lending an_instance) ∷
    form 12 operations listed listed listed listed (lending an_app) ∷
    form 13 operations listed listed listed unused (λ f. on_loans (withdraw f.a f.b f.c f.d)) ∷
    form 14 unused listed listed unused unused (λ f. query (ask f.b f.c)) ∷ []

-- each field is as the row says
unfoldable pub fitting : Form → Fields → Bool
fitting t f =
    fits t.a f.a
    && (fits t.b f.b && (fits t.c f.c && (fits t.d f.d && fits t.e f.e)))

-- the row of a record of twelve bytes, by its code
unfoldable pub form_of : List ℕ → Option Form
form_of s = cond (eqb (length s) 12) (find (λ t. eqb t.code (u8_at s 0)) forms) none

unfoldable pub asked : Option Form → Fields → Action
asked none f = query malformed
asked (some t) f = cond (fitting t f) (t.asks f) (query malformed)

-- what the bytes of an action ask for, with the bytes of a manifest handed to it
unfoldable pub action_of : (action manifest : List ℕ) → Action
action_of s m = asked (form_of s) (fields_of s m)
