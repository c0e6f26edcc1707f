-- What the bytes of an action record ask for, as a case with numbers: document 01, "Action records".
-- The fields' table is that of the rules, and each case is an action of the rules.
use Rattle.std.specs.Prelude.{ℕ, Bool, cond, List, [], ◌∷◌, length, eqb, Option, Some, None}
use Rattle.manifest.specs.Layout.{manifest_of, u8_at, u16_at, u32_at}
use Rattle.rules.specs.Lists.{find, test, map_option}
use Rattle.rules.specs.Action.{install, uninstall, grant, revoke, grant_group, revoke_group, start}
use Rattle.rules.specs.Action.{stop}
use Rattle.rules.specs.Action.{lend, withdraw, read, ask, malformed, Action, on_apps, on_grants, on_runs, write}
use Rattle.rules.specs.Action.{on_loans}
use Rattle.rules.specs.Action.{query}
use Rattle.rules.specs.Record.{Fields, forms, fitting}
use Rattle.tables.specs.declared.Receiver.TheVariants.{Instance, App}
use Rattle.tables.specs.Looking.{option_of, receiver_of}
use Rattle.loans.specs.declared.Record.{Record}
use Rattle.loans.specs.declared.Asked.{Asked}
use Rattle.loans.specs.declared.Asked.TheVariants.{Install, Uninstall, Grant, Revoke, GrantGroup, RevokeGroup}
use Rattle.loans.specs.declared.Asked.TheVariants.{Start, Stop, Read, Write, Lend, Withdraw, Ask}

-- code u8, a u8, b u16, c u16, d u16, e u32
abbrev pub record_of : List ℕ → Record
record_of s =
    record {
      code = u8_at s 0;
      a = u8_at s 1;
      b = u16_at s 2;
      c = u16_at s 4;
      d = u16_at s 6;
      e = u32_at s 8;
    }

-- the fields, with the bytes of a manifest handed to the action
abbrev pub fields_with : List ℕ → Record → Fields
fields_with m r =
    record {
      a = r.a;
      b = r.b;
      c = r.c;
      d = r.d;
      e = r.e;
      manifest = manifest_of m;
    }

-- the code is listed, and the fields are as its row says
unfoldable pub well_formed : Record → Bool
well_formed r = test (find (λ t. eqb t.code r.code) forms) (λ t. fitting t (fields_with [] r))

-- what each code asks for
pub record Case : Type 0 where
  pub code : ℕ
  pub asks : Record → Asked

infix 68 ◌asks◌
abbrev ◌asks◌ : ℕ → (Record → Asked) → Case
n asks f = record { code = n; asks = f }

unfoldable pub cases : List Case
cases =
    1 asks (λ r. Install (eqb r.a 1) r.b) ∷
    2 asks (λ r. Uninstall r.b) ∷
    3 asks (λ r. Grant r.b r.c) ∷
    4 asks (λ r. Revoke r.b r.c) ∷
    5 asks (λ r. GrantGroup r.b r.c) ∷
    6 asks (λ r. RevokeGroup r.b r.c) ∷
    7 asks (λ r. Start r.b r.c) ∷
    8 asks (λ r. Stop r.c) ∷
    9 asks (λ r. Read r.b r.c r.d) ∷
    10 asks (λ r. Write r.b r.c r.d r.e) ∷
    11 asks (λ r. Lend r.a r.b r.c r.d (Instance r.e)) ∷
    12 asks (λ r. Lend r.a r.b r.c r.d (App r.e)) ∷
    13 asks (λ r. Withdraw r.a r.b r.c r.d) ∷
    14 asks (λ r. Ask r.b r.c) ∷ []

unfoldable pub asked_by : Record → Option Asked
asked_by r = option_of (map_option (λ k. k.asks r) (find (λ k. eqb k.code r.code) cases))

-- a record of twelve bytes that is well formed asks for something, and other bytes for nothing
unfoldable pub asked_of : List ℕ → Option Asked
asked_of s = cond (eqb (length s) 12) (cond (well_formed (record_of s)) (asked_by (record_of s)) None) None

-- the action that a case is, with the bytes of a manifest handed to it
unfoldable pub action_from : Asked → List ℕ → Action
action_from (Install image place) m = on_apps (install image (manifest_of m))
action_from (Uninstall b) m = on_apps (uninstall b)
action_from (Grant b p) m = on_grants (grant b p)
action_from (Revoke b p) m = on_grants (revoke b p)
action_from (GrantGroup b g) m = on_grants (grant_group b g)
action_from (RevokeGroup b g) m = on_grants (revoke_group b g)
action_from (Start c n) m = on_runs (start c n)
action_from (Stop n) m = on_runs (stop n)
action_from (Read p n u) m = query (read p n u)
action_from (Write p n u x) m = write p n u x
action_from (Lend o p n u r) m = on_loans (lend o p n u (receiver_of r))
action_from (Withdraw o p n u) m = on_loans (withdraw o p n u)
action_from (Ask b p) m = query (ask b p)

-- bytes that ask for nothing are a malformed action
abbrev pub action_for : Option Asked → List ℕ → Action
action_for (Some x) m = action_from x m
action_for None m = query malformed
