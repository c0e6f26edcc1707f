-- What the published models prove of theirs, said of this one: source document 002, properties 4, 5 and 7, and source
-- document 000, lemmas 3, 4 and 6 with the last two of the properties before them. SecurityLaws proves it.
use Rattle.std.specs.Prelude.{ℕ, ◌≡◌, Bool, true, false, ◌&&◌, ◌||◌, List, ◌∷◌, ◌++◌, eqb, Ok, Err}
use Rattle.std.proofs.Math.Option.{some}
use Rattle.rules.specs.declared.Known.{Known}
use Rattle.rules.specs.declared.Part.{Part}
use Rattle.rules.specs.declared.Ground.{Ground}
use Rattle.rules.specs.Lists.{is_some, test}
use Rattle.rules.specs.Limits.{Limits}
use Rattle.rules.specs.Action.{Receiver, an_instance, an_app, Op, reading, writing, carries, GrantAction, grant, lend}
use Rattle.rules.specs.Action.{withdraw, read, Action, on_grants, write, on_loans, query}
use Rattle.rules.specs.View.{App, View}
use Rattle.rules.specs.Permissions.{known, dangerous, holds}
use Rattle.rules.specs.Grounds.{is_exported, is_ground, running_app, provider, right_of, ground_of}
use Rattle.rules.specs.Answer.{Answer, done, answer}
use Rattle.state.specs.Tables.{State, granted_in, lent_in, view_of}
use Rattle.state.specs.Effects.{after, device}
use Rattle.state.specs.Valid.{valid}
use Rattle.history.specs.Log.{Past, history, log}
use Rattle.history.specs.Ended.{gives_grant, ends_grant, ended_in, EndedSince}

unfoldable pub is_done : Answer → Bool
is_done (Ok d) = true
is_done (Err n) = false

-- a dangerous permission of group 0
pub record Ungrouped (v : View) (p : ℕ) (d : Known) : Type 0 where
  pub defined : known v p ≡ some d
  pub level : dangerous d ≡ true
  pub group : d.group ≡ 0

-- the log has a done grant of the permission to the app, and since then no revoke of it, no uninstall of the app, and
-- no uninstall of the app that defined it then
pub record GrantedSince (h : List Past) (a p : ℕ) : Type 0 where
  pub newer : List Past
  pub value : ℕ
  pub older : List Past
  pub split : h ≡ newer ++ (record { action = on_grants (grant a p); value = value } ∷ older)
  pub unended : ended_in (ends_grant a p) newer (record { action = on_grants (grant a p); value = value } ∷ older)
      ≡ false

-- instance n runs, of app a; p is a provider, component k; the resource is there
pub record There (v : View) (p n u : ℕ) (a : App) (k : Part) : Type 0 where
  pub provided : provider v p ≡ some k
  pub running : running_app v n ≡ some a
  pub resource : is_some (v.value p u) ≡ true

-- a loan to the instance or to its app carries the operation
abbrev pub is_lent : View → ℕ → App → Part → ℕ → Op → Bool
is_lent v n a k u op =
    v.lent (an_instance n) k.component.number u op || v.lent (an_app a.number) k.component.number u op

pub record Secure (L : Limits) : Type 0 where
  -- a dangerous permission of group 0 is held only after an individual grant, not ended since (002, property 4)
  pub only_granted : (xs : List Action) (a : App) (p : ℕ) (d : Known) → Ungrouped (view_of (device L xs)) p d
      → holds (view_of (device L xs)) a p ≡ true → GrantedSince (history (log L xs)) a.number p
  -- and in a valid state only by an app that has the grant
  pub only_by_grant : (s : State) (a : App) (p : ℕ) (d : Known) → valid L s ≡ true → Ungrouped (view_of s) p d
      → holds (view_of s) a p ≡ true → granted_in s.rows a.number p ≡ true
  -- once revoked, or its app or definer gone, it is not held until granted anew (002, property 5)
  pub only_anew : (xs : List Action) (a : App) (p : ℕ) (d : Known) → Ungrouped (view_of (device L xs)) p d
      → EndedSince (gives_grant a.number p) (ends_grant a.number p) (history (log L xs))
      → holds (view_of (device L xs)) a p ≡ false
  -- a provider that is not exported is read and written from outside exactly under a loan (000, lemmas 3 and 4)
  pub read_lent : (v : View) (p n u : ℕ) (a : App) (k : Part) → There v p n u a k
      → is_exported k.component ≡ false → eqb a.number k.app ≡ false
      → is_done (answer L v (query (read p n u))) ≡ is_lent v n a k u reading
  pub written_lent : (v : View) (p n u x : ℕ) (a : App) (k : Part) → There v p n u a k
      → is_exported k.component ≡ false → eqb a.number k.app ≡ false
      → is_done (answer L v (write p n u x)) ≡ is_lent v n a k u writing
  -- a withdraw reaches every receiver (000, lemma 6), and leaves other resources and other operations as they were
  pub withdrawn : (s : State) (o p n u : ℕ) (g : Ground) (w : ℕ) (r : Receiver) (op : Op) → carries op o ≡ true
      → lent_in (after s (on_loans (withdraw o p n u)) (done g w)).loans r p u op ≡ false
  pub not_withdrawn : (s : State) (o p n u : ℕ) (g : Ground) (w : ℕ) (r : Receiver) (q y : ℕ) (op : Op)
      → (eqb q p && eqb y u) && carries op o ≡ false
      → lent_in (after s (on_loans (withdraw o p n u)) (done g w)).loans r q y op ≡ lent_in s.loans r q y op
  -- a revoke, as every action on grants, leaves every loan as it was, and what is lent still serves (002, property 7)
  pub not_revoked : (s : State) (z : GrantAction) (b : Answer) → (after s (on_grants z) b).loans ≡ s.loans
  pub served_read : (s : State) (z : GrantAction) (b : Answer) (p n u : ℕ) (a : App) (k : Part)
      → There (view_of s) p n u a k → is_lent (view_of s) n a k u reading ≡ true
      → is_done (answer L (view_of (after s (on_grants z) b)) (query (read p n u))) ≡ true
  pub served_write : (s : State) (z : GrantAction) (b : Answer) (p n u x : ℕ) (a : App) (k : Part)
      → There (view_of s) p n u a k → is_lent (view_of s) n a k u writing ≡ true
      → is_done (answer L (view_of (after s (on_grants z) b)) (write p n u x)) ≡ true
  -- only what the giver can do itself is passed on, and withdrawn only by its own right (000, 4.1)
  pub lent_own : (v : View) (o p n u : ℕ) (r : Receiver) (g : Ground) (w : ℕ)
      → answer L v (on_loans (lend o p n u r)) ≡ done g w → (op : Op) → carries op o ≡ true
      → test (ground_of v p n u op) is_ground ≡ true
  pub withdrawn_own : (v : View) (o p n u : ℕ) (g : Ground) (w : ℕ)
      → answer L v (on_loans (withdraw o p n u)) ≡ done g w → (op : Op) → carries op o ≡ true
      → test (right_of v p n op) is_ground ≡ true
