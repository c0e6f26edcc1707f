-- Which done action gives a loan or a grant and which ends it, and what it is to be given and not ended since: document
-- 01, "The log rule". EndedLaws proves that the log answers by these words.
use Rattle.std.specs.Prelude.{ℕ, ◌≡◌, Bool, true, false, ◌&&◌, ◌||◌, List, [], ◌∷◌, ◌++◌, eqb}
use Rattle.std.proofs.Math.Option.{some}
use Rattle.rules.specs.declared.Known.{Known}
use Rattle.rules.specs.declared.Part.{Part}
use Rattle.rules.specs.Lists.{any, test}
use Rattle.rules.specs.Action.{Receiver, an_instance, an_app, same_receiver, Op, reading, writing, carries, install}
use Rattle.rules.specs.Action.{uninstall, grant, revoke, grant_group, revoke_group, start, stop, lend, withdraw, read}
use Rattle.rules.specs.Action.{Action, on_apps, on_grants, on_runs, write, on_loans, query}
use Rattle.rules.specs.View.{View}
use Rattle.rules.specs.Permissions.{known, dangerous}
use Rattle.rules.specs.Grounds.{permission_for}
use Rattle.history.specs.Log.{Past, is_of, is_by, log_part, log_defined}

-- ---- an operation lent to a receiver on a resource
unfoldable pub gives_loan : Receiver → (provider uri : ℕ) → Op → Action → Bool
gives_loan r p u op (on_apps z) = false
gives_loan r p u op (on_grants z) = false
gives_loan r p u op (on_runs z) = false
gives_loan r p u op (write q n y x) = false
gives_loan r p u op (on_loans (lend o q n y j)) = (same_receiver j r && (eqb q p && eqb y u)) && carries op o
gives_loan r p u op (on_loans (withdraw o q n y)) = false
gives_loan r p u op (query z) = false

-- a withdraw of the operation on the resource, the uninstall of the provider's app, or the receiver's end; h is what
-- was done before
unfoldable pub ends_loan : Receiver → (provider uri : ℕ) → Op → List Past → Action → Bool
ends_loan r p u op h (on_apps (install i m)) = false
ends_loan r p u op h (on_apps (uninstall b)) = test (log_part h p) (is_of b) || same_receiver r (an_app b)
ends_loan r p u op h (on_grants z) = false
ends_loan r p u op h (on_runs (start c n)) = false
ends_loan r p u op h (on_runs (stop n)) = same_receiver r (an_instance n)
ends_loan r p u op h (write q n y x) = false
ends_loan r p u op h (on_loans (lend o q n y j)) = false
ends_loan r p u op h (on_loans (withdraw o q n y)) = (eqb q p && eqb y u) && carries op o
ends_loan r p u op h (query z) = false

-- ---- an individual grant
unfoldable pub gives_grant : (app permission : ℕ) → Action → Bool
gives_grant a p (on_apps z) = false
gives_grant a p (on_grants (grant b q)) = eqb b a && eqb q p
gives_grant a p (on_grants (revoke b q)) = false
gives_grant a p (on_grants (grant_group b g)) = false
gives_grant a p (on_grants (revoke_group b g)) = false
gives_grant a p (on_runs z) = false
gives_grant a p (write q n u x) = false
gives_grant a p (on_loans z) = false
gives_grant a p (query z) = false

-- its revoke, the uninstall of its app, or the uninstall of the app that defines the permission then
unfoldable pub ends_grant : (app permission : ℕ) → List Past → Action → Bool
ends_grant a p h (on_apps (install i m)) = false
ends_grant a p h (on_apps (uninstall b)) = eqb b a || test (log_defined h p) (is_by b)
ends_grant a p h (on_grants (grant b q)) = false
ends_grant a p h (on_grants (revoke b q)) = eqb b a && eqb q p
ends_grant a p h (on_grants (grant_group b g)) = false
ends_grant a p h (on_grants (revoke_group b g)) = false
ends_grant a p h (on_runs z) = false
ends_grant a p h (write q n u x) = false
ends_grant a p h (on_loans z) = false
ends_grant a p h (query z) = false

-- ---- a group grant
unfoldable pub gives_group : (app group : ℕ) → Action → Bool
gives_group a g (on_apps z) = false
gives_group a g (on_grants (grant b p)) = false
gives_group a g (on_grants (revoke b p)) = false
gives_group a g (on_grants (grant_group b f)) = eqb b a && eqb f g
gives_group a g (on_grants (revoke_group b f)) = false
gives_group a g (on_runs z) = false
gives_group a g (write p n u x) = false
gives_group a g (on_loans z) = false
gives_group a g (query z) = false

-- its revoke or the uninstall of its app
unfoldable pub ends_group : (app group : ℕ) → List Past → Action → Bool
ends_group a g h (on_apps (install i m)) = false
ends_group a g h (on_apps (uninstall b)) = eqb b a
ends_group a g h (on_grants (grant b p)) = false
ends_group a g h (on_grants (revoke b p)) = false
ends_group a g h (on_grants (grant_group b f)) = false
ends_group a g h (on_grants (revoke_group b f)) = eqb b a && eqb f g
ends_group a g h (on_runs z) = false
ends_group a g h (write p n u x) = false
ends_group a g h (on_loans z) = false
ends_group a g h (query z) = false

-- ---- given, and not ended since
-- one of the newer actions ends it, each over what was done before
unfoldable pub ended_in : (List Past → Action → Bool) → (newer older : List Past) → Bool
ended_in ends [] older = false
ended_in ends (e ∷ newer) older = ends (newer ++ older) e.action || ended_in ends newer older

-- the log has an action that gives it, and none of those done later ends it
pub record Lasting (gives : Action → Bool) (ends : List Past → Action → Bool) (h : List Past) : Type 0 where
  pub newer : List Past
  pub given : Past
  pub older : List Past
  pub split : h ≡ newer ++ (given ∷ older)
  pub gave : gives given.action ≡ true
  pub unended : ended_in ends newer (given ∷ older) ≡ false

-- the log has an action that ends it, and none of those done later gives it anew
pub record EndedSince (gives : Action → Bool) (ends : List Past → Action → Bool) (h : List Past) : Type 0 where
  pub newer : List Past
  pub ending : Past
  pub older : List Past
  pub split : h ≡ newer ++ (ending ∷ older)
  pub ended : ends older ending.action ≡ true
  pub not_anew : any (λ e. gives e.action) newer ≡ false

-- ---- accesses
-- the action reads or writes the resource, by instance n
pub data Accesses (p n u : ℕ) : Op → Action → Type 0 where
  reads : Accesses p n u reading (query (read p n u))
  writes : {x : ℕ} → Accesses p n u writing (write p n u x)

-- the provider's permission for the operation is q, a dangerous one, whose definition in force is d
pub record Guarded (v : View) (k : Part) (op : Op) (q : ℕ) (d : Known) : Type 0 where
  pub permission : permission_for op k.component ≡ q
  pub needed : eqb q 0 ≡ false
  pub defined : known v q ≡ some d
  pub level : dangerous d ≡ true
