-- No two differing results meet the contract of a public function: each contract is one equation for the whole result.
-- Document 01, "What the contracts have to say".
use Rattle.std.specs.Prelude.{ℕ, ◌≡◌, List, Bool, Option}
use Rattle.std.proofs.Common.{sym, ◌∙◌}
use Rattle.manifest.specs.declared.Define.{Define}
use Rattle.manifest.specs.declared.Component.{Component}
use Rattle.manifest.specs.declared.Resource.{Resource}
use Rattle.manifest.specs.declared.Sections.{Sections}
use Rattle.manifest.specs.Layout.{u8_at, define_at, component_at, resource_at}
use Rattle.manifest.specs.Good.{good_define, good_component, resource_key}
use Rattle.manifest.specs.Verdict.{verdict_of, answer_of, entry_at, zero_define, zero_component, zero_resource}

-- the general law: what is equal to one thing is equal
pub only_one : {A : Type 0} (it : A) (r r' : A) → r ≡ it → r' ≡ it → r ≡ r'
only_one it r r' e e' = e ∙ sym e'

pub manifest-check-only : (s : List ℕ) (r r' : ℕ) → r ≡ answer_of s → r' ≡ answer_of s → r ≡ r'
manifest-check-only s = only_one (answer_of s)

pub check-only : (s : List ℕ) (r r' : Option Sections) → r ≡ verdict_of s → r' ≡ verdict_of s → r ≡ r'
check-only s = only_one (verdict_of s)

pub byte-at-only : (s : List ℕ) (at r r' : ℕ) → r ≡ u8_at s at → r' ≡ u8_at s at → r ≡ r'
byte-at-only s at = only_one (u8_at s at)

pub define-at-only : (s : List ℕ) (at : ℕ) (r r' : Define) → r ≡ entry_at zero_define define_at 3 s at → r'
    ≡ entry_at zero_define define_at 3 s at → r ≡ r'
define-at-only s at = only_one (entry_at zero_define define_at 3 s at)

pub component-at-only : (s : List ℕ) (at : ℕ) (r r' : Component) → r ≡ entry_at zero_component component_at 8 s at → r'
    ≡ entry_at zero_component component_at 8 s at → r ≡ r'
component-at-only s at = only_one (entry_at zero_component component_at 8 s at)

pub resource-at-only : (s : List ℕ) (at : ℕ) (r r' : Resource) → r ≡ entry_at zero_resource resource_at 8 s at → r'
    ≡ entry_at zero_resource resource_at 8 s at → r ≡ r'
resource-at-only s at = only_one (entry_at zero_resource resource_at 8 s at)

pub good-define-only : (d : Define) (r r' : Bool) → r ≡ good_define d → r' ≡ good_define d → r ≡ r'
good-define-only d = only_one (good_define d)

pub good-component-only : (c : Component) (r r' : Bool) → r ≡ good_component c → r' ≡ good_component c → r ≡ r'
good-component-only c = only_one (good_component c)

pub resource-key-only : (e : Resource) (r r' : ℕ) → r ≡ resource_key e → r' ≡ resource_key e → r ≡ r'
resource-key-only e = only_one (resource_key e)
