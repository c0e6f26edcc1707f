-- What the rules need to know, as questions; whoever answers them, answers one by one.
-- Document 01, "Permissions", "Conditions and effects". The device answers from its tables, the log by walking back.
use Rattle.std.specs.Prelude.{ℕ, Bool, List}
use Rattle.std.proofs.Math.Option.{Option}
use Rattle.manifest.specs.Layout.{Manifest}
use Rattle.manifest.specs.declared.Component.{Component}
use Rattle.manifest.specs.declared.Define.{Define}
use Rattle.rules.specs.declared.Known.{Known}
use Rattle.rules.specs.declared.Part.{Part}
use Rattle.rules.specs.declared.Definition.{Definition}
use Rattle.rules.specs.Action.{Receiver, Op}

-- an installed app; its definitions, components and resources stand in tables of their own
pub record App : Type 0 where
  pub number : ℕ
  pub signer : ℕ
  pub image : Bool
  pub uses : List ℕ

pub record View : Type 0 where
  -- the installed app of a number
  pub app : ℕ → Option App
  -- the installed component of a number, with its app
  pub part : ℕ → Option Part
  -- the definition of a permission by an installed app
  pub defined : ℕ → Option Known
  -- the component of the running instance of a number
  pub runs : ℕ → Option ℕ
  -- was the permission granted to the app
  pub granted : (app permission : ℕ) → Bool
  -- was the group granted to the app
  pub grouped : (app group : ℕ) → Bool
  -- does a loan to the receiver on the resource carry the operation
  pub lent : Receiver → (provider uri : ℕ) → Op → Bool
  -- the stored value of a resource
  pub value : (provider uri : ℕ) → Option ℕ
  -- how many there are
  pub apps : ℕ
  pub components : ℕ
  pub resources : ℕ
  pub running : ℕ
  pub loans : ℕ

-- what an install brings
abbrev pub app_of : Bool → Manifest → App
app_of image m =
    record {
      number = m.app;
      signer = m.signer;
      image = image;
      uses = m.uses;
    }

abbrev pub part_of : Manifest → Component → Part
part_of m c = record { app = m.app; component = c }

abbrev pub definition_of : Manifest → Define → Definition
definition_of m d = record { app = m.app; define = d }
