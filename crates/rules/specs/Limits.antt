-- How much a device has room for: document 01, "Conditions and effects" (install) and refusal 15.
use Rattle.std.specs.Prelude.{ℕ}

pub record Limits : Type 0 where
  pub apps : ℕ
  pub components : ℕ
  pub resources : ℕ
  pub instances : ℕ
  pub loans : ℕ

-- the tablet's
abbrev pub large : Limits
large =
    record {
      apps = 16;
      components = 64;
      resources = 128;
      instances = 64;
      loans = 128;
    }
