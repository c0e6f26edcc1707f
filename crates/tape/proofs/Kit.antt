-- What the proofs of the functions cite, under one name.
pub use Prim.Native.Nat.{◌+◌, ◌*◌, ◌≤◌}
pub use mathlib.Core.Path.{◌≡◌, refl, ap, ◌∙◌}
pub use native.Mathlib.Omega.{arith}
